-- Each event has its cause.
use Rattle.std.specs.Prelude.{ℕ, zero, suc, ◌+◌, ◌-◌, ◌^◌, ◌<◌, ◌≤◌, ◌≡◌, ◌≢◌, ◌==◌, ◌&&◌, ◌||◌, ◌⊎◌, not, Bool, true}
use Rattle.std.specs.Prelude.{false, IsTrue, nat_lt, if◌then◌else◌, List, [], ◌∷◌, ◌++◌, length, filter, slice_index}
use Rattle.std.specs.Prelude.{slice_index_or, Some, None, is_some}
use Rattle.std.specs.List.{list_any, list_all}
use Rattle.si_model.specs.declared.row.Key.{Key}
use Rattle.si_model.specs.declared.log.Stamp.{Stamp}
use Rattle.si_model.specs.declared.log.Outcome.{Outcome}
use Rattle.si_model.specs.declared.log.Outcome.TheVariants.{Spent, Again, Locked, Newer, TooOld, Full}
use Rattle.si_model.specs.declared.log.MoveEnd.{MoveEnd}
use Rattle.si_model.specs.declared.log.MoveEnd.TheVariants.{Done, Back, Cut as MoveCut}
use Rattle.si_model.specs.declared.log.Finish.{Finish}
use Rattle.si_model.specs.declared.log.Finish.TheVariants.{RolledOn}
use Rattle.si_model.specs.declared.log.Event.{Event}
use Rattle.si_model.specs.declared.log.Event.TheVariants.{Tried, NoRoom, Moved, Collected, CollectAgain, CollectCut}
use Rattle.si_model.specs.declared.log.Event.TheVariants.{TidyCut, TailCut, Finished}
use Rattle.si_model.specs.Lists.{concat_of, last_of}
use Rattle.si_model.specs.Rows.{key_at, same_key, writes_key}
use Rattle.si_model.specs.Evaluation.{guard_keys}
use Rattle.si_model.specs.History.{same_stamp, stamp_at, stamp_of, has_stamp, is_version}
use Rattle.si_model.specs.Tells.{Tell, commit_in, last_number, is_cut_attempt}
use Rattle.si_model.specs.View.{View}
use Rattle.si_model.specs.Setting.{Setting}
use Rattle.si_model.specs.Answers.{lock_key}

-- the events of all workers but j; i is the number of the first of them
abbrev pub others_from : ℕ → ℕ → List (List Tell) → List Tell
others_from i j [] = []
others_from i j (ts ∷ tss) = if i == j then others_from (suc i) j tss else ts ++ others_from (suc i) j tss

-- the events of all workers but j
abbrev pub others_of : ℕ → List (List Tell) → List Tell
others_of j tss = others_from 1 j tss

-- worker j's events; there is no worker 0
abbrev pub tells_by : ℕ → List (List Tell) → List Tell
tells_by zero tss = []
tells_by (suc j) tss = slice_index_or tss j []

-- does the event list the lock of this version
abbrev pub lists_lock : Key → Stamp → Tell → Bool
lists_lock key s t = list_any (λ l. same_key (lock_key l) key && same_stamp l.stamp s) t.locks

-- does it list a lock of the key
abbrev pub locks_key : Key → Tell → Bool
locks_key key t = list_any (λ l. same_key (lock_key l) key) t.locks

-- a cut attempt that lists a lock of the key
abbrev pub is_cut_locking : Key → Tell → Bool
is_cut_locking key t = is_cut_attempt t.event && locks_key key t

-- the last event is a cut attempt that lists a lock of the key
abbrev pub ends_locking : Key → List Tell → Bool
ends_locking key ts = elim (last_of ts) [ None ↦ false | Some t ↦ is_cut_locking key t ]

-- is the stamp one of an entry that writes the key
abbrev pub is_written : View → Key → Stamp → Bool
is_written v key s = list_any (λ e. same_stamp (stamp_of e) s && writes_key e.writes key) v.all

-- a collect that has entry n for worker i
abbrev pub collects_entry : ℕ → ℕ → Event → Bool
collects_entry i n (Collected b prefix entries cut) = slice_index entries (i - 1) == n
collects_entry i n event = false

-- a collect that has a snapshot
abbrev pub has_collected : Event → Bool
has_collected (Collected b prefix entries cut) = true
has_collected event = false

-- a move into the bucket
abbrev pub moves_into : ℕ → Event → Bool
moves_into b (Moved c table key s how) = c == b
moves_into b event = false

-- a move that ended so of the version
abbrev pub moves_version : (MoveEnd → Bool) → Key → Stamp → Event → Bool
moves_version ends key s (Moved b table k q how) = same_key (key_at table k) key && same_stamp q s && ends how
moves_version ends key s event = false

abbrev pub is_done : MoveEnd → Bool
is_done Done = true
is_done how = false

-- the move ended, done or back
abbrev pub is_over : MoveEnd → Bool
is_over MoveCut = false
is_over how = true

-- a move of the key is into this bucket
abbrev pub keeps_bucket : ℕ → Key → Event → Bool
keeps_bucket b key (Moved c table k s how) = not (same_key (key_at table k) key) || (c == b)
keeps_bucket b key event = true

-- a done collect of the bucket whose prefix has the successor of the version
abbrev pub frees : View → ℕ → Key → Stamp → Tell → Event → Bool
frees v b key s t (Collected c prefix entries cut) = (c == b) && not cut && nat_lt 0 (v.later t key s)
frees v b key s t event = false

-- does a worker's own move into the bucket still fill a cell, after these later events of the worker
abbrev pub fills : View → Bool → ℕ → List Tell → Event → Bool
fills v others_collect b later (Moved c table key s how) =
    (c == b) && (others_collect || not (list_any (λ t. frees v b (key_at table key) s t t.event) later))
fills v others_collect b later event = false

-- how many of a worker's own earlier moves into the bucket still fill a cell
abbrev pub filling : View → Bool → ℕ → List Tell → ℕ
filling v others_collect b [] = 0
filling v others_collect b (t ∷ ts) =
    (if fills v others_collect b ts t.event then 1 else 0) + filling v others_collect b ts

-- how many moves into the bucket the events list
abbrev pub move_count : ℕ → List Tell → ℕ
move_count b ts = length (filter (λ t. moves_into b t.event) ts)

-- a commit whose transaction has guards, or any commit where locks name their holder
abbrev pub is_guarding : Bool → Tell → Bool
is_guarding held t = is_some (commit_in t.event) && (held || nat_lt 0 (length (guard_keys t.ops)))

-- a commit, or the stop after one
abbrev pub ends_commit : Event → Bool
ends_commit TailCut = true
ends_commit e = is_some (commit_in e)

-- an event that the worker was stopped in
abbrev pub is_stopped : Event → Bool
is_stopped (Moved b table key s MoveCut) = true
is_stopped (Collected b prefix entries cut) = cut
is_stopped (CollectCut b) = true
is_stopped (TidyCut table key) = true
is_stopped e = is_cut_attempt e

-- the event before is one of the test
abbrev pub follows_one : (Tell → Bool) → List Tell → Bool
follows_one test done = elim (last_of done) [ None ↦ false | Some t ↦ test t ]

module _ (s : Setting) (v : View) (tss : List (List Tell)) (j : ℕ) (done : List Tell) (t : Tell) where
  -- another worker published between the two passes
  abbrev pub AgainCause : ℕ → ℕ → ℕ → Type 0
  AgainCause i first second = (i ≢ j) × (first < second) × IsTrue (has_stamp v.all (stamp_at i second))

  -- another worker lists that lock, on the newest version of the prefix if on one
  abbrev pub LockedCause : Key → Stamp → Type 0
  LockedCause key q = IsTrue (list_any (lists_lock key q) (others_of j tss))
      × (IsTrue (is_version key q v.all) → v.later t key q ≡ 0)

  -- another worker wrote the version behind the prefix, and published it or was stopped
  abbrev pub NewerCause : Key → Stamp → Type 0
  NewerCause key q =
      (q.thread ≢ j) × (v.has t q ≡ false)
      × (IsTrue (is_written v key q) ⊎ (IsTrue (ends_locking key (tells_by q.thread tss))
      × (q.number ≡ last_number s.start (tells_by q.thread tss) + 1)))

  -- the horizon passed the snapshot by another worker's collect
  -- (that a later entry overwrites what was to be read stands with the answer, since both are of one operation)
  abbrev pub OldCause : ℕ → ℕ → ℕ → Type 0
  OldCause i entry horizon =
      (i ≢ j) × (slice_index (v.entries t) (i - 1) ≡ entry) × (entry < horizon)
      × IsTrue (list_any (λ o. collects_entry i horizon o.event) (others_of j tss))

  -- the ring's slots hold versions that the worker has not moved
  -- (that the worker's own tidying of the version failed stands with the policy, which knows the tidyings)
  abbrev pub FullCause : Key → Stamp → Type 0
  FullCause key q =
      IsTrue (is_version key q v.all) × (slice_index s.rings key.table ≤ v.later t key q)
      × (list_any (λ d. moves_version is_over key q d.event) done ≡ false)

  -- (that a table without room is crowded stands with the answer, since both are of one operation)
  abbrev pub OutcomeCause : Outcome → Type 0
  OutcomeCause Spent = last_number s.start done ≡ s.greatest
  OutcomeCause (Again i first second) = AgainCause i first second
  OutcomeCause (Locked l) = LockedCause (lock_key l) l.stamp
  OutcomeCause (Newer l) = NewerCause (lock_key l) l.stamp
  OutcomeCause (TooOld i entry horizon) = OldCause i entry horizon
  OutcomeCause (Full l) = FullCause (lock_key l) l.stamp
  OutcomeCause outcome = Unit {0}

  -- moves fill all cells of the bucket, or its tags are used up
  abbrev pub NoRoomCause : ℕ → Type 0
  NoRoomCause b =
      (s.cells ≤ filling v (list_any (λ o. has_collected o.event) (others_of j tss)) b done
      + move_count b (others_of j tss))
      ⊎ (2 ^ 62 - 1 ≤ move_count b (concat_of tss))

  -- a version of the key, into the bucket of all its moves; a move that is back was done by another worker
  abbrev pub MoveCause : ℕ → Key → Stamp → MoveEnd → Type 0
  MoveCause b key q how =
      IsTrue (is_version key q v.all) × IsTrue (list_all (λ o. keeps_bucket b key o.event) (concat_of tss))
      × (how ≡ Back → IsTrue (list_any (λ o. moves_version is_done key q o.event) (others_of j tss)))

  -- how a stopped worker was finished fits the event that it was stopped in
  abbrev pub FinishCause : Finish → Type 0
  FinishCause RolledOn = IsTrue s.held × IsTrue (follows_one (λ d. ends_commit d.event) done)
  FinishCause how = IsTrue s.held × IsTrue (follows_one (λ d. is_stopped d.event) done)

  -- the cause of an event
  abbrev pub EventCause : Event → Type 0
  EventCause (Tried a) = OutcomeCause a.outcome
  EventCause (NoRoom b) = NoRoomCause b
  EventCause (Moved b table key q how) = MoveCause b (key_at table key) q how
  EventCause (Collected b prefix entries cut) = entries ≡ v.entries t
  EventCause (CollectAgain b i first second) = AgainCause i first second
  EventCause TailCut = IsTrue (follows_one (is_guarding s.held) done)
  EventCause (Finished how) = FinishCause how
  EventCause event = Unit {0}

-- each event has its cause, after those that are done
abbrev pub HaveCausesAfter : Setting → View → List (List Tell) → ℕ → List Tell → List Tell → Type 0
HaveCausesAfter s v tss j done [] = Unit {0}
HaveCausesAfter s v tss j done (t ∷ ts) =
    EventCause s v tss j done t t.event × HaveCausesAfter s v tss j (done ++ t ∷ []) ts

-- each of worker j's events has its cause, in the logs of all workers and in the view
abbrev pub HaveCauses : Setting → View → List (List Tell) → ℕ → List Tell → Type 0
HaveCauses s v tss j ts = HaveCausesAfter s v tss j [] ts
