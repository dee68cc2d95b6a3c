-- The retry policy: which events a worker lists, and in what order.
use Rattle.std.specs.Prelude.{ℕ, ◌+◌, ◌≡◌, ◌==◌, ◌&&◌, ◌||◌, not, Bool, true, false, IsTrue, nat_lt, if◌then◌else◌}
use Rattle.std.specs.Prelude.{List, []}
use Rattle.std.specs.Prelude.{◌∷◌, ◌++◌, length, Option, Some, None}
use Rattle.std.specs.List.{flat_map}
use Rattle.si_model.specs.declared.row.Key.{Key}
use Rattle.si_model.specs.declared.op.Policy.{Policy}
use Rattle.si_model.specs.declared.log.Attempt.{Attempt}
use Rattle.si_model.specs.declared.log.Outcome.{Outcome}
use Rattle.si_model.specs.declared.log.Outcome.TheVariants.{Commit, Again, Locked, Newer, TooOld, Full, Cut, Left}
use Rattle.si_model.specs.declared.log.MoveEnd.TheVariants.{Cut as MoveCut}
use Rattle.si_model.specs.declared.log.Event.{Event}
use Rattle.si_model.specs.declared.log.Event.TheVariants.{Tried, NoRoom, Moved, Collected, CollectAgain, CollectCut}
use Rattle.si_model.specs.declared.log.Event.TheVariants.{TidyCut, TailCut, Finished}
use Rattle.si_model.specs.Rows.{key_at, same_key}
use Rattle.si_model.specs.Evaluation.{written_keys}
use Rattle.si_model.specs.Tells.{Tell, commit_in}
use Rattle.si_model.specs.View.{View}
use Rattle.si_model.specs.Setting.{Setting, txns_of}
use Rattle.si_model.specs.Answers.{lock_key}

-- a part of a worker's log: an attempt, a tidying of a key with its events, or the event of a worker that was stopped
pub data Part : Type 0 where
  attempted : Tell → Part
  tidied : Key → List Tell → Part
  stopped : Tell → Part

abbrev pub tells_in : Part → List Tell
tells_in (attempted t) = t ∷ []
tells_in (tidied key ts) = ts
tells_in (stopped t) = t ∷ []

-- how a tidying ended
pub data TidyEnd : Type 0 where
  well : TidyEnd
  -- by a second noroom
  badly : TidyEnd
  -- its worker was stopped in it
  short : TidyEnd

-- one move of the key, or a stop in its place
abbrev pub move_end : Key → Event → Option TidyEnd
move_end key (Moved b table k s MoveCut) = if same_key (key_at table k) key then Some short else None
move_end key (Moved b table k s how) = if same_key (key_at table k) key then Some well else None
move_end key (TidyCut table k) = if same_key (key_at table k) key then Some short else None
move_end key event = None

-- a second noroom of the bucket, or what a move may be
abbrev pub second_end : Key → ℕ → Event → Option TidyEnd
second_end key b (NoRoom c) = if c == b then Some badly else None
second_end key b event = move_end key event

-- after noroom and collect: nothing, a move of the key, or a second noroom
abbrev pub collected_end : Key → ℕ → List Tell → Option TidyEnd
collected_end key b [] = Some well
collected_end key b (t ∷ []) = second_end key b t.event
collected_end key b (t ∷ u ∷ ts) = None

-- after noroom: one collect of the bucket, with or without a snapshot
abbrev pub collect_end : Key → ℕ → Event → List Tell → Option TidyEnd
collect_end key b (Collected c prefix entries cut) ts =
    if c == b then (if cut then (if length ts == 0 then Some short else None) else collected_end key b ts) else None
collect_end key b (CollectAgain c i first second) ts = if c == b then collected_end key b ts else None
collect_end key b (CollectCut c) ts = if (c == b) && (length ts == 0) then Some short else None
collect_end key b event ts = None

-- after a first noroom
abbrev pub noroom_end : Key → ℕ → List Tell → Option TidyEnd
noroom_end key b [] = None
noroom_end key b (t ∷ ts) = collect_end key b t.event ts

-- by the first event of a tidying
abbrev pub first_end : Key → Event → List Tell → Option TidyEnd
first_end key (NoRoom b) ts = noroom_end key b ts
first_end key event ts = if length ts == 0 then move_end key event else None

-- how a tidying of the key with these events ended, and nothing where they are none
abbrev pub tidy_end : Key → List Tell → Option TidyEnd
tidy_end key [] = Some well
tidy_end key (t ∷ ts) = first_end key t.event ts

-- how far a worker has come
pub data Stage : Type 0 where
  going : Stage
  -- right after a commit, where it may be stopped
  committed : Stage
  -- stopped in the event before
  cut_short : Stage
  -- stopped after a commit
  tail_short : Stage
  -- finished after it was stopped
  ended : Stage

-- what a worker still owes: tidyings of keys, and then its transactions, the first of which was tried so often
pub record Owed : Type 0 where
  pub keys : List Key
  pub txns : List ℕ
  pub tries : ℕ
  pub stage : Stage

-- may the worker go on
abbrev pub goes_on : Stage → Bool
goes_on going = true
goes_on committed = true
goes_on stage = false

-- may the worker have been stopped here
abbrev pub may_finish : Stage → Bool
may_finish going = false
may_finish ended = false
may_finish stage = true

-- was the worker stopped
abbrev pub is_short : Stage → Bool
is_short going = false
is_short committed = false
is_short stage = true

-- after the last try of a transaction
abbrev pub next_owed : List Key → List ℕ → Stage → Owed
next_owed keys txns stage = record { keys = keys; txns = txns; tries = 0; stage = stage }

-- the same transaction again, where a try is left; before it these keys are tidied
abbrev pub again_owed : Policy → List Key → ℕ → List ℕ → ℕ → Owed
again_owed policy keys txn txns tries =
    if nat_lt tries policy.tries then record { keys = keys; txns = txn ∷ txns; tries = tries; stage = going }
    else next_owed [] txns going

-- after an attempt at a transaction, by its outcome; tries counts it too
abbrev pub outcome_owed : Policy → Tell → ℕ → List ℕ → ℕ → Outcome → Option Owed
outcome_owed policy t txn txns tries (Commit number) =
    Some (next_owed (if policy.tidy then written_keys t.ops else []) txns committed)
outcome_owed policy t txn txns tries (Again i first second) = Some (again_owed policy [] txn txns tries)
outcome_owed policy t txn txns tries (Locked l) = Some (again_owed policy [] txn txns tries)
outcome_owed policy t txn txns tries (Newer l) = Some (again_owed policy [] txn txns tries)
outcome_owed policy t txn txns tries (TooOld i entry horizon) = Some (again_owed policy [] txn txns tries)
outcome_owed policy t txn txns tries (Full l) =
    Some (again_owed policy (if policy.tidy then lock_key l ∷ [] else []) txn txns tries)
outcome_owed policy t txn txns tries Cut =
    Some (record { keys = []; txns = txn ∷ txns; tries = tries; stage = cut_short })
outcome_owed policy t txn txns tries Left = None
outcome_owed policy t txn txns tries outcome = Some (next_owed [] txns going)

-- after an attempt, which is the next try of the first transaction
abbrev pub attempt_owed : Policy → Tell → ℕ → List ℕ → ℕ → Attempt → Option Owed
attempt_owed policy t txn txns tries a =
    if (a.txn == txn) && (a.nth == tries + 1) then outcome_owed policy t txn txns (tries + 1) a.outcome else None

-- after an event that has to be an attempt
abbrev pub tried_owed : Policy → Tell → List ℕ → ℕ → Event → Option Owed
tried_owed policy t (txn ∷ txns) tries (Tried a) = attempt_owed policy t txn txns tries a
tried_owed policy t txns tries event = None

-- after an attempt, which may stand where no tidying is owed
abbrev pub owed_after_try : Policy → List Key → Owed → Tell → Option Owed
owed_after_try policy [] owed t = tried_owed policy t owed.txns owed.tries t.event
owed_after_try policy (key ∷ keys) owed t = None

-- after a tidying that ended so
abbrev pub tidied_owed : List Key → Owed → TidyEnd → Owed
tidied_owed keys owed short = record owed { stage = cut_short }
tidied_owed keys owed end = record owed { keys = keys; stage = going }

-- after a tidying, which may stand where its key is owed next
abbrev pub owed_after_tidying : List Key → Owed → Key → List Tell → Option Owed
owed_after_tidying [] owed key ts = None
owed_after_tidying (k ∷ keys) owed key ts =
    if same_key k key then elim (tidy_end key ts) [ None ↦ None | Some end ↦ Some (tidied_owed keys owed end) ]
    else None

-- is the worker right behind a commit
abbrev pub is_committed : Stage → Bool
is_committed committed = true
is_committed stage = false

-- after the event of a worker that was stopped
abbrev pub owed_after_stop : Owed → Event → Option Owed
owed_after_stop owed TailCut = if is_committed owed.stage then Some (record owed { stage = tail_short }) else None
owed_after_stop owed (Finished how) = if may_finish owed.stage then Some (record owed { stage = ended }) else None
owed_after_stop owed event = None

-- what is owed after a part, where it may stand
abbrev pub owed_after : Policy → Owed → Part → Option Owed
owed_after policy owed (attempted t) = if goes_on owed.stage then owed_after_try policy owed.keys owed t else None
owed_after policy owed (tidied key ts) = if goes_on owed.stage then owed_after_tidying owed.keys owed key ts else None
owed_after policy owed (stopped t) = owed_after_stop owed t.event

-- nothing is owed, or the worker was stopped
abbrev pub is_settled : Owed → Bool
is_settled owed = is_short owed.stage || ((length owed.keys == 0) && (length owed.txns == 0))

-- may the parts follow one another, and is nothing owed after them
abbrev pub settles : Policy → Owed → List Part → Bool
settles policy owed [] = is_settled owed
settles policy owed (p ∷ ps) = elim (owed_after policy owed p) [ None ↦ false | Some next ↦ settles policy next ps ]

-- what is owed after these parts, where they may follow one another
abbrev pub owed_along : Policy → Owed → List Part → Option Owed
owed_along policy owed [] = Some owed
owed_along policy owed (p ∷ ps) =
    elim (owed_after policy owed p) [ None ↦ None | Some next ↦ owed_along policy next ps ]

-- what a worker owes at first
abbrev pub owes_all : List ℕ → Owed
owes_all txns = next_owed [] txns going

abbrev pub is_badly : TidyEnd → Bool
is_badly badly = true
is_badly end = false

-- did a tidying of the key fail
abbrev pub has_failed : Key → Key → List Tell → Bool
has_failed key k ts = same_key k key && elim (tidy_end k ts) [ None ↦ false | Some end ↦ is_badly end ]

-- is it the commit of this number
abbrev pub is_commit_of : ℕ → Tell → Bool
is_commit_of number t = elim (commit_in t.event) [ None ↦ false | Some n ↦ n == number ]

-- did the tidying of the key after the commit of this number fail; inside: the last attempt was that commit
abbrev pub failed_after : ℕ → Key → Bool → List Part → Bool
failed_after number key inside [] = false
failed_after number key inside (attempted t ∷ ps) = failed_after number key (is_commit_of number t) ps
failed_after number key inside (tidied k ts ∷ ps) = (inside && has_failed key k ts) || failed_after number key inside ps
failed_after number key inside (stopped t ∷ ps) = failed_after number key inside ps

module _ (v : View) (j : ℕ) (done : List Part) (t : Tell) where
  -- a full ring's newest version, where it is the worker's own
  abbrev pub FullOutcome : Outcome → Type 0
  FullOutcome (Full l) =
      (v.newest t (lock_key l)).thread ≡ j → IsTrue
      (failed_after (v.newest t (lock_key l)).number (lock_key l) false done)
  FullOutcome outcome = Unit {0}

  abbrev pub FullEvent : Event → Type 0
  FullEvent (Tried a) = FullOutcome a.outcome
  FullEvent event = Unit {0}

abbrev pub FullPart : View → ℕ → List Part → Part → Type 0
FullPart v j done (attempted t) = FullEvent v j done t t.event
FullPart v j done part = Unit {0}

-- where a ring is full of a worker's own commit, the worker's tidying after it failed
abbrev pub FullsFollow : View → ℕ → List Part → List Part → Type 0
FullsFollow v j done [] = Unit {0}
FullsFollow v j done (p ∷ ps) = FullPart v j done p × FullsFollow v j (done ++ p ∷ []) ps

-- one way to part worker j's events shows that they follow the policy
pub record FollowsPolicy (s : Setting) (v : View) (j : ℕ) (ts : List Tell) : Type 0 where
  pub parts : List Part
  pub read : flat_map tells_in parts ≡ ts
  pub settled : IsTrue (settles s.policy (owes_all (txns_of j s.owners)) parts)
  pub fulls : IsTrue s.policy.tidy → FullsFollow v j [] parts

-- a collect of the bucket that went to its end
abbrev pub is_collect_of : ℕ → Event → Bool
is_collect_of b (Collected c prefix entries cut) = (c == b) && not cut
is_collect_of b (CollectAgain c i first second) = c == b
is_collect_of b event = false

-- behind a first noroom: nothing yet, or one collect of its bucket
abbrev pub is_at_collect : ℕ → List Tell → Bool
is_at_collect b [] = true
is_at_collect b (t ∷ ts) = is_collect_of b t.event && (length ts == 0)

abbrev pub is_at_noroom : Event → List Tell → Bool
is_at_noroom (NoRoom b) ts = is_at_collect b ts
is_at_noroom event ts = false

-- the first events of a tidying that isn't over, if any
abbrev pub is_tidying : List Tell → Bool
is_tidying [] = true
is_tidying (t ∷ ts) = is_at_noroom t.event ts

-- may these events stand behind the parts after which so much is owed: a tidying goes on only where a key is owed
abbrev pub may_be_at_hand : Owed → List Tell → Bool
may_be_at_hand owed ts = is_tidying ts && ((length ts == 0) || (goes_on owed.stage && nat_lt 0 (length owed.keys)))

-- how far a worker has come: the parts of its events, the first events of a tidying that isn't over, and what is owed
-- after the parts
pub record Walk : Type 0 where
  pub parts : List Part
  pub at_hand : List Tell
  pub owed : Owed

-- worker j's events so far follow the policy by this walk
pub record FollowsSoFar (s : Setting) (v : View) (j : ℕ) (ts : List Tell) (walk : Walk) : Type 0 where
  pub read : flat_map tells_in walk.parts ++ walk.at_hand ≡ ts
  pub along : owed_along s.policy (owes_all (txns_of j s.owners)) walk.parts ≡ Some walk.owed
  pub begun : IsTrue (may_be_at_hand walk.owed walk.at_hand)
  pub fulls : IsTrue s.policy.tidy → FullsFollow v j [] walk.parts

-- nothing is at hand, and nothing more is owed
abbrev pub is_through : Walk → Bool
is_through walk = (length walk.at_hand == 0) && is_settled walk.owed

-- of a worker that has done nothing yet
abbrev pub first_walk : Setting → ℕ → Walk
first_walk s j = record { parts = []; at_hand = []; owed = owes_all (txns_of j s.owners) }
