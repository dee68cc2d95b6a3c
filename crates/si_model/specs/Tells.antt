-- A log seen as a list of its events, each with its own items.
use Rattle.std.specs.Prelude.{ℕ, ◌+◌, ◌-◌, ◌≡◌, length, Bool, true, false, if◌then◌else◌, List, [], ◌∷◌, ◌++◌, take}
use Rattle.std.specs.Prelude.{drop}
use Rattle.std.specs.Prelude.{map, filter, slice_index_or, Option, Some, None, is_some, unwrap_or}
use Rattle.std.specs.List.{flat_map, AllByRecursion}
use Rattle.si_model.specs.declared.row.Item.{Item}
use Rattle.si_model.specs.declared.op.Op.{Op}
use Rattle.si_model.specs.declared.log.Lock.{Lock}
use Rattle.si_model.specs.declared.log.Attempt.{Attempt}
use Rattle.si_model.specs.declared.log.Outcome.{Outcome}
use Rattle.si_model.specs.declared.log.Outcome.TheVariants.{Commit, Cut}
use Rattle.si_model.specs.declared.log.Event.{Event}
use Rattle.si_model.specs.declared.log.Event.TheVariants.{Tried, Collected}
use Rattle.si_model.specs.declared.log.Log.{Log}

-- one event with what it owns: the operations of its transaction, its reads, locks and writes, and its snapshot
pub record Tell : Type 0 where
  pub event : Event
  pub ops : List Op
  pub reads : List Item
  pub locks : List Lock
  pub writes : List Item
  pub snap : List ℕ

-- the prefix of an event that got a snapshot
abbrev pub prefix_in : Event → Option ℕ
prefix_in (Tried a) = a.prefix
prefix_in (Collected b prefix entries cut) = Some prefix
prefix_in event = None

-- the attempt that an event is
abbrev pub attempt_in : Event → Option Attempt
attempt_in (Tried a) = Some a
attempt_in event = None

abbrev pub reads_in : Event → ℕ
reads_in e = elim (attempt_in e) [ None ↦ 0 | Some a ↦ a.reads ]

abbrev pub locks_in : Event → ℕ
locks_in e = elim (attempt_in e) [ None ↦ 0 | Some a ↦ a.locks ]

abbrev pub writes_in : Event → ℕ
writes_in e = elim (attempt_in e) [ None ↦ 0 | Some a ↦ a.writes ]

-- how many snapshots the event owns
abbrev pub snaps_in : Event → ℕ
snaps_in e = if is_some (prefix_in e) then 1 else 0

-- how much the events own together
abbrev pub total : (Event → ℕ) → List Event → ℕ
total owned [] = 0
total owned (e ∷ es) = owned e + total owned es

-- the events own all items of the log's lists, and no more
pub record CountsFit (log : Log) : Type 0 where
  pub reads : total reads_in log.events ≡ length log.reads
  pub locks : total locks_in log.events ≡ length log.locks
  pub writes : total writes_in log.events ≡ length log.writes
  pub snaps : total snaps_in log.events ≡ length log.snaps

-- the operations of an event's transaction; transaction x stands at place x - 1 (that x is at least 1 is the policy's
-- matter)
abbrev pub ops_in : List (List Op) → Event → List Op
ops_in jobs e = elim (attempt_in e) [ None ↦ [] | Some a ↦ slice_index_or jobs (a.txn - 1) [] ]

-- each event takes its items from the front of the flat lists, and its operations from the front of a list for each
-- event
abbrev pub tells_each : List (List Op) → List Event → List Item → List Lock → List Item → List (List ℕ) → List Tell
tells_each opss [] rs ls ws ss = []
tells_each opss (e ∷ es) rs ls ws ss =
    record {
      event = e;
      ops = slice_index_or opss 0 [];
      reads = take (reads_in e) rs;
      locks = take (locks_in e) ls;
      writes = take (writes_in e) ws;
      snap = slice_index_or (take (snaps_in e) ss) 0 [];
    } ∷ tells_each (drop 1 opss) es (drop (reads_in e) rs) (drop (locks_in e) ls) (drop (writes_in e) ws)
    (drop (snaps_in e) ss)

-- by the jobs
abbrev pub tells_from : List (List Op) → List Event → List Item → List Lock → List Item → List (List ℕ) → List Tell
tells_from jobs es rs ls ws ss = tells_each (map (ops_in jobs) es) es rs ls ws ss

-- what a log tells, where transaction x has the operations at place x - 1 of the jobs
abbrev pub tells_of : List (List Op) → Log → List Tell
tells_of jobs log = tells_from jobs log.events log.reads log.locks log.writes log.snaps

abbrev pub is_attempt : Event → Bool
is_attempt e = is_some (attempt_in e)

-- the operations for each event, where the attempts have these, in order: an attempt has the next ones, with a snapshot
-- or without, and another event has none
abbrev pub ops_each : List (List Op) → List Event → List (List Op)
ops_each asked [] = []
ops_each asked (e ∷ es) =
    if is_attempt e then slice_index_or asked 0 [] ∷ ops_each (drop 1 asked) es else [] ∷ ops_each asked es

-- what a log tells, where these operations were asked for in its attempts, in order
abbrev pub tells_with : List (List Op) → Log → List Tell
tells_with asked log = tells_each (ops_each asked log.events) log.events log.reads log.locks log.writes log.snaps

-- the operations that the jobs give the attempts among these events, in order
abbrev pub job_ops : List (List Op) → List Event → List (List Op)
job_ops jobs es = map (ops_in jobs) (filter is_attempt es)

-- what the event owns: the operations of an attempt, and the snapshot where it got one
abbrev pub own_ops : Tell → List (List Op)
own_ops t = if is_attempt t.event then t.ops ∷ [] else []

abbrev pub own_snaps : Tell → List (List ℕ)
own_snaps t = if is_some (prefix_in t.event) then t.snap ∷ [] else []

-- the event counts its items, and has no operations and no snapshot that it doesn't own
pub record OwnsItems (t : Tell) : Type 0 where
  pub reads : reads_in t.event ≡ length t.reads
  pub locks : locks_in t.event ≡ length t.locks
  pub writes : writes_in t.event ≡ length t.writes
  pub snap : is_some (prefix_in t.event) ≡ false → t.snap ≡ []
  pub ops : is_attempt t.event ≡ false → t.ops ≡ []

abbrev pub empty_log : Log
empty_log = record { events = []; reads = []; locks = []; writes = []; snaps = [] }

-- the log with one more event and what it owns
abbrev pub with_tell : Log → Tell → Log
with_tell log t = record {
  events = log.events ++ t.event ∷ [];
  reads = log.reads ++ t.reads;
  locks = log.locks ++ t.locks;
  writes = log.writes ++ t.writes;
  snaps = log.snaps ++ own_snaps t;
}

-- the log lists these events with what they own, and then items that no event owns yet
pub record ListsTells (log : Log) (ts : List Tell) (rs : List Item) (ls : List Lock) (ws : List Item)
    (ss : List (List ℕ)) : Type 0 where
  pub events : log.events ≡ map (λ t. t.event) ts
  pub reads : log.reads ≡ flat_map (λ t. t.reads) ts ++ rs
  pub locks : log.locks ≡ flat_map (λ t. t.locks) ts ++ ls
  pub writes : log.writes ≡ flat_map (λ t. t.writes) ts ++ ws
  pub snaps : log.snaps ≡ flat_map own_snaps ts ++ ss
  pub owned : AllByRecursion OwnsItems ts

-- the prefix of an event, and 0 where it got none
abbrev pub prefix_of : Tell → ℕ
prefix_of t = unwrap_or (prefix_in t.event) 0

-- the number of a commit
abbrev pub number_in : Outcome → Option ℕ
number_in (Commit number) = Some number
number_in outcome = None

-- the number that an event commits
abbrev pub commit_in : Event → Option ℕ
commit_in e = elim (attempt_in e) [ None ↦ None | Some a ↦ number_in a.outcome ]

-- the worker's last number after these events, which come after the number last
abbrev pub last_number : ℕ → List Tell → ℕ
last_number last [] = last
last_number last (t ∷ ts) = last_number (unwrap_or (commit_in t.event) last) ts

abbrev pub is_cut : Outcome → Bool
is_cut Cut = true
is_cut outcome = false

-- is the event a cut attempt
abbrev pub is_cut_attempt : Event → Bool
is_cut_attempt e = elim (attempt_in e) [ None ↦ false | Some a ↦ is_cut a.outcome ]
