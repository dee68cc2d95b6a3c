-- The words of the worked examples: values of one field, empty write lists and snapshots of the logs.
use Rattle.std.proofs.Common.{ℕ, Bool, true, false, List, [], ◌∷◌, Option, Some, None}
use Rattle.si_model.specs.declared.row.Row.{Row}
use Rattle.si_model.specs.declared.row.Item.{Item}
use Rattle.si_model.specs.declared.op.Op.{Op}
use Rattle.si_model.specs.declared.log.Stamp.{Stamp}
use Rattle.si_model.specs.declared.log.Lock.{Lock}
use Rattle.si_model.specs.declared.log.Outcome.{Outcome}
use Rattle.si_model.specs.declared.log.Outcome.TheVariants.{Commit}
use Rattle.si_model.specs.declared.log.MoveEnd.TheVariants.{Done}
use Rattle.si_model.specs.declared.log.Event.{Event}
use Rattle.si_model.specs.declared.log.Event.TheVariants.{Tried, Moved, Collected}
use Rattle.si_model.specs.declared.log.Log.{Log}
use Rattle.si_model.specs.declared.report.CommitLine.{CommitLine}
use Rattle.si_model.specs.declared.report.AuditRow.{AuditRow}
use Rattle.std.specs.List.{AllByRecursion}
use Rattle.si_model.specs.Lists.{Listed}
use Rattle.si_model.specs.Setting.{Setting}
use Rattle.si_model.specs.Tells.{Tell}
use Rattle.si_model.specs.Audit.{IsAuditLine}
use Rattle.si_model.proofs.ListLemmas.{All-listed}

-- row t k v
abbrev pub row : ℕ → ℕ → ℕ → Row
row t k v = record { table = t; key = k; value = v ∷ [] }

-- r t k v, and in a write set w t k v
abbrev pub item : ℕ → ℕ → ℕ → Item
item t k v = record { table = t; key = k; value = Some (v ∷ []) }

-- w t k -
abbrev pub gone : ℕ → ℕ → Item
gone t k = record { table = t; key = k; value = None }

abbrev pub stamp : ℕ → ℕ → Stamp
stamp j n = record { thread = j; number = n }

-- l t k j n, and in an outcome t k j n
abbrev pub lock : ℕ → ℕ → ℕ → ℕ → Lock
lock t k j n = record { table = t; key = k; stamp = stamp j n }

-- t x try nth prefix p o, with so many reads and locks
abbrev pub tried : ℕ → ℕ → Option ℕ → ℕ → ℕ → Outcome → Event
tried x nth p r l o = Tried (record { txn = x; nth = nth; prefix = p; reads = r; locks = l; writes = 0; outcome = o })

-- t x try nth prefix p commit number, with so many reads, locks and writes
abbrev pub commits : ℕ → ℕ → ℕ → ℕ → ℕ → ℕ → ℕ → Event
commits x nth p r l w number =
    Tried (record { txn = x; nth = nth; prefix = Some p; reads = r; locks = l; writes = w; outcome = Commit number })

-- move b t k j n done
abbrev pub moved : ℕ → ℕ → ℕ → ℕ → ℕ → Event
moved b t k j n = Moved b t k (stamp j n) Done

-- collect b prefix p entries done
abbrev pub collected : ℕ → ℕ → List ℕ → Event
collected b p entries = Collected b p entries false

-- worker j number n prefix p txn x, with its write set
abbrev pub entry : ℕ → ℕ → ℕ → ℕ → List Item → CommitLine
entry j n p x writes = record { worker = j; number = n; prefix = p; txn = x; writes = writes }

-- a worker's events, all its reads and all its locks
abbrev pub log : List Event → List Item → List Lock → Log
log events reads locks = record { events = events; reads = reads; locks = locks; writes = []; snaps = [] }

-- a worker's events with all its reads, locks, writes and snapshots
abbrev pub whole_log : List Event → List Item → List Lock → List Item → List (List ℕ) → Log
whole_log events reads locks writes snaps =
    record { events = events; reads = reads; locks = locks; writes = writes; snaps = snaps }

-- a t k v
abbrev pub audited : ℕ → ℕ → ℕ → AuditRow
audited t k v = record { table = t; key = k; value = Some (v ∷ []); locked = false }

-- a t k v locked
abbrev pub marked : ℕ → ℕ → ℕ → AuditRow
marked t k v = record { table = t; key = k; value = Some (v ∷ []); locked = true }

-- a line with a value and without a mark needs no cause
pub unmarked : (tss : List (List Tell)) (t k v : ℕ) → IsAuditLine tss (audited t k v)
unmarked tss t k v = record { absent = λ none. absurd cc; locked = λ yes. absurd cc }

-- header narrow, start 0, overflow 1 1 and one table of width 1, with its capacity and ring
abbrev pub setting_with : ℕ → ℕ → Bool → ℕ → ℕ → List Row → List (List Op) → List ℕ → Setting
setting_with workers tries tidy capacity ring rows jobs owners = record {
  workers = workers;
  start = 0;
  greatest = 4294967295;
  held = false;
  widths = 1 ∷ [];
  capacities = capacity ∷ [];
  rings = ring ∷ [];
  cells = 1;
  rows = rows;
  jobs = jobs;
  owners = owners;
  policy = record { tries = tries; tidy = tidy };
}

-- what holds of each pair of the list
pub of_pairs : {A : Type 0} (R : A → A → Type 0) (xs : List A) → AllByRecursion (λ x. AllByRecursion (R x) xs) xs
    → (x y : A) → Listed x xs → Listed y xs → R x y
of_pairs R xs h x y l k = All-listed (R x) xs y (All-listed (λ z. AllByRecursion (R z) xs) xs x h l) k
