-- The commits and the snapshots that logs list, without a history.
use Rattle.std.specs.Prelude.{ℕ, suc, if◌then◌else◌, List, [], ◌∷◌, ◌++◌, Option, Some, is_some}
use Rattle.si_model.specs.declared.op.Op.{Op}
use Rattle.si_model.specs.declared.log.Attempt.{Attempt}
use Rattle.si_model.specs.declared.log.Outcome.{Outcome}
use Rattle.si_model.specs.declared.log.Outcome.TheVariants.{Commit}
use Rattle.si_model.specs.declared.log.Event.{Event}
use Rattle.si_model.specs.declared.log.Event.TheVariants.{Tried}
use Rattle.si_model.specs.declared.report.CommitLine.{CommitLine}
use Rattle.si_model.specs.Tells.{Tell, prefix_in}

-- a listed commit: its entry, with the snapshot and the operations of its attempt
pub record Published : Type 0 where
  pub line : CommitLine
  pub snap : List ℕ
  pub ops : List Op

abbrev pub entry_of : Published → CommitLine
entry_of c = c.line

-- by an attempt of worker j, where it is a commit on a prefix
abbrev pub published_in : ℕ → Tell → Attempt → Option ℕ → Outcome → List Published
published_in j t a (Some p) (Commit number) =
    record {
      line = record { worker = j; number = number; prefix = p; txn = a.txn; writes = t.writes };
      snap = t.snap;
      ops = t.ops;
    } ∷ []
published_in j t a prefix outcome = []

abbrev pub published_at : ℕ → Tell → Event → List Published
published_at j t (Tried a) = published_in j t a a.prefix a.outcome
published_at j t event = []

-- the commits of worker j
abbrev pub published_of : ℕ → List Tell → List Published
published_of j [] = []
published_of j (t ∷ ts) = published_at j t t.event ++ published_of j ts

-- those of all workers from number j on
abbrev pub published_from : ℕ → List (List Tell) → List Published
published_from j [] = []
published_from j (ts ∷ tss) = published_of j ts ++ published_from (suc j) tss

-- the commits of all workers
abbrev pub published_by : List (List Tell) → List Published
published_by tss = published_from 1 tss

-- the snapshots that the events list
abbrev pub snaps_of : List Tell → List (List ℕ)
snaps_of [] = []
snaps_of (t ∷ ts) = if is_some (prefix_in t.event) then t.snap ∷ snaps_of ts else snaps_of ts

-- the snapshots of all workers
abbrev pub snaps_by : List (List Tell) → List (List ℕ)
snaps_by [] = []
snaps_by (ts ∷ tss) = snaps_of ts ++ snaps_by tss
