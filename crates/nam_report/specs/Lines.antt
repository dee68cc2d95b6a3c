-- The entries of a history, read off the flat lists of logs.
use Rattle.std.specs.Prelude.{ℕ, suc, ◌-◌, ◌^◌, ◌<◌, ◌≤◌, ◌≡◌, min, true, false, List, [], ◌∷◌, ◌++◌, length, take}
use Rattle.std.specs.Prelude.{drop, map, slice_index, slice_index_or, Option, Some}
use Rattle.std.specs.Borrow.{Bor}
use Rattle.std.specs.List.Sorted.{IsNonDecreasingBy}
use Rattle.si_model.specs.declared.row.Item.{Item}
use Rattle.si_model.specs.declared.log.Attempt.{Attempt}
use Rattle.si_model.specs.declared.log.Outcome.{Outcome}
use Rattle.si_model.specs.declared.log.Outcome.TheVariants.{Commit}
use Rattle.si_model.specs.declared.log.Event.{Event}
use Rattle.si_model.specs.declared.log.Event.TheVariants.{Tried}
use Rattle.si_model.specs.declared.log.Log.{Log}
use Rattle.si_model.specs.declared.log.Stamp.{Stamp}
use Rattle.si_model.specs.declared.report.CommitLine.{CommitLine}
use Rattle.si_model.specs.Lists.{Pairwise}
use Rattle.si_model.specs.Tells.{writes_in}
use Rattle.si_model.specs.Snapshots.{contains, sum_above}
use Rattle.nam_report.specs.declared.arranging.levels.Levels.{Levels}

-- the entry of worker j's attempt, where it is a commit on a prefix
abbrev pub line_in : ℕ → Attempt → Option ℕ → Outcome → List Item → List CommitLine
line_in j a (Some p) (Commit number) ws =
    record { worker = j; number = number; prefix = p; txn = a.txn; writes = ws } ∷ []
line_in j a prefix outcome ws = []

abbrev pub line_at : ℕ → Event → List Item → List CommitLine
line_at j (Tried a) ws = line_in j a a.prefix a.outcome ws
line_at j event ws = []

-- the entries of worker j's events, which own these writes
abbrev pub lines_from : ℕ → List Event → List Item → List CommitLine
lines_from j [] ws = []
lines_from j (e ∷ es) ws = line_at j e (take (writes_in e) ws) ++ lines_from j es (drop (writes_in e) ws)

-- the entries of all workers from number j on
abbrev pub lines_by : ℕ → List Log → List CommitLine
lines_by j [] = []
lines_by j (log ∷ logs) = lines_from j log.events log.writes ++ lines_by (suc j) logs

-- the snapshots of the logs
abbrev pub snaps_in_logs : List Log → List (List ℕ)
snaps_in_logs [] = []
snaps_in_logs (log ∷ logs) = log.snaps ++ snaps_in_logs logs

-- what references to snapshots show
abbrev pub referents : List (Bor (List ℕ)) → List (List ℕ)
referents ss = map (λ s. s.now) ss

-- each number is at most the one at its place in the other snapshot, which is 0 where it has none
abbrev pub IsAtMost : List ℕ → List ℕ → Type 0
IsAtMost as' bs = (k : ℕ) → slice_index as' k ≤ slice_index bs k

-- the snapshots are by rising counts, as 64 bits count them, and a chain where it is said that they are
pub record AreSearchable (levels : Levels) : Type 0 where
  pub rise : IsNonDecreasingBy (λ (s : Bor (List ℕ)). min (sum_above levels.start s.now) (2 ^ 64 - 1))
      levels.snapshots.items
  pub chain : levels.are_chained ≡ true → Pairwise IsAtMost (referents levels.snapshots.items)

-- the place of the first snapshot that contains the stamp, and their count where none does
pub record IsFirstWith (s : Stamp) (ss : List (Bor (List ℕ))) (i : ℕ) : Type 0 where
  pub within : i ≤ length ss
  pub before : (k : ℕ) (d : Bor (List ℕ)) → k < i → contains (slice_index_or ss k d).now s ≡ false
  pub here : (d : Bor (List ℕ)) → i < length ss → contains (slice_index_or ss i d).now s ≡ true
