use Rattle.std.proofs.Common.{ℕ, ◌<◌, ◌+◌, Bor, List}
use Rattle.std.specs.Prelude.{slice_index_or}
use Rattle.nam_report.specs.Lines.{IsAtMost}
use Rattle.nam_report.proofs.arranging.levels.are_chained.Given as goal

abbrev pub invariant-loop-place : goal.invariant-loop-place
invariant-loop-place l = (k : ℕ) (d : Bor (List ℕ)) → k + 1 < l.place
    → IsAtMost (slice_index_or l.snapshots k d).now (slice_index_or l.snapshots (k + 1) d).now
