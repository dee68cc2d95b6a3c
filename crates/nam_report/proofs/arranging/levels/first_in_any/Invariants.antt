use Rattle.std.proofs.Common.{ℕ, ◌<◌, ◌≡◌, Bor, List, false}
use Rattle.std.specs.Prelude.{slice_index_or}
use Rattle.si_model.specs.History.{stamp_at}
use Rattle.si_model.specs.Snapshots.{contains}
use Rattle.nam_report.proofs.arranging.levels.first_in_any.Given as goal

abbrev pub invariant-loop-place : goal.invariant-loop-place
invariant-loop-place l = (k : ℕ) (d : Bor (List ℕ)) → k < l.place
    → contains (slice_index_or l.snapshots k d).now (stamp_at l.worker l.number) ≡ false
