use Rattle.std.proofs.Common.{◌≡◌, ◌+◌, drop}
use Rattle.std.specs.List.{AllByRecursion}
use Rattle.nam_protocol.specs.Left.{jobs_weight}
use Rattle.nam_worker.specs.Needs.{FitsTables}
use Rattle.nam_worker.proofs.room.jobs_weight.Given as goal

abbrev pub invariant-loop-job : goal.invariant-loop-job
invariant-loop-job l =
    (l.weight + jobs_weight l.layout (drop l.job-index l.jobs) ≡ jobs_weight l.layout l.jobs)
    × AllByRecursion (FitsTables l.layout) (drop l.job-index l.jobs)
