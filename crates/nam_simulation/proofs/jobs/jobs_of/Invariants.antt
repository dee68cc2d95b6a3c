use Rattle.std.proofs.Common.{◌≡◌, take}
use Rattle.nam_protocol.specs.Schedule.{all_jobs}
use Rattle.nam_scenario.specs.Scenario.{scenario_of}
use Rattle.nam_simulation.proofs.jobs.jobs_of.Given as goal

-- the jobs of the transactions so far
abbrev pub invariant-loop-place : goal.invariant-loop-place
invariant-loop-place l =
    l.jobs.items ≡ all_jobs l.script.shape.workers (take l.place (scenario_of l.script).txns)
