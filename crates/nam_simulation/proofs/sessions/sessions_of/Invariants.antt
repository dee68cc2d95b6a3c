use Rattle.std.proofs.Common.{◌≡◌, ◌+◌, ◌++◌, length, map}
use Rattle.std.specs.List.{AllByRecursion}
use Rattle.std.specs.Prelude.{All}
use Rattle.std.specs.Vec.Iter.{into_iter_items}
use Rattle.nam_protocol.specs.Schedule.{all_jobs}
use Rattle.nam_protocol.specs.World.{new_sessions}
use Rattle.nam_scenario.specs.Scenario.{scenario_of}
use Rattle.nam_worker.specs.Session.{IsSessionOf, session_of}
use Rattle.nam_simulation.specs.Simulation.{AreJobsOf}
use Rattle.nam_simulation.proofs.sessions.sessions_of.Given as goal

-- the sessions so far and those of the jobs that are left are those of all
abbrev pub invariant-loop-jobs : goal.invariant-loop-jobs
invariant-loop-jobs l =
    let left = into_iter_items l.jobs-iterator in
    record {
      of : All (IsSessionOf l.script.shape) l.sessions.items;
      made :
          map session_of l.sessions.items
          ++ new_sessions l.script.shape l.script.policy (length l.sessions.items + 1) left
          ≡ new_sessions l.script.shape l.script.policy 1
          (all_jobs l.script.shape.workers (scenario_of l.script).txns);
      jobs : AllByRecursion (AreJobsOf l.script) left;
      many : length l.sessions.items + length left ≡ l.script.shape.workers;
    }
