use Rattle.std.proofs.Common.{◌≡◌, map}
use Rattle.nam_protocol.specs.EndsLaw.{scenario_bound}
use Rattle.nam_scenario.specs.Scenario.{scenario_of}
use Rattle.nam_simulation.specs.Simulation.{run_of, to_end}
use Rattle.nam_simulation.proofs.RunLemmas.{rounds_left}
use Rattle.nam_simulation.proofs.rounds.run_to_end.Given as goal

-- the end is that of the whole run
abbrev pub invariant-loop-world : goal.invariant-loop-world
invariant-loop-world g l =
    let states = map (λ line. (goal.Line-dyn g (line.vtable, line.value)).state line.value) in
    record {
      shape : l.world.shape ≡ l.script.shape;
      end : to_end l.script (run_of l.world (states l.lines))
          ≡ to_end l.script (run_of l.fn.world (states l.fn.lines));
    }

abbrev pub decreases-loop-world : goal.decreases-loop-world
decreases-loop-world g l =
    let states = map (λ line. (goal.Line-dyn g (line.vtable, line.value)).state line.value) in
    rounds_left l.script.shape (scenario_bound (scenario_of l.script)) (run_of l.world (states l.lines))
