use Rattle.std.proofs.Common.{◌≡◌, drop, map}
use Rattle.nam_protocol.specs.Schedule.{after_workers, stint_workers}
use Rattle.nam_simulation.specs.Simulation.{run_of, stints_of}
use Rattle.nam_simulation.proofs.schedule.take_stints.Given as goal

-- with the stints that are left, all are done
abbrev pub invariant-loop-stint : goal.invariant-loop-stint
invariant-loop-stint g l =
    let states = map (λ line. (goal.Line-dyn g (line.vtable, line.value)).state line.value) in
    record {
      shape : l.world.shape ≡ l.fn.world.shape;
      rest : after_workers l.fn.world.shape (run_of l.world (states l.lines))
          (stint_workers (stints_of (drop l.stint-index l.stints)))
          ≡ after_workers l.fn.world.shape (run_of l.fn.world (states l.fn.lines))
          (stint_workers (stints_of l.stints));
    }
