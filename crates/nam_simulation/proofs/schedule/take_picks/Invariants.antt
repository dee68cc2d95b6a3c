use Rattle.std.proofs.Common.{◌≡◌, ◌-◌, map}
use Rattle.nam_protocol.specs.Schedule.{after_workers, picked}
use Rattle.nam_simulation.specs.Simulation.{run_of}
use Rattle.nam_simulation.proofs.schedule.take_picks.Given as goal

-- with the picks that are left, all are done
abbrev pub invariant-loop-nth : goal.invariant-loop-nth
invariant-loop-nth g l =
    let states = map (λ line. (goal.Line-dyn g (line.vtable, line.value)).state line.value) in
    record {
      shape : l.world.shape ≡ l.fn.world.shape;
      rest : after_workers l.fn.world.shape (run_of l.world (states l.lines))
          (picked l.workers l.generator (l.picks - l._nth))
          ≡ after_workers l.fn.world.shape (run_of l.fn.world (states l.fn.lines))
          (picked l.workers l.seed l.picks);
    }
