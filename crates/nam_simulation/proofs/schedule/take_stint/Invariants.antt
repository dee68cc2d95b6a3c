use Rattle.std.proofs.Common.{◌≡◌, ◌-◌, map}
use Rattle.std.specs.Prelude.{replicate}
use Rattle.nam_protocol.specs.Schedule.{after_workers}
use Rattle.nam_simulation.specs.Simulation.{run_of}
use Rattle.nam_simulation.proofs.schedule.take_stint.Given as goal

-- with the turns that are left, all are done
abbrev pub invariant-loop-step : goal.invariant-loop-step
invariant-loop-step g l =
    let states = map (λ line. (goal.Line-dyn g (line.vtable, line.value)).state line.value) in
    record {
      shape : l.world.shape ≡ l.fn.world.shape;
      rest : after_workers l.fn.world.shape (run_of l.world (states l.lines))
          (replicate (l.stint.steps - l._step) l.stint.worker)
          ≡ after_workers l.fn.world.shape (run_of l.fn.world (states l.fn.lines))
          (replicate l.stint.steps l.stint.worker);
    }
