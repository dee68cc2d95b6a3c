use Rattle.std.proofs.Common.{◌≡◌, ◌+◌, ◌-◌, map}
use Rattle.nam_protocol.specs.Schedule.{after_workers, numbers_from}
use Rattle.nam_simulation.specs.Simulation.{run_of}
use Rattle.nam_simulation.proofs.rounds.take_round.Given as goal

-- with the workers that are left, all have had their turns
abbrev pub invariant-loop-before : goal.invariant-loop-before
invariant-loop-before g l =
    let states = map (λ line. (goal.Line-dyn g (line.vtable, line.value)).state line.value) in
    record {
      shape : l.world.shape ≡ l.fn.world.shape;
      rest : after_workers l.fn.world.shape (run_of l.world (states l.lines))
          (numbers_from (l.before + 1) (l.workers - l.before))
          ≡ after_workers l.fn.world.shape (run_of l.fn.world (states l.fn.lines))
          (numbers_from 1 l.workers);
    }
