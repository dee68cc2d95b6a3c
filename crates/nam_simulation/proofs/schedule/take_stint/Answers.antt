use Rattle.std.proofs.Common.{◌≡◌, ◌+◌, ◌-◌, suc, map, ap, sym, ◌∙◌, arith}
use Rattle.std.specs.Prelude.{replicate}
use Rattle.nam_protocol.specs.Schedule.{after_workers}
use Rattle.nam_simulation.specs.Simulation.{run_of}
use Rattle.nam_simulation.proofs.RunLemmas.{one_turn, no_turns}
use Rattle.nam_simulation.proofs.schedule.take_stint.Goals as goal

pub loop-step-preserved : goal.loop-step-preserved
loop-step-preserved g c =
    let states = map (λ line. (goal.Line-dyn g (line.vtable, line.value)).state line.value) in
    let shape = c.args.world.now.shape in
    let worker = c.args.stint.worker in
    let rest = c.args.stint.steps - (c.loop-step._step + 1) in
    let left : c.args.stint.steps - c.loop-step._step ≡ suc rest = omega (arith, c.loop-step-test.true) in
    let run = run_of c.loop-step.world (states c.loop-step.lines) in
    let next = run_of c.turn.new.world (states c.turn.new.lines) in
    let start = run_of c.args.world.now (states c.args.lines.now) in
    let end = after_workers shape start (replicate c.args.stint.steps worker) in
    record {
      shape = c.turn.ensures.shape ∙ c.loop-step.invariant.shape;
      rest = one_turn shape c.loop-step.world.shape run next end worker (replicate rest worker)
          c.loop-step.invariant.shape c.turn.ensures.run
          (ap (λ n. after_workers shape run (replicate n worker)) (sym left) ∙ c.loop-step.invariant.rest);
    }

pub returns-clause-run : goal.returns-clause-run
returns-clause-run g c =
    let none : c.args.stint.steps - c.loop-step._step ≡ 0 = omega (arith, c.loop-step-test.false) in
    no_turns c.args.world.now.shape _ _ _ (ap (λ n. replicate n c.args.stint.worker) none) c.loop-step.invariant.rest
