use Rattle.std.proofs.Common.{◌≡◌, ◌+◌, ◌-◌, suc, map, ap, sym, ◌∙◌, arith}
use Rattle.nam_protocol.specs.Schedule.{after_workers, numbers_from}
use Rattle.nam_simulation.specs.Simulation.{run_of}
use Rattle.nam_simulation.proofs.RunLemmas.{one_turn, no_turns}
use Rattle.nam_simulation.proofs.rounds.take_round.Goals as goal

pub loop-before-preserved : goal.loop-before-preserved
loop-before-preserved g c =
    let states = map (λ line. (goal.Line-dyn g (line.vtable, line.value)).state line.value) in
    let shape = c.args.world.now.shape in
    let before = c.loop-before.before in
    let rest = c.args.workers - (before + 1) in
    let left : c.args.workers - before ≡ suc rest = omega (arith, c.loop-before-test.true) in
    let run = run_of c.loop-before.world (states c.loop-before.lines) in
    let next = run_of c.turn.new.world (states c.turn.new.lines) in
    let start = run_of c.args.world.now (states c.args.lines.now) in
    let end = after_workers shape start (numbers_from 1 c.args.workers) in
    record {
      shape = c.turn.ensures.shape ∙ c.loop-before.invariant.shape;
      rest = one_turn shape c.loop-before.world.shape run next end (before + 1) (numbers_from (before + 1 + 1) rest)
          c.loop-before.invariant.shape c.turn.ensures.run
          (ap (λ n. after_workers shape run (numbers_from (before + 1) n)) (sym left) ∙ c.loop-before.invariant.rest);
    }

pub returns-clause-run : goal.returns-clause-run
returns-clause-run g c =
    let states = map (λ line. (goal.Line-dyn g (line.vtable, line.value)).state line.value) in
    let shape = c.args.world.now.shape in
    let start = run_of c.args.world.now (states c.args.lines.now) in
    let none : c.args.workers - c.loop-before.before ≡ 0 = omega (arith, c.loop-before-test.false) in
    no_turns shape _ _ _ (ap (numbers_from (c.loop-before.before + 1)) none)
    (c.loop-before.invariant.rest ∙ ap (λ n. after_workers shape start (numbers_from 1 n)) c.requires.workers)
