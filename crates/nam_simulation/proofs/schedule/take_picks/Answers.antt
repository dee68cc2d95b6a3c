use Rattle.std.proofs.Common.{◌≡◌, ◌+◌, ◌-◌, suc, map, ◌∙◌, arith}
use Rattle.nam_protocol.specs.Schedule.{after_workers, picked}
use Rattle.nam_simulation.specs.Simulation.{run_of}
use Rattle.nam_simulation.proofs.RunLemmas.{one_turn, no_turns, picks_rest, no_pick}
use Rattle.nam_simulation.proofs.schedule.take_picks.Goals as goal

pub loop-nth-preserved : goal.loop-nth-preserved
loop-nth-preserved g c =
    let states = map (λ line. (goal.Line-dyn g (line.vtable, line.value)).state line.value) in
    let shape = c.args.world.now.shape in
    let workers = c.args.workers in
    let rest = c.args.picks - (c.loop-nth._nth + 1) in
    let left : c.args.picks - c.loop-nth._nth ≡ suc rest = omega (arith, c.loop-nth-test.true) in
    let run = run_of c.loop-nth.world (states c.loop-nth.lines) in
    let next = run_of c.turn.new.world (states c.turn.new.lines) in
    let start = run_of c.args.world.now (states c.args.lines.now) in
    let end = after_workers shape start (picked workers c.args.seed c.args.picks) in
    let state = c.next_state-generator.result in
    record {
      shape = c.turn.ensures.shape ∙ c.loop-nth.invariant.shape;
      rest = one_turn shape c.loop-nth.world.shape run next end (1 + c.pick.result) (picked workers state rest)
          c.loop-nth.invariant.shape c.turn.ensures.run
          (picks_rest shape run end workers c.loop-nth.generator (c.args.picks - c.loop-nth._nth) rest c.pick.result
          state c.next_state-generator.ensures c.pick.ensures left c.loop-nth.invariant.rest);
    }

pub returns-clause-run : goal.returns-clause-run
returns-clause-run g c =
    no_turns c.args.world.now.shape _ _ _
    (no_pick c.args.workers c.loop-nth.generator (c.args.picks - c.loop-nth._nth)
    (omega (arith, c.loop-nth-test.false)))
    c.loop-nth.invariant.rest
