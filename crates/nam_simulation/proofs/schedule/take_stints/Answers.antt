use Rattle.std.proofs.Common.{◌<◌, ◌≤◌, ◌+◌, length, drop, map, ap, sym, ◌∙◌, arith}
use Rattle.nam_protocol.specs.Schedule.{after_workers, stint_workers}
use Rattle.nam_simulation.specs.Simulation.{run_of, stints_of}
use Rattle.nam_simulation.proofs.RunLemmas.{some_turns, no_turns, stints_from, no_stint}
use Rattle.nam_simulation.proofs.schedule.take_stints.Goals as goal

pub loop-stint-preserved : goal.loop-stint-preserved
loop-stint-preserved g c =
    let states = map (λ line. (goal.Line-dyn g (line.vtable, line.value)).state line.value) in
    let shape = c.args.world.now.shape in
    let stints = c.args.stints.now in
    let place = c.loop-stint.stint-index in
    let less : place < length stints = omega (arith, c.loop-stint-test.true) in
    let run = run_of c.loop-stint.world (states c.loop-stint.lines) in
    let next = run_of c.take_stint.new.world (states c.take_stint.new.lines) in
    let start = run_of c.args.world.now (states c.args.lines.now) in
    let end = after_workers shape start (stint_workers (stints_of stints)) in
    record {
      shape = c.take_stint.ensures.shape ∙ c.loop-stint.invariant.shape;
      rest = some_turns shape c.loop-stint.world.shape run next end _
          (stint_workers (stints_of (drop (place + 1) stints))) c.loop-stint.invariant.shape c.take_stint.ensures.run
          (ap (after_workers shape run) (sym (stints_from stints place _ less)) ∙ c.loop-stint.invariant.rest);
    }

pub returns-clause-run : goal.returns-clause-run
returns-clause-run g c =
    let past : length c.args.stints.now ≤ c.loop-stint.stint-index = omega (arith, c.loop-stint-test.false) in
    no_turns c.args.world.now.shape _ _ _ (no_stint c.args.stints.now c.loop-stint.stint-index past)
    c.loop-stint.invariant.rest
