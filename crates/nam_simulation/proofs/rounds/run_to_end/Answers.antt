use Rattle.std.proofs.Common.{map, sym, ◌∙◌}
use Rattle.nam_simulation.specs.Simulation.{run_of}
use Rattle.nam_simulation.proofs.RunLemmas.{round_ends, is_end}
use Rattle.nam_simulation.proofs.rounds.run_to_end.Goals as goal

pub loop-world-preserved : goal.loop-world-preserved
loop-world-preserved g c =
    let states = map (λ line. (goal.Line-dyn g (line.vtable, line.value)).state line.value) in
    let run = run_of c.loop-world.world (states c.loop-world.lines) in
    let start = run_of c.args.world.now (states c.args.lines.now) in
    let next = run_of c.take_round.new.world (states c.take_round.new.lines) in
    let goes = round_ends c.args.script.now c.loop-world.world.shape c.loop-world.invariant.shape run start
    c.loop-world.invariant.end next c.requires.ends (sym c.is_live.ensures ∙ c.loop-world-test.true)
    c.take_round.ensures.run in
    record { shape = c.take_round.ensures.shape ∙ c.loop-world.invariant.shape; end = goes.0 }

pub loop-world-smaller : goal.loop-world-smaller
loop-world-smaller g c =
    let states = map (λ line. (goal.Line-dyn g (line.vtable, line.value)).state line.value) in
    let run = run_of c.loop-world.world (states c.loop-world.lines) in
    let start = run_of c.args.world.now (states c.args.lines.now) in
    let next = run_of c.take_round.new.world (states c.take_round.new.lines) in
    (round_ends c.args.script.now c.loop-world.world.shape c.loop-world.invariant.shape run start
    c.loop-world.invariant.end next c.requires.ends (sym c.is_live.ensures ∙ c.loop-world-test.true)
    c.take_round.ensures.run).1

pub returns-clause-run : goal.returns-clause-run
returns-clause-run g c =
    let states = map (λ line. (goal.Line-dyn g (line.vtable, line.value)).state line.value) in
    let run = run_of c.loop-world.world (states c.loop-world.lines) in
    let start = run_of c.args.world.now (states c.args.lines.now) in
    is_end c.args.script.now c.loop-world.world.shape c.loop-world.invariant.shape run start
    c.loop-world.invariant.end (sym c.is_live.ensures ∙ c.loop-world-test.false)
