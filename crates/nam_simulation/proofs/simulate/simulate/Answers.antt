use Rattle.std.proofs.Common.{map}
use Rattle.nam_simulation.specs.Simulation.{run_of}
use Rattle.nam_simulation.proofs.SimulatedLemmas.{turned_is, ends, is_simulated}
use Rattle.nam_simulation.proofs.simulate.simulate.Goals as goal

pub run_to_end-requires-clause-ends : goal.run_to_end-requires-clause-ends
run_to_end-requires-clause-ends g c =
    let states = map (λ line. (goal.Line-dyn g (line.vtable, line.value)).state line.value) in
    let script = c.args.script.now in
    let is = c.requires.script in
    let lines = states c.args.lines.now in
    let run = run_of c.take_turns.new.world (states c.take_turns.new.lines) in
    ends script is lines run (turned_is script is lines c.args.world.now run c.requires.opened c.take_turns.ensures.run)

pub returns-clause-run : goal.returns-clause-run
returns-clause-run g c =
    let states = map (λ line. (goal.Line-dyn g (line.vtable, line.value)).state line.value) in
    let script = c.args.script.now in
    let is = c.requires.script in
    let lines = states c.args.lines.now in
    let run = run_of c.take_turns.new.world (states c.take_turns.new.lines) in
    let end = run_of c.run_to_end.new.world (states c.run_to_end.new.lines) in
    is_simulated script is lines run end
    (turned_is script is lines c.args.world.now run c.requires.opened c.take_turns.ensures.run) c.run_to_end.ensures.run
