use Rattle.std.proofs.Common.{map}
use Rattle.nam_simulation.specs.Simulation.{run_of}
use Rattle.nam_simulation.proofs.SimulatedLemmas.{left_fits}
use Rattle.nam_simulation.proofs.simulate.simulated_text.Goals as goal

pub report_of-requires-clause-left : goal.report_of-requires-clause-left
report_of-requires-clause-left g c =
    let states = map (λ line. (goal.Line-dyn g (line.vtable, line.value)).state line.value) in
    left_fits c.args.script.now c.requires.script (states c.args.lines.now)
    (run_of c.simulate.new.world (states c.simulate.new.lines)) c.simulate.ensures.run
