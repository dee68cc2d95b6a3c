use Rattle.nam_cuts.proofs.CutsLemmas.{line_cuts}
use Rattle.nam_cuts.proofs.laws.line_cuts.Goals as goal

pub returns : goal.returns
returns c = line_cuts
