use Rattle.nam_cuts.proofs.CutsLemmas.{passed_bounds}
use Rattle.nam_cuts.proofs.laws.passed_bounds.Goals as goal

pub returns : goal.returns
returns c = passed_bounds
