use Rattle.nam_simulated.proofs.WorldKept.{runs_fit}
use Rattle.nam_simulated.proofs.laws.runs_fit.Goals as goal

pub returns : goal.returns
returns c = runs_fit
