use Rattle.nam_simulated.proofs.WorldKept.{worlds_fit}
use Rattle.nam_simulated.proofs.laws.worlds_fit.Goals as goal

pub returns : goal.returns
returns c = worlds_fit
