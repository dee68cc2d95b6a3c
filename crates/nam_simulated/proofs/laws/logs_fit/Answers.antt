use Rattle.nam_simulated.proofs.ClosedKept.{logs_fit}
use Rattle.nam_simulated.proofs.laws.logs_fit.Goals as goal

pub returns : goal.returns
returns c = logs_fit
