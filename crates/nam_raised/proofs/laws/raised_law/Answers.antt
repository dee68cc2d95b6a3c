use Rattle.nam_raised.proofs.StoreLemmas.{raised_keeps, raised_opens}
use Rattle.nam_raised.proofs.laws.raised_law.Goals as goal

pub returns-clause-opening : goal.returns-clause-opening
returns-clause-opening c = raised_opens

pub returns-clause-step : goal.returns-clause-step
returns-clause-step c = raised_keeps
