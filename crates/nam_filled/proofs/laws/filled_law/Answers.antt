use Rattle.nam_filled.proofs.OpeningLemmas.{filled_opens}
use Rattle.nam_filled.proofs.StoreLemmas.{filled_keeps}
use Rattle.nam_filled.proofs.laws.filled_law.Goals as goal

pub returns-clause-opening : goal.returns-clause-opening
returns-clause-opening c = filled_opens

pub returns-clause-step : goal.returns-clause-step
returns-clause-step c = filled_keeps
