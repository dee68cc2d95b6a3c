use Rattle.nam_past.proofs.OpeningLemmas.{past_open}
use Rattle.nam_past.proofs.StepLemmas.{past_keep}
use Rattle.nam_past.proofs.laws.past_law.Goals as goal

pub returns-clause-opening : goal.returns-clause-opening
returns-clause-opening c = past_open

pub returns-clause-step : goal.returns-clause-step
returns-clause-step c = past_keep
