use Rattle.nam_since.proofs.OpeningLemmas.{since_open}
use Rattle.nam_since.proofs.StoreLemmas.{since_keep}
use Rattle.nam_since.proofs.laws.since_law.Goals as goal

pub returns-clause-opening : goal.returns-clause-opening
returns-clause-opening c = since_open

pub returns-clause-step : goal.returns-clause-step
returns-clause-step c = since_keep
