use Rattle.nam_origins.proofs.OpeningLemmas.{origins_open}
use Rattle.nam_origins.proofs.StoreLemmas.{origins_keep, origins_reached}
use Rattle.nam_origins.proofs.laws.origins_law.Goals as goal

pub returns-clause-opening : goal.returns-clause-opening
returns-clause-opening c = origins_open

pub returns-clause-step : goal.returns-clause-step
returns-clause-step c = origins_keep

pub returns-clause-reached : goal.returns-clause-reached
returns-clause-reached c = origins_reached
