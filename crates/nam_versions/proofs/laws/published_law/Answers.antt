use Rattle.nam_versions.proofs.OpeningLemmas.{published_open}
use Rattle.nam_versions.proofs.SeenLemmas.{published_installed, published_once}
use Rattle.nam_versions.proofs.StoreLemmas.{published_keep}
use Rattle.nam_versions.proofs.laws.published_law.Goals as goal

pub returns-clause-opening : goal.returns-clause-opening
returns-clause-opening c = published_open

pub returns-clause-step : goal.returns-clause-step
returns-clause-step c = published_keep

pub returns-clause-installed : goal.returns-clause-installed
returns-clause-installed c = published_installed

pub returns-clause-once : goal.returns-clause-once
returns-clause-once c = published_once
