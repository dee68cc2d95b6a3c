use Rattle.nam_versions.proofs.OpeningLemmas.{chains_open}
use Rattle.nam_versions.proofs.SeenLemmas.{chains_once}
use Rattle.nam_versions.proofs.StoreLemmas.{chains_keep, chains_next}
use Rattle.nam_versions.proofs.laws.chains_law.Goals as goal

pub returns-clause-opening : goal.returns-clause-opening
returns-clause-opening c = chains_open

pub returns-clause-step : goal.returns-clause-step
returns-clause-step c = chains_keep

pub returns-clause-next : goal.returns-clause-next
returns-clause-next c = chains_next

pub returns-clause-once : goal.returns-clause-once
returns-clause-once c = chains_once
