use Rattle.nam_keys.proofs.OpeningLemmas.{keys_open}
use Rattle.nam_keys.proofs.StoreLemmas.{keys_keep, keys_reached, next_law}
use Rattle.nam_keys.proofs.laws.keys_law.Goals as goal

pub returns-clause-opening : goal.returns-clause-opening
returns-clause-opening c = keys_open

pub returns-clause-step : goal.returns-clause-step
returns-clause-step c = keys_keep

pub returns-clause-next : goal.returns-clause-next
returns-clause-next c = next_law

pub returns-clause-reached : goal.returns-clause-reached
returns-clause-reached c = keys_reached
