use Rattle.nam_store.proofs.BaseLemmas.{base_keeps}
use Rattle.nam_store.proofs.OpeningLemmas.{opening_ok}
use Rattle.nam_store.proofs.ReachedLemmas.{reached_law}
use Rattle.nam_store.proofs.laws.base_law.Goals as goal

pub returns-clause-opening : goal.returns-clause-opening
returns-clause-opening c = opening_ok

pub returns-clause-step : goal.returns-clause-step
returns-clause-step c = base_keeps

pub returns-clause-reached : goal.returns-clause-reached
returns-clause-reached c = reached_law
