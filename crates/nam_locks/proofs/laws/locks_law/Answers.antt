use Rattle.nam_locks.proofs.OpeningLemmas.{locks_open}
use Rattle.nam_locks.proofs.StoreLemmas.{locks_keep, locks_reached}
use Rattle.nam_locks.proofs.laws.locks_law.Goals as goal

pub returns-clause-opening : goal.returns-clause-opening
returns-clause-opening c = locks_open

pub returns-clause-step : goal.returns-clause-step
returns-clause-step c = locks_keep

pub returns-clause-reached : goal.returns-clause-reached
returns-clause-reached c = locks_reached
