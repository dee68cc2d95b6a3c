use Rattle.nam_law.proofs.LockersLemmas.{listed_tells, lockers_reached}
use Rattle.nam_law.proofs.laws.lockers_law.Goals as goal

pub returns-clause-reached : goal.returns-clause-reached
returns-clause-reached c = lockers_reached

pub returns-clause-listed : goal.returns-clause-listed
returns-clause-listed c = listed_tells
