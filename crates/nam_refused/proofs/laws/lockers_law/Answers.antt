use Rattle.nam_refused.proofs.LockerSteps.{listed_holds, lockers_keep, lockers_open}
use Rattle.nam_refused.proofs.laws.lockers_law.Goals as goal

pub returns-clause-opening : goal.returns-clause-opening
returns-clause-opening c = lockers_open

pub returns-clause-step : goal.returns-clause-step
returns-clause-step c = lockers_keep

pub returns-clause-listed : goal.returns-clause-listed
returns-clause-listed c = listed_holds
