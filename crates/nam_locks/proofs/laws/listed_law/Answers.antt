use Rattle.nam_locks.proofs.ListedLemmas.{listed_locked, listed_once, locked_listed}
use Rattle.nam_locks.proofs.laws.listed_law.Goals as goal

pub returns-clause-locked : goal.returns-clause-locked
returns-clause-locked c = locked_listed

pub returns-clause-listed : goal.returns-clause-listed
returns-clause-listed c = listed_locked

pub returns-clause-once : goal.returns-clause-once
returns-clause-once c = listed_once
