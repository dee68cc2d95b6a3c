use Rattle.nam_calls.specs.Lock.{header_field}
use Rattle.nam_lock.proofs.LockingLemmas.{locking_ends}
use Rattle.nam_lock.proofs.laws.locking_law.Goals as goal

pub returns-clause-machine : goal.returns-clause-machine
returns-clause-machine c = locking_ends (λ place. place)

pub returns-clause-fields : goal.returns-clause-fields
returns-clause-fields c = locking_ends header_field
