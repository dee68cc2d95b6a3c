use Rattle.nam_calls.specs.Lock.{header_field}
use Rattle.nam_lock.proofs.UnlockingLemmas.{unlocks}
use Rattle.nam_lock.proofs.laws.unlocking_law.Goals as goal

pub returns-clause-machine : goal.returns-clause-machine
returns-clause-machine c = unlocks (λ place. place)

pub returns-clause-fields : goal.returns-clause-fields
returns-clause-fields c = unlocks header_field
