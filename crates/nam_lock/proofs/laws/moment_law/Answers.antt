use Rattle.nam_calls.specs.Lock.{header_field}
use Rattle.nam_lock.proofs.MomentLemmas.{locks_so_far, changed_so_far}
use Rattle.nam_lock.proofs.laws.moment_law.Goals as goal

pub returns-clause-machine : goal.returns-clause-machine
returns-clause-machine c = locks_so_far (λ place. place)

pub returns-clause-fields : goal.returns-clause-fields
returns-clause-fields c = locks_so_far header_field

pub returns-clause-stored : goal.returns-clause-stored
returns-clause-stored c = changed_so_far (λ place. place)

pub returns-clause-stored_fields : goal.returns-clause-stored_fields
returns-clause-stored_fields c = changed_so_far header_field
