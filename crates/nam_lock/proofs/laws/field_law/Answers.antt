use Rattle.nam_lock.proofs.FieldLemmas.{locks_at_fields, unlocks_at_fields}
use Rattle.nam_lock.proofs.laws.field_law.Goals as goal

pub returns-clause-locking : goal.returns-clause-locking
returns-clause-locking c = locks_at_fields

pub returns-clause-unlocking : goal.returns-clause-unlocking
returns-clause-unlocking c = unlocks_at_fields
