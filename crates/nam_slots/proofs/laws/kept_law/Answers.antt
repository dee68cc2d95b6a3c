use Rattle.nam_slots.proofs.KeptLemmas.{copied_law, dirty_law, marked_law, whole_law}
use Rattle.nam_slots.proofs.laws.kept_law.Goals as goal

pub returns-clause-whole : goal.returns-clause-whole
returns-clause-whole c = whole_law

pub returns-clause-copied : goal.returns-clause-copied
returns-clause-copied c = copied_law

pub returns-clause-dirty : goal.returns-clause-dirty
returns-clause-dirty c = dirty_law

pub returns-clause-marked : goal.returns-clause-marked
returns-clause-marked c = marked_law
