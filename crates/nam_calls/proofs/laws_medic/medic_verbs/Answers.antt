use Rattle.nam_calls.proofs.MedicVerbs.{field_law, holds_law, word_law, writes_law}
use Rattle.nam_calls.proofs.laws_medic.medic_verbs.Goals as goal

pub returns-clause-field : goal.returns-clause-field
returns-clause-field c = field_law

pub returns-clause-holds : goal.returns-clause-holds
returns-clause-holds c = holds_law

pub returns-clause-word : goal.returns-clause-word
returns-clause-word c = word_law

pub returns-clause-writes : goal.returns-clause-writes
returns-clause-writes c = writes_law
