use Rattle.nam_calls.proofs.MedicFalls.{falls_law, begins_law}
use Rattle.nam_calls.proofs.laws_medic.medic_falls.Goals as goal

pub returns-clause-falls : goal.returns-clause-falls
returns-clause-falls c = falls_law

pub returns-clause-begins : goal.returns-clause-begins
returns-clause-begins c = begins_law
