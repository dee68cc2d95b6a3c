use Rattle.nam_calls.proofs.ProgramsMedic.{medic_is_program}
use Rattle.nam_calls.proofs.laws_medic.medic_program_law.Goals as goal

pub returns : goal.returns
returns c = medic_is_program
