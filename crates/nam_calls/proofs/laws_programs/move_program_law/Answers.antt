use Rattle.nam_calls.proofs.ProgramsTidy.{moves_are_programs}
use Rattle.nam_calls.proofs.laws_programs.move_program_law.Goals as goal

pub returns : goal.returns
returns c = moves_are_programs
