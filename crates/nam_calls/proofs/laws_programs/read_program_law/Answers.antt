use Rattle.nam_calls.proofs.ProgramsRead.{reads_are_programs}
use Rattle.nam_calls.proofs.laws_programs.read_program_law.Goals as goal

pub returns : goal.returns
returns c = reads_are_programs
