use Rattle.nam_calls.proofs.ProgramsCollect.{collections_are_programs}
use Rattle.nam_calls.proofs.laws_programs.collect_program_law.Goals as goal

pub returns : goal.returns
returns c = collections_are_programs
