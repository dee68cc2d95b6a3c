use Rattle.nam_protocol.proofs.ProgramsCommit.{commits_are_programs}
use Rattle.nam_protocol.proofs.laws_growth.commit_program_law.Goals as goal

pub returns : goal.returns
returns c = commits_are_programs
