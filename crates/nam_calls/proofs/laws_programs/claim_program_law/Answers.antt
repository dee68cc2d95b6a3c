use Rattle.nam_calls.proofs.ProgramsClaim.{claims_are_programs}
use Rattle.nam_calls.proofs.laws_programs.claim_program_law.Goals as goal

pub returns : goal.returns
returns c = claims_are_programs
