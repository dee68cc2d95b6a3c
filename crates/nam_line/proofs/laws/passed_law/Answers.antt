use Rattle.nam_line.proofs.PassedLemmas.{law}
use Rattle.nam_line.proofs.laws.passed_law.Goals as goal

pub returns : goal.returns
returns c = law
