use Rattle.nam_law.proofs.WorldsLemmas.{worlds_law}
use Rattle.nam_law.proofs.laws.worlds_law.Goals as goal

pub returns : goal.returns
returns c = worlds_law
