use Rattle.nam_filled.proofs.TakenLemmas as lemmas
use Rattle.nam_filled.proofs.laws.taken_law.Goals as goal

pub returns : goal.returns
returns c = lemmas.taken_law
