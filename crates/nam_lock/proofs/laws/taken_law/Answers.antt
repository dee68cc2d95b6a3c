use Rattle.nam_lock.proofs.TakenLemmas.{start_takes}
use Rattle.nam_lock.proofs.laws.taken_law.Goals as goal

pub returns : goal.returns
returns c = start_takes
