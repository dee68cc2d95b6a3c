use Rattle.nam_ring.proofs.CopyLemmas.{copy_writes}
use Rattle.nam_ring.proofs.laws.copy_law.Goals as goal

pub returns : goal.returns
returns c = copy_writes
