use Rattle.nam_commit.proofs.HeldLemmas.{held_more}
use Rattle.nam_commit.proofs.laws.held_law.Goals as goal

pub returns : goal.returns
returns c = held_more
