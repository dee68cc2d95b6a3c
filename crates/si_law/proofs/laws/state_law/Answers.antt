use Rattle.si_law.proofs.TheLaw.{state_is_newest}
use Rattle.si_law.proofs.laws.state_law.Goals as goal

pub returns : goal.returns
returns c = state_is_newest
