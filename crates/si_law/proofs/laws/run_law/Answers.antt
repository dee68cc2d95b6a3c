use Rattle.si_law.proofs.TheLaw.{arranged_is_run}
use Rattle.si_law.proofs.laws.run_law.Goals as goal

pub returns : goal.returns
returns c = arranged_is_run
