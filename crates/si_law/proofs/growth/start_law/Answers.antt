use Rattle.si_law.proofs.GrowthStart.{start_consistent}
use Rattle.si_law.proofs.growth.start_law.Goals as goal

pub returns : goal.returns
returns c = start_consistent
