use Rattle.si_law.proofs.GrowthQuiet.{quiet_growth}
use Rattle.si_law.proofs.growth.quiet_growth_law.Goals as goal

pub returns : goal.returns
returns c = quiet_growth
