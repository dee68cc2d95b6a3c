use Rattle.si_law.proofs.GrowthCommit.{commit_growth}
use Rattle.si_law.proofs.growth.commit_growth_law.Goals as goal

pub returns : goal.returns
returns c = commit_growth
