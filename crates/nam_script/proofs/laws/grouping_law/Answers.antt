use Rattle.nam_script.proofs.GroupingLemmas.{grouping}
use Rattle.nam_script.proofs.laws.grouping_law.Goals as goal

pub returns : goal.returns
returns c = grouping
