use Rattle.si_law.proofs.TheLaw.{consistent_no_circle, consistent_arrange}
use Rattle.si_law.proofs.laws.arrange_law.Goals as goal

pub returns-clause-arrange : goal.returns-clause-arrange
returns-clause-arrange c = consistent_arrange

pub returns-clause-no_circle : goal.returns-clause-no_circle
returns-clause-no_circle c = consistent_no_circle
