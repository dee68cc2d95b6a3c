use Rattle.nam_since.proofs.CircleLemmas.{path_contained, path_rises, placed_once, uncircled}
use Rattle.nam_since.proofs.laws.circle_law.Goals as goal

pub returns-clause-places : goal.returns-clause-places
returns-clause-places c = placed_once

pub returns-clause-rises : goal.returns-clause-rises
returns-clause-rises c = path_rises

pub returns-clause-circle : goal.returns-clause-circle
returns-clause-circle c = uncircled

pub returns-clause-contained : goal.returns-clause-contained
returns-clause-contained c = path_contained
