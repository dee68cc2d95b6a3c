use Rattle.nam_claimed.proofs.EndLemmas.{absent_holds, scan_holds}
use Rattle.nam_claimed.proofs.ModelLemmas.{crowded_holds}
use Rattle.nam_claimed.proofs.PlacedLemmas.{placed_holds}
use Rattle.nam_claimed.proofs.SpaceLemmas.{no_space_holds}
use Rattle.nam_claimed.proofs.laws.ends_law.Goals as goal

pub returns-clause-no_space : goal.returns-clause-no_space
returns-clause-no_space c = no_space_holds

pub returns-clause-crowded : goal.returns-clause-crowded
returns-clause-crowded c = crowded_holds

pub returns-clause-absent : goal.returns-clause-absent
returns-clause-absent c = absent_holds

pub returns-clause-placed : goal.returns-clause-placed
returns-clause-placed c = placed_holds

pub returns-clause-scan : goal.returns-clause-scan
returns-clause-scan c = scan_holds
