use Rattle.nam_tells.proofs.AskedStores.{asked_law, leaves_law}
use Rattle.nam_tells.proofs.laws.asked_law.Goals as goal

pub returns-clause-cut : goal.returns-clause-cut
returns-clause-cut c = asked_law

pub returns-clause-leaves : goal.returns-clause-leaves
returns-clause-leaves c = leaves_law
