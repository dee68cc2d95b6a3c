use Rattle.nam_tells.proofs.StoreLemmas.{steps_law, stores_law}
use Rattle.nam_tells.proofs.laws.told_law.Goals as goal

pub returns-clause-steps : goal.returns-clause-steps
returns-clause-steps c = steps_law

pub returns-clause-stores : goal.returns-clause-stores
returns-clause-stores c = stores_law
