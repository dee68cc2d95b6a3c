use Rattle.nam_store.proofs.BaseLemmas.{does_law}
use Rattle.nam_store.proofs.StepLemmas.{others_stay}
use Rattle.nam_store.proofs.laws.step_leaves.Goals as goal

pub returns-clause-fields : goal.returns-clause-fields
returns-clause-fields c = does_law

pub returns-clause-clients : goal.returns-clause-clients
returns-clause-clients c = others_stay
