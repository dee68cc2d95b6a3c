use Rattle.nam_store.proofs.StepLemmas.{step_by}
use Rattle.nam_store.proofs.laws.step_by.Goals as goal

pub returns : goal.returns
returns c = step_by
