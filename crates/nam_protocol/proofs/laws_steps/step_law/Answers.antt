use Rattle.nam_protocol.proofs.StepLemmas.{step_law}
use Rattle.nam_protocol.proofs.laws_steps.step_law.Goals as goal

pub returns : goal.returns
returns c = step_law
