use Rattle.nam_verbs.proofs.StepsLemmas.{law_of_steps}
use Rattle.nam_verbs.proofs.laws.steps_law.Goals as goal

pub returns : goal.returns
returns g c = law_of_steps _ _ _
