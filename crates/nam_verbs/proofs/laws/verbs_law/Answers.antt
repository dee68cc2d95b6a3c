use Rattle.nam_verbs.proofs.StepsLemmas.{law_of_verbs}
use Rattle.nam_verbs.proofs.laws.verbs_law.Goals as goal

pub returns : goal.returns
returns g c = law_of_verbs _ _ _
