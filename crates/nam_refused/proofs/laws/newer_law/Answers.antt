use Rattle.nam_refused.proofs.AnswerLemmas.{newer_holds}
use Rattle.nam_refused.proofs.laws.newer_law.Goals as goal

pub returns : goal.returns
returns c = record { newer = newer_holds }
