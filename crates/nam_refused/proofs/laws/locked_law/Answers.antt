use Rattle.nam_refused.proofs.AnswerLemmas.{found_holds}
use Rattle.nam_refused.proofs.LockedLemmas.{locked_holds}
use Rattle.nam_refused.proofs.laws.locked_law.Goals as goal

pub returns-clause-locked : goal.returns-clause-locked
returns-clause-locked c = locked_holds

pub returns-clause-found : goal.returns-clause-found
returns-clause-found c = found_holds
