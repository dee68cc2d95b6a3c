use Rattle.nam_claimed.proofs.AskedLemmas.{asked_holds}
use Rattle.nam_claimed.proofs.StoreLemmas.{claimed_keeps, claimed_opens, claimed_reached}
use Rattle.nam_claimed.proofs.laws.claimed_law.Goals as goal

pub returns-clause-opening : goal.returns-clause-opening
returns-clause-opening c = claimed_opens

pub returns-clause-step : goal.returns-clause-step
returns-clause-step c = claimed_keeps

pub returns-clause-reached : goal.returns-clause-reached
returns-clause-reached c = claimed_reached

pub returns-clause-asked : goal.returns-clause-asked
returns-clause-asked c = asked_holds
