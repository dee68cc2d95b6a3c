use Rattle.nam_refused.proofs.StoreLemmas.{refused_keeps, refused_opens}
use Rattle.nam_refused.proofs.laws.refused_law.Goals as goal

pub returns-clause-opening : goal.returns-clause-opening
returns-clause-opening c = refused_opens

pub returns-clause-step : goal.returns-clause-step
returns-clause-step c = refused_keeps
