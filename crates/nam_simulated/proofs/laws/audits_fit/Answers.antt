use Rattle.nam_simulated.proofs.AuditLemmas.{audits_fit}
use Rattle.nam_simulated.proofs.laws.audits_fit.Goals as goal

pub returns : goal.returns
returns c = audits_fit
