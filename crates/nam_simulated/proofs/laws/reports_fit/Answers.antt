use Rattle.nam_simulated.proofs.ReportLemmas.{reports_fit, simulated_fit}
use Rattle.nam_simulated.proofs.laws.reports_fit.Goals as goal

pub returns-clause-left : goal.returns-clause-left
returns-clause-left c = reports_fit

pub returns-clause-simulated : goal.returns-clause-simulated
returns-clause-simulated c = simulated_fit c.arranged_law.ensures.published
