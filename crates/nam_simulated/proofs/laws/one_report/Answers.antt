use Rattle.nam_simulated.proofs.ReportLemmas.{one_report}
use Rattle.nam_simulated.proofs.laws.one_report.Goals as goal

pub returns : goal.returns
returns c = one_report
