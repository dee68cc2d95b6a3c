use Rattle.nam_scans.proofs.StoreLemmas.{scans_keep, scans_open}
use Rattle.nam_scans.proofs.laws.scans_law.Goals as goal

pub returns-clause-opening : goal.returns-clause-opening
returns-clause-opening c = scans_open

pub returns-clause-step : goal.returns-clause-step
returns-clause-step c = scans_keep
