use Rattle.nam_layout.proofs.LimitLemmas.{place_within_limits, cells_within_limits}
use Rattle.nam_layout.proofs.laws.limit_law.Goals as goal

pub returns-clause-place : goal.returns-clause-place
returns-clause-place c = place_within_limits

pub returns-clause-cells : goal.returns-clause-cells
returns-clause-cells c = cells_within_limits
