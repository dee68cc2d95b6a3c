use Rattle.nam_layout.proofs.PlaceLemmas.{place_within, cells_within, workers_within}
use Rattle.nam_layout.proofs.laws.within_law.Goals as goal

pub returns-clause-place : goal.returns-clause-place
returns-clause-place c = place_within

pub returns-clause-cells : goal.returns-clause-cells
returns-clause-cells c = cells_within

pub returns-clause-workers : goal.returns-clause-workers
returns-clause-workers c = workers_within
