use Rattle.nam_layout.proofs.PlaceLemmas.{place_stands, cells_stand, workers_stand, known_stands}
use Rattle.nam_layout.proofs.laws.place_law.Goals as goal

pub returns-clause-place : goal.returns-clause-place
returns-clause-place c = place_stands

pub returns-clause-cells : goal.returns-clause-cells
returns-clause-cells c = cells_stand

pub returns-clause-workers : goal.returns-clause-workers
returns-clause-workers c = workers_stand

pub returns-clause-known : goal.returns-clause-known
returns-clause-known c = known_stands
