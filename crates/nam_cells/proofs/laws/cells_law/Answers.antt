use Rattle.nam_cells.proofs.OpeningLemmas.{cells_open}
use Rattle.nam_cells.proofs.PlaceLemmas.{flags_law}
use Rattle.nam_cells.proofs.StoreLemmas.{cells_keep, cells_next}
use Rattle.nam_cells.proofs.laws.cells_law.Goals as goal

pub returns-clause-opening : goal.returns-clause-opening
returns-clause-opening c = cells_open

pub returns-clause-step : goal.returns-clause-step
returns-clause-step c = cells_keep

pub returns-clause-next : goal.returns-clause-next
returns-clause-next c = cells_next

pub returns-clause-flags : goal.returns-clause-flags
returns-clause-flags c = flags_law
