use Rattle.nam_layout.proofs.PositionLemmas.{position_is_row, row_is_position}
use Rattle.nam_layout.proofs.laws.row_law.Goals as goal

pub returns-clause-position : goal.returns-clause-position
returns-clause-position c = position_is_row

pub returns-clause-row : goal.returns-clause-row
returns-clause-row c = row_is_position
