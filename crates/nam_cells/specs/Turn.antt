-- What one step of a client owes, as cells see it.
use Rattle.nam_catalog.specs.declared.shape.Shape.{Shape}
use Rattle.nam_ghost.specs.Cells.{CellMap, CellsAre, IsHorizonBehind}
use Rattle.nam_ghost.specs.Turn.{Turn}
use Rattle.nam_ghost.specs.Upkeep.{CellsNext, Upkeep, UpkeepOk}

-- it owes something to all others, that each cell is as it is said, and of the client itself
pub record TurnOk (shape : Shape) (turn : Turn shape) (after : CellMap) (view : Upkeep) : Type 0 where
  pub spares : CellsNext shape turn.m turn.now turn.later turn.next turn.cells after turn.nth
  pub are : CellsAre shape turn.later turn.next turn.now after
  pub behind : IsHorizonBehind shape turn.now
  pub own : UpkeepOk shape turn.later turn.next turn.now after turn.nth view
