-- A move under a position and the cells of its bucket, as a running call.
use Rattle.std.specs.Prelude.{Option, None}
use Rattle.si_model.specs.declared.log.Stamp.{Stamp}
use Rattle.nam_verbs.specs.declared.now.Now.{Now}
use Rattle.nam_verbs.specs.declared.now.Now.TheVariants.{At, Over}
use Rattle.nam_verbs.specs.Running.{Running}
use Rattle.nam_layout.specs.declared.field.Place.{Place}
use Rattle.nam_layout.specs.declared.field.Cells.{Cells}
use Rattle.nam_layout.specs.Place.{known_address, place_end, cells_end, later}
use Rattle.nam_layout.specs.declared.field.Field.{Field}
use Rattle.nam_calls.specs.declared.mover.MovePoint.{MovePoint}
use Rattle.nam_calls.specs.declared.mover.MoveAnswer.{MoveAnswer}
use Rattle.nam_calls.specs.Mover.{move_begin, move_verb, move_after, move_left, move_claimed}

-- the move of a position's old version into one of these cells, and where it stands
pub record Moving : Type 0 where
  pub place : Place
  pub cells : Cells
  pub state : Now MovePoint MoveAnswer

-- a new move
abbrev pub moving : Place → Cells → Moving
moving place cells = record { place = place; cells = cells; state = At move_begin }

-- the same as a running call
abbrev pub running : Moving → Running Field MovePoint MoveAnswer
running a = record {
  address = known_address a.place a.cells 0;
  reach = later (place_end a.place) (cells_end a.cells);
  verb = move_verb a.place a.cells;
  after = move_after a.place a.cells;
  left = move_left a.place a.cells;
  state = a.state;
}

-- the version for which a cell was claimed, at a point or after the end
abbrev pub claimed_in : Place → Now MovePoint MoveAnswer → Option Stamp
claimed_in place (At at) = move_claimed place at
claimed_in place (Over end) = None

abbrev pub claimed_now : Moving → Option Stamp
claimed_now a = claimed_in a.place a.state
