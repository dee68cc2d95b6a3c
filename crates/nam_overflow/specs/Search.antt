-- The search of a bucket's cells as a machine.
use Rattle.std.specs.Prelude.{ℕ, List}
use Rattle.nam_verbs.specs.declared.now.Now.{Now}
use Rattle.nam_verbs.specs.declared.now.Now.TheVariants.{At}
use Rattle.nam_verbs.specs.Running.{Running}
use Rattle.nam_layout.specs.declared.field.Place.{Place}
use Rattle.nam_layout.specs.declared.field.Cells.{Cells}
use Rattle.nam_layout.specs.Place.{cell_address, cells_end}
use Rattle.nam_layout.specs.declared.field.Field.{Field}
use Rattle.nam_calls.specs.declared.ring.SearchEnd.{SearchEnd}
use Rattle.nam_calls.specs.declared.overflow.CellPoint.{CellPoint}
use Rattle.nam_calls.specs.Overflow.{cell_begin, cell_verb, cell_after, cell_left}

-- a search of cells for the version of a row that a snapshot sees, and where it stands
pub record Searching : Type 0 where
  pub cells : Cells
  pub place : Place
  pub seen : List ℕ
  pub state : Now CellPoint SearchEnd

-- a new search
abbrev pub searching : Cells → Place → List ℕ → Searching
searching cells place seen = record { cells = cells; place = place; seen = seen; state = At cell_begin }

-- the same as a running call
abbrev pub running : Searching → Running Field CellPoint SearchEnd
running a = record {
  address = cell_address a.cells;
  reach = cells_end a.cells;
  verb = cell_verb a.cells;
  after = cell_after a.cells a.place a.seen;
  left = cell_left a.cells a.place;
  state = a.state;
}
