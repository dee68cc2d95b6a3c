-- The filling of a cell as a machine.
use Rattle.std.specs.Prelude.{ℕ, ◌<◌, ◌≤◌, List, length}
use Rattle.nam_verbs.specs.declared.now.Now.{Now}
use Rattle.nam_verbs.specs.declared.now.Now.TheVariants.{At}
use Rattle.nam_verbs.specs.Now.{FitsNow}
use Rattle.nam_verbs.specs.Running.{Running}
use Rattle.nam_catalog.specs.declared.bounds.TheConstants.{MOST_WIDTH}
use Rattle.nam_layout.specs.declared.field.Cells.{Cells}
use Rattle.nam_layout.specs.PlaceFits.{FitsCells}
use Rattle.nam_layout.specs.Place.{cell_address, cells_end}
use Rattle.nam_layout.specs.declared.field.Field.{Field}
use Rattle.nam_calls.specs.declared.overflow.Version.{Version}
use Rattle.nam_calls.specs.declared.overflow.FillPoint.{FillPoint}
use Rattle.nam_calls.specs.Overflow.{fill_begin, fill_verb, fill_after, fill_left}
use Rattle.nam_calls.specs.Fits.{FillFits}

-- the filling of a cell with a version of a row, and where it stands
pub record Filling : Type 0 where
  pub cells : Cells
  pub cell : ℕ
  pub owner : ℕ
  pub version : Version
  pub state : Now FillPoint (Unit {0})

-- the cell is one of the bucket's, and the version has as many words as a position can have
pub record FillingFits (cells : Cells) (cell : ℕ) (version : Version) (state : Now FillPoint (Unit {0})) : Type 0 where
  pub bucket : FitsCells cells
  pub within : cell < cells.cells
  pub least : 1 ≤ length version.value
  pub most : length version.value ≤ MOST_WIDTH
  pub at : FitsNow (FillFits (length version.value)) state

abbrev pub filling_at : Cells → ℕ → ℕ → Version → Now FillPoint (Unit {0}) → Filling
filling_at cells cell owner version state =
    record { cells = cells; cell = cell; owner = owner; version = version; state = state }

-- a new filling
abbrev pub filling : Cells → ℕ → ℕ → ℕ → ℕ → List ℕ → Filling
filling cells cell owner begin ending words =
    filling_at cells cell owner record { begin = begin; «end» = ending; value = words } (At fill_begin)

-- the same as a running call
abbrev pub running : Filling → Running Field FillPoint (Unit {0})
running a = record {
  address = cell_address a.cells;
  reach = cells_end a.cells;
  verb = fill_verb a.cells a.cell a.owner a.version;
  after = λ at found. fill_after (length a.version.value) at;
  left = fill_left (length a.version.value);
  state = a.state;
}
