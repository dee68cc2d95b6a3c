-- The limits of places and of cells.
use Rattle.std.specs.Prelude.{◌≡◌, ℕ, ◌+◌, ◌<◌, ◌≤◌}
use Rattle.nam_catalog.specs.declared.bounds.TheConstants.{MOST_WIDTH, MOST_RING, MOST_CELLS, MOST_WORDS}
use Rattle.nam_catalog.specs.declared.shape.Shape.{Shape}
use Rattle.nam_catalog.specs.Fits.{FitsLimits}
use Rattle.nam_layout.specs.declared.field.Place.{Place}
use Rattle.nam_layout.specs.declared.field.Cells.{Cells}
use Rattle.nam_layout.specs.Address.{IsRow}
use Rattle.nam_layout.specs.Place.{place_at, cells_of, place_end, cells_end}

-- a place has as many words as a table's position can have; they follow each other, and the last is a word of a store
pub record FitsPlace (place : Place) : Type 0 where
  pub least_width : 1 ≤ place.width
  pub most_width : place.width ≤ MOST_WIDTH
  pub least_ring : 1 ≤ place.ring
  pub most_ring : place.ring ≤ MOST_RING
  pub header_follows : place.header_at ≡ place.key_at + 1
  pub count_follows : place.count_at ≡ place.header_at + 1
  pub words_follow : place.words_at ≡ place.count_at + 1
  pub ring_follows : place.ring_at ≡ place.words_at + place.width
  pub last : place_end place ≤ MOST_WORDS

-- there are as many cells as a bucket can have, and the last word of the last is a word of a store
pub record FitsCells (cells : Cells) : Type 0 where
  pub least_cells : 1 ≤ cells.cells
  pub most_cells : cells.cells ≤ MOST_CELLS
  pub last : cells_end cells ≤ MOST_WORDS

-- places and cells of a shape within its limits are within theirs
abbrev pub PlaceFitsLaw : Type 0
PlaceFitsLaw = (shape : Shape) (row : ℕ) → FitsLimits shape → IsRow shape row → FitsPlace (place_at shape row)

abbrev pub CellsFitLaw : Type 0
CellsFitLaw =
    (shape : Shape) (bucket : ℕ) → FitsLimits shape → bucket < shape.buckets → FitsCells (cells_of shape bucket)
