-- The fields of places, of cells and of workers are those of the shape, and stand where its addresses say.
use Rattle.std.specs.Prelude.{◌≡◌, ℕ, ◌+◌, ◌*◌, ◌<◌}
use Rattle.nam_catalog.specs.declared.shape.Shape.{Shape}
use Rattle.nam_layout.specs.declared.field.Field.{Field}
use Rattle.nam_layout.specs.declared.field.Field.TheVariants.{Intent}
use Rattle.nam_layout.specs.declared.field.Place.{Place}
use Rattle.nam_layout.specs.declared.field.Cells.{Cells}
use Rattle.nam_layout.specs.Address.{IsRow, IsField, address}
use Rattle.nam_layout.specs.Place.{place_at, cells_of, position_address, cell_address, worker_address, known_address}
use Rattle.nam_layout.specs.Place.{place_end, cells_end}
use Rattle.nam_layout.specs.PlaceFits.{FitsPlace, FitsCells}
use Rattle.nam_layout.specs.Known.{IsOfPlace, IsOfCells, IsOfWorkers, IsKnown}

-- 1. Fields of a shape

abbrev pub PlaceLaw : Type 0
PlaceLaw = (shape : Shape) (row : ℕ) (field : Field) → IsOfPlace (place_at shape row) field
    → (address shape field ≡ position_address (place_at shape row) field) × (IsRow shape row → IsField shape field)

abbrev pub CellsLaw : Type 0
CellsLaw = (shape : Shape) (bucket : ℕ) (field : Field) → IsOfCells (cells_of shape bucket) field
    → (address shape field ≡ cell_address (cells_of shape bucket) field)
    × (bucket < shape.buckets → IsField shape field)

abbrev pub WorkersLaw : Type 0
WorkersLaw = (shape : Shape) (field : Field) → IsOfWorkers shape.workers field
    → (address shape field ≡ worker_address shape.workers field) × IsField shape field

abbrev pub KnownLaw : Type 0
KnownLaw =
    (shape : Shape) (row bucket : ℕ) (field : Field)
    → IsKnown (place_at shape row) (cells_of shape bucket) shape.workers field
    → (address shape field ≡ known_address (place_at shape row) (cells_of shape bucket) shape.workers field)
    × (IsRow shape row → bucket < shape.buckets → IsField shape field)

-- the words of an intent follow its first
abbrev pub IntentLaw : Type 0
IntentLaw = (shape : Shape) (worker nth : ℕ) → address shape (Intent worker 0) + nth ≡ address shape (Intent worker nth)

-- 2. Words within places, cells and entries

abbrev pub PlaceWithinLaw : Type 0
PlaceWithinLaw = (place : Place) (field : Field) → FitsPlace place → IsOfPlace place field
    → position_address place field < place_end place

abbrev pub CellsWithinLaw : Type 0
CellsWithinLaw = (cells : Cells) (field : Field) → FitsCells cells → IsOfCells cells field
    → cell_address cells field < cells_end cells

abbrev pub WorkersWithinLaw : Type 0
WorkersWithinLaw = (workers : ℕ) (field : Field) → IsOfWorkers workers field
    → worker_address workers field < 2 * workers
