-- Fields of a position, of a bucket and of workers.
use Rattle.std.specs.Prelude.{◌≡◌, ℕ, ◌<◌, ◌≤◌}
use Rattle.nam_catalog.specs.declared.bounds.TheConstants.{MOST_WIDTH}
use Rattle.nam_layout.specs.declared.field.Field.{Field}
use Rattle.nam_layout.specs.declared.field.Field.TheVariants.{Entry, Horizon, Key, Header, Count, Word}
use Rattle.nam_layout.specs.declared.field.Field.TheVariants.{SlotHeader, SlotEnd, SlotWord}
use Rattle.nam_layout.specs.declared.field.Field.TheVariants.{Tag, Owner, Begin, End, CellWord}
use Rattle.nam_layout.specs.declared.field.Place.{Place}
use Rattle.nam_layout.specs.declared.field.Cells.{Cells}

-- a slot of the position
abbrev pub IsSlotOf : Place → ℕ → ℕ → Type 0
IsSlotOf place row slot = (row ≡ place.row) × (slot < place.ring)

-- a field of the position
abbrev pub IsOfPlace : Place → Field → Type 0
IsOfPlace place (Key row) = row ≡ place.row
IsOfPlace place (Header row) = row ≡ place.row
IsOfPlace place (Count row) = row ≡ place.row
IsOfPlace place (Word row nth) = (row ≡ place.row) × (nth < place.width)
IsOfPlace place (SlotHeader row slot) = IsSlotOf place row slot
IsOfPlace place (SlotEnd row slot) = IsSlotOf place row slot
IsOfPlace place (SlotWord row slot nth) = IsSlotOf place row slot × (nth < place.width)
IsOfPlace place _ = ⊥

-- a cell of the bucket
abbrev pub IsCellOf : Cells → ℕ → ℕ → Type 0
IsCellOf cells bucket cell = (bucket ≡ cells.bucket) × (cell < cells.cells)

-- a field of the bucket
abbrev pub IsOfCells : Cells → Field → Type 0
IsOfCells cells (Tag bucket cell) = IsCellOf cells bucket cell
IsOfCells cells (Owner bucket cell) = IsCellOf cells bucket cell
IsOfCells cells (Begin bucket cell) = IsCellOf cells bucket cell
IsOfCells cells (End bucket cell) = IsCellOf cells bucket cell
IsOfCells cells (CellWord bucket cell nth) = IsCellOf cells bucket cell × (nth < MOST_WIDTH)
IsOfCells cells _ = ⊥

-- an entry of one of so many workers
abbrev pub IsOfWorkers : ℕ → Field → Type 0
IsOfWorkers workers (Entry worker) = (1 ≤ worker) × (worker ≤ workers)
IsOfWorkers workers (Horizon worker) = (1 ≤ worker) × (worker ≤ workers)
IsOfWorkers workers _ = ⊥

-- any of these
abbrev pub IsKnown : Place → Cells → ℕ → Field → Type 0
IsKnown place cells workers (Entry worker) = IsOfWorkers workers (Entry worker)
IsKnown place cells workers (Horizon worker) = IsOfWorkers workers (Horizon worker)
IsKnown place cells workers (Tag bucket cell) = IsOfCells cells (Tag bucket cell)
IsKnown place cells workers (Owner bucket cell) = IsOfCells cells (Owner bucket cell)
IsKnown place cells workers (Begin bucket cell) = IsOfCells cells (Begin bucket cell)
IsKnown place cells workers (End bucket cell) = IsOfCells cells (End bucket cell)
IsKnown place cells workers (CellWord bucket cell nth) = IsOfCells cells (CellWord bucket cell nth)
IsKnown place cells workers field = IsOfPlace place field
