-- Where the words of a position, of a bucket and of workers stand, counted from the addresses that a layout gives.
use Rattle.std.specs.Prelude.{ℕ, ◌+◌, ◌-◌, ◌%◌, nat_le, if◌then◌else◌}
use Rattle.nam_catalog.specs.declared.form.Form.TheVariants.{Narrow}
use Rattle.nam_catalog.specs.declared.shape.Shape.{Shape}
use Rattle.nam_layout.specs.declared.field.Field.{Field}
use Rattle.nam_layout.specs.declared.field.Field.TheVariants.{Entry, Horizon, Key, Header, Count, Word}
use Rattle.nam_layout.specs.declared.field.Field.TheVariants.{SlotHeader, SlotEnd, SlotWord}
use Rattle.nam_layout.specs.declared.field.Field.TheVariants.{Tag, Owner, Begin, End, CellWord}
use Rattle.nam_layout.specs.declared.field.Place.{Place}
use Rattle.nam_layout.specs.declared.field.Cells.{Cells}
use Rattle.nam_layout.specs.Rows.{row_of, width_at, ring_at}
use Rattle.nam_layout.specs.Address.{position_at, slots_at, bucket_at, slot_from, cell_from}

-- 1. Places and cells of a shape

-- the place of a row
abbrev pub place_at : Shape → ℕ → Place
place_at shape row = record {
  row = row;
  key_at = position_at shape row;
  header_at = position_at shape row + 1;
  count_at = position_at shape row + 2;
  words_at = position_at shape row + 3;
  ring_at = slots_at shape row;
  width = width_at shape.tables row;
  ring = ring_at shape.tables row;
  form = shape.form;
}

-- the place of a table's position
abbrev pub place_of : Shape → ℕ → ℕ → Place
place_of shape table position = place_at shape (row_of shape.tables table position)

-- no position of a store
abbrev pub no_place : Place
no_place = record {
  row = 0;
  key_at = 0;
  header_at = 0;
  count_at = 0;
  words_at = 0;
  ring_at = 0;
  width = 0;
  ring = 0;
  form = Narrow;
}

-- the cells of a bucket
abbrev pub cells_of : Shape → ℕ → Cells
cells_of shape bucket =
    record { bucket = bucket; first = bucket_at shape bucket; cells = shape.cells; form = shape.form }

-- the bucket of a row
abbrev pub bucket_of : Shape → ℕ → ℕ
bucket_of shape row = row % shape.buckets

-- the cells of a place's bucket
abbrev pub cells_by : Shape → Place → Cells
cells_by shape place = cells_of shape (bucket_of shape place.row)

-- the slot of the version with this number
abbrev pub slot_of : Place → ℕ → ℕ
slot_of place count = count % place.ring

-- 2. Where fields stand

-- a field of a position
abbrev pub position_address : Place → Field → ℕ
position_address place (Key row) = place.key_at
position_address place (Header row) = place.header_at
position_address place (Count row) = place.count_at
position_address place (Word row nth) = place.words_at + nth
position_address place (SlotHeader row slot) = slot_from place.ring_at place.width slot
position_address place (SlotEnd row slot) = slot_from place.ring_at place.width slot + 1
position_address place (SlotWord row slot nth) = slot_from place.ring_at place.width slot + 2 + nth
position_address place _ = 0

-- a field of a bucket
abbrev pub cell_address : Cells → Field → ℕ
cell_address cells (Tag bucket cell) = cell_from cells.first cell
cell_address cells (Owner bucket cell) = cell_from cells.first cell + 1
cell_address cells (Begin bucket cell) = cell_from cells.first cell + 2
cell_address cells (End bucket cell) = cell_from cells.first cell + 3
cell_address cells (CellWord bucket cell nth) = cell_from cells.first cell + 4 + nth
cell_address cells _ = 0

-- an entry of a worker, in a store of so many workers
abbrev pub worker_address : ℕ → Field → ℕ
worker_address workers (Entry worker) = worker - 1
worker_address workers (Horizon worker) = workers + (worker - 1)
worker_address workers _ = 0

-- any of these
abbrev pub known_address : Place → Cells → ℕ → Field → ℕ
known_address place cells workers (Entry worker) = worker_address workers (Entry worker)
known_address place cells workers (Horizon worker) = worker_address workers (Horizon worker)
known_address place cells workers (Tag bucket cell) = cell_address cells (Tag bucket cell)
known_address place cells workers (Owner bucket cell) = cell_address cells (Owner bucket cell)
known_address place cells workers (Begin bucket cell) = cell_address cells (Begin bucket cell)
known_address place cells workers (End bucket cell) = cell_address cells (End bucket cell)
known_address place cells workers (CellWord bucket cell nth) = cell_address cells (CellWord bucket cell nth)
known_address place cells workers field = position_address place field

-- 3. Where positions and buckets end

-- after the last word of a position, and of a bucket
abbrev pub place_end : Place → ℕ
place_end place = slot_from place.ring_at place.width place.ring

abbrev pub cells_end : Cells → ℕ
cells_end cells = cell_from cells.first cells.cells

-- the greater of two addresses
abbrev pub later : ℕ → ℕ → ℕ
later a b = if nat_le a b then b else a
