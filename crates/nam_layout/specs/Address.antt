-- The fields of a shape, and where each of them stands.
use Rattle.std.specs.Prelude.{ℕ, ◌+◌, ◌-◌, ◌*◌, ◌<◌, ◌≤◌}
use Rattle.nam_catalog.specs.declared.bounds.TheConstants.{MOST_WIDTH}
use Rattle.nam_catalog.specs.declared.shape.Shape.{Shape}
use Rattle.nam_catalog.specs.Words.{slot_words, tables_words, cell_words, intent_words}
use Rattle.nam_layout.specs.declared.field.Field.{Field}
use Rattle.nam_layout.specs.declared.field.Field.TheVariants.{Entry, Horizon, Key, Header, Count, Word}
use Rattle.nam_layout.specs.declared.field.Field.TheVariants.{SlotHeader, SlotEnd, SlotWord}
use Rattle.nam_layout.specs.declared.field.Field.TheVariants.{Tag, Owner, Begin, End, CellWord, Intent}
use Rattle.nam_layout.specs.Rows.{rows_in, width_at, ring_at, row_at}

abbrev pub IsWorker : Shape → ℕ → Type 0
IsWorker shape worker = (1 ≤ worker) × (worker ≤ shape.workers)

abbrev pub IsRow : Shape → ℕ → Type 0
IsRow shape row = row < rows_in shape.tables

abbrev pub IsSlot : Shape → ℕ → ℕ → Type 0
IsSlot shape row slot = IsRow shape row × (slot < ring_at shape.tables row)

abbrev pub IsCell : Shape → ℕ → ℕ → Type 0
IsCell shape bucket cell = (bucket < shape.buckets) × (cell < shape.cells)

-- the numbers of a field are in range; only the form Held has words of intents
abbrev pub IsField : Shape → Field → Type 0
IsField shape (Entry worker) = IsWorker shape worker
IsField shape (Horizon worker) = IsWorker shape worker
IsField shape (Key row) = IsRow shape row
IsField shape (Header row) = IsRow shape row
IsField shape (Count row) = IsRow shape row
IsField shape (Word row nth) = IsRow shape row × (nth < width_at shape.tables row)
IsField shape (SlotHeader row slot) = IsSlot shape row slot
IsField shape (SlotEnd row slot) = IsSlot shape row slot
IsField shape (SlotWord row slot nth) = IsSlot shape row slot × (nth < width_at shape.tables row)
IsField shape (Tag bucket cell) = IsCell shape bucket cell
IsField shape (Owner bucket cell) = IsCell shape bucket cell
IsField shape (Begin bucket cell) = IsCell shape bucket cell
IsField shape (End bucket cell) = IsCell shape bucket cell
IsField shape (CellWord bucket cell nth) = IsCell shape bucket cell × (nth < MOST_WIDTH)
IsField shape (Intent worker nth) = IsWorker shape worker × (nth < intent_words shape.form)

-- where the tables begin, after the vector and the horizon
abbrev pub tables_at : Shape → ℕ
tables_at shape = 2 * shape.workers

-- where the cells begin, after the tables
abbrev pub cells_at : Shape → ℕ
cells_at shape = tables_at shape + tables_words shape.tables

-- where the intents begin, after the cells
abbrev pub intents_at : Shape → ℕ
intents_at shape = cells_at shape + shape.buckets * shape.cells * cell_words

abbrev pub position_at : Shape → ℕ → ℕ
position_at shape row = tables_at shape + row_at shape.tables row

-- where a position's slots begin
abbrev pub slots_at : Shape → ℕ → ℕ
slots_at shape row = position_at shape row + 3 + width_at shape.tables row

-- where a bucket's cells begin
abbrev pub bucket_at : Shape → ℕ → ℕ
bucket_at shape bucket = cells_at shape + bucket * shape.cells * cell_words

-- a slot of a position of this width whose slots begin there
abbrev pub slot_from : ℕ → ℕ → ℕ → ℕ
slot_from ring_at width slot = ring_at + slot * slot_words width

-- a cell of the bucket whose cells begin there
abbrev pub cell_from : ℕ → ℕ → ℕ
cell_from first cell = first + cell * cell_words

abbrev pub slot_at : Shape → ℕ → ℕ → ℕ
slot_at shape row slot = slot_from (slots_at shape row) (width_at shape.tables row) slot

abbrev pub cell_at : Shape → ℕ → ℕ → ℕ
cell_at shape bucket cell = cell_from (bucket_at shape bucket) cell

-- where a field stands
abbrev pub address : Shape → Field → ℕ
address shape (Entry worker) = worker - 1
address shape (Horizon worker) = shape.workers + (worker - 1)
address shape (Key row) = position_at shape row
address shape (Header row) = position_at shape row + 1
address shape (Count row) = position_at shape row + 2
address shape (Word row nth) = position_at shape row + 3 + nth
address shape (SlotHeader row slot) = slot_at shape row slot
address shape (SlotEnd row slot) = slot_at shape row slot + 1
address shape (SlotWord row slot nth) = slot_at shape row slot + 2 + nth
address shape (Tag bucket cell) = cell_at shape bucket cell
address shape (Owner bucket cell) = cell_at shape bucket cell + 1
address shape (Begin bucket cell) = cell_at shape bucket cell + 2
address shape (End bucket cell) = cell_at shape bucket cell + 3
address shape (CellWord bucket cell nth) = cell_at shape bucket cell + 4 + nth
address shape (Intent worker nth) = intents_at shape + (worker - 1) * intent_words shape.form + nth
