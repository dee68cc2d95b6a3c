-- The field that stands at an address.
use Rattle.std.specs.Prelude.{ℕ, ◌+◌, ◌-◌, ◌/◌, ◌%◌, ◌==◌, nat_lt, List, [], ◌∷◌, if◌then◌else◌}
use Rattle.nam_catalog.specs.declared.shape.Table.{Table}
use Rattle.nam_catalog.specs.declared.shape.Shape.{Shape}
use Rattle.nam_catalog.specs.Words.{slot_words, position_words, table_words, cell_words, intent_words}
use Rattle.nam_layout.specs.declared.field.Field.{Field}
use Rattle.nam_layout.specs.declared.field.Field.TheVariants.{Entry, Horizon, Key, Header, Count, Word, SlotHeader}
use Rattle.nam_layout.specs.declared.field.Field.TheVariants.{SlotEnd, SlotWord, Tag, Owner, Begin, End, CellWord}
use Rattle.nam_layout.specs.declared.field.Field.TheVariants.{Intent}
use Rattle.nam_layout.specs.Rows.{width_at}
use Rattle.nam_layout.specs.Address.{tables_at, cells_at, intents_at}

-- the row of a word of the tables, counted from the first table's begin
abbrev pub row_in : List Table → ℕ → ℕ
row_in [] offset = 0
row_in (t ∷ ts) offset =
    if nat_lt offset (table_words t) then offset / position_words t.width t.ring
    else t.capacity + row_in ts (offset - table_words t)

-- which word of its position it is
abbrev pub rest_in : List Table → ℕ → ℕ
rest_in [] offset = 0
rest_in (t ∷ ts) offset =
    if nat_lt offset (table_words t) then offset % position_words t.width t.ring
    else rest_in ts (offset - table_words t)

-- a word of a slot
abbrev pub field_in_slot : ℕ → ℕ → ℕ → Field
field_in_slot row slot rest =
    if rest == 0 then SlotHeader row slot
    else if rest == 1 then SlotEnd row slot
    else SlotWord row slot (rest - 2)

-- a word of a position, of this width
abbrev pub field_in_position : ℕ → ℕ → ℕ → Field
field_in_position width row rest =
    if rest == 0 then Key row
    else if rest == 1 then Header row
    else if rest == 2 then Count row
    else if nat_lt rest (3 + width) then Word row (rest - 3)
    else field_in_slot row ((rest - (3 + width)) / slot_words width) ((rest - (3 + width)) % slot_words width)

-- a word of the tables
abbrev pub field_in_tables : List Table → ℕ → Field
field_in_tables tables offset =
    field_in_position (width_at tables (row_in tables offset)) (row_in tables offset) (rest_in tables offset)

-- a word of a cell
abbrev pub field_in_cell : ℕ → ℕ → ℕ → Field
field_in_cell bucket cell rest =
    if rest == 0 then Tag bucket cell
    else if rest == 1 then Owner bucket cell
    else if rest == 2 then Begin bucket cell
    else if rest == 3 then End bucket cell
    else CellWord bucket cell (rest - 4)

-- a word of the cells, where a bucket has so many
abbrev pub field_in_cells : ℕ → ℕ → Field
field_in_cells cells offset =
    field_in_cell (offset / cell_words / cells) (offset / cell_words % cells) (offset % cell_words)

-- a word of the intents, of so many words each
abbrev pub field_in_intents : ℕ → ℕ → Field
field_in_intents words offset = Intent (offset / words + 1) (offset % words)

-- the field at an address
abbrev pub field_at : Shape → ℕ → Field
field_at shape at =
    if nat_lt at shape.workers then Entry (at + 1)
    else if nat_lt at (tables_at shape) then Horizon (at - shape.workers + 1)
    else if nat_lt at (cells_at shape) then field_in_tables shape.tables (at - tables_at shape)
    else if nat_lt at (intents_at shape) then field_in_cells shape.cells (at - cells_at shape)
    else field_in_intents (intent_words shape.form) (at - intents_at shape)
