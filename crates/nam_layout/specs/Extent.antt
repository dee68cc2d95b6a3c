-- Where tables stand.
use Rattle.std.specs.Prelude.{ℕ, ◌+◌, ◌-◌, ◌*◌, ◌/◌, ◌%◌, ◌^◌, ◌<◌, ◌≤◌, nat_lt, List, [], ◌∷◌, if◌then◌else◌}
use Rattle.std.specs.Prelude.{Option, Some, None}
use Rattle.nam_catalog.specs.declared.bounds.TheConstants.{MOST_WIDTH}
use Rattle.nam_catalog.specs.declared.form.Form.{Form}
use Rattle.nam_catalog.specs.declared.shape.Table.{Table}
use Rattle.nam_catalog.specs.Words.{position_words, table_words}
use Rattle.nam_layout.specs.declared.extent.Extent.{Extent}
use Rattle.nam_layout.specs.declared.field.Field.{Field}
use Rattle.nam_layout.specs.declared.field.Place.{Place}
use Rattle.nam_layout.specs.declared.field.Field.TheVariants.{Entry}
use Rattle.nam_layout.specs.FieldAt.{field_in_position}

-- a table whose first position begins at `at` and is this row
abbrev pub extent_of : ℕ → ℕ → Table → Extent
extent_of at row t = record {
  row = row;
  at = at;
  words = position_words t.width t.ring;
  width = t.width;
  capacity = t.capacity;
  ring = t.ring;
}

-- tables of which the first position begins at `at` and is this row
abbrev pub extents_of : ℕ → ℕ → List Table → List Extent
extents_of at row [] = []
extents_of at row (t ∷ ts) = extent_of at row t ∷ extents_of (at + table_words t) (row + t.capacity) ts

-- the numbers of an extent are small enough to be added
pub record FitsExtent (e : Extent) : Type 0 where
  pub width : e.width ≤ MOST_WIDTH
  pub least_words : 1 ≤ e.words
  pub rows : e.row + e.capacity < 2 ^ 32
  pub words : e.at + e.capacity * e.words < 2 ^ 32

-- the address is that of a word of one of the extents, after those before it
abbrev pub IsIn : ℕ → List Extent → Type 0
IsIn at [] = ⊥
IsIn at (e ∷ es) = FitsExtent e × (e.at ≤ at) × (e.at + e.capacity * e.words ≤ at → IsIn at es)

-- the field at an address in one of the extents
abbrev pub field_in_extents : List Extent → ℕ → Field
field_in_extents [] at = Entry 0
field_in_extents (e ∷ es) at =
    if nat_lt at (e.at + e.capacity * e.words)
    then field_in_position e.width (e.row + (at - e.at) / e.words) ((at - e.at) % e.words)
    else field_in_extents es at

-- the place of a table's position
abbrev pub place_in : Extent → ℕ → Form → Place
place_in e position form =
    let key = e.at + position * e.words in
    record {
      row = e.row + position;
      key_at = key;
      header_at = key + 1;
      count_at = key + 2;
      words_at = key + 3;
      ring_at = key + 3 + e.width;
      width = e.width;
      ring = e.ring;
      form = form;
    }

-- the extent that has a row, where the first of these has this number, and the row's position there
abbrev pub position_in : ℕ → List Extent → ℕ → Option (ℕ × ℕ)
position_in table [] row = None
position_in table (e ∷ es) row =
    if nat_lt row e.capacity then Some (table, row) else position_in (table + 1) es (row - e.capacity)
