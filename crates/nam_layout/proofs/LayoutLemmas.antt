-- what a layout keeps of its shape, and what it gives for it
use Rattle.std.proofs.Common.{◌≡◌, ℕ, ◌+◌, ◌-◌, ◌*◌, ◌^◌, ◌<◌, ◌≤◌, List, length, get_or, None, sym, ◌∙◌, ap, subst, Option, Some, inl, inr}
use Rattle.std.specs.Prelude.{nat_lt, if◌then◌else◌}
use Rattle.std.proofs.lemmas.Bool.{cases_lt}
use Rattle.std.proofs.Common.{arith}
use Rattle.nam_catalog.specs.declared.shape.Table.{Table}
use Rattle.nam_catalog.specs.declared.shape.Shape.{Shape}
use Rattle.nam_catalog.specs.Limits.{fault_of}
use Rattle.nam_catalog.specs.Words.{cell_words, intent_words}
use Rattle.nam_catalog.proofs.FitsLemmas.{fits_limits}
use Rattle.nam_layout.specs.declared.extent.Extent.{Extent}
use Rattle.nam_layout.specs.Rows.{rows_in, row_of, table_of, position_of, width_at, ring_at}
use Rattle.nam_layout.specs.RowLaw.{IsPosition, IsRowOf}
use Rattle.nam_layout.specs.Address.{tables_at, cells_at, position_at, slots_at}
use Rattle.nam_layout.specs.FieldAt.{row_in, rest_in, field_in_position, field_at}
use Rattle.nam_layout.specs.Place.{place_of, place_at}
use Rattle.nam_layout.specs.declared.field.Place.{Place}
use Rattle.nam_layout.specs.Extent.{extents_of, IsIn, field_in_extents, place_in, position_in}
use Rattle.nam_layout.specs.Laid.{IsLaidOut}
use Rattle.nam_layout.proofs.PositionLemmas.{position_is_row, row_is_position}
use Rattle.nam_layout.proofs.AddressLemmas.{in_tables}
use Rattle.nam_layout.proofs.ExtentLemmas.{IsExtent, extents_length, extent_is, rows_le, place_within, is_in, field_is}
use Rattle.nam_layout.proofs.ExtentLemmas.{position_is}
use Rattle.nam_layout.proofs.TestLemmas.{if_less, if_not_less}

-- a row's position, and none beyond the rows
abbrev pub row_position : List Table → ℕ → Option (ℕ × ℕ)
row_position tables row =
    if nat_lt row (rows_in tables) then Some (table_of tables row, position_of tables row) else None

abbrev some_pair : ℕ → ℕ → Option (ℕ × ℕ)
some_pair a b = Some (a, b)

abbrev first_in : Option (ℕ × ℕ) → ℕ
first_in None = 0
first_in (Some pair) = pair.0

abbrev second_in : Option (ℕ × ℕ) → ℕ
second_in None = 0
second_in (Some pair) = pair.1

pair_in : (a b c d : ℕ) → some_pair a b ≡ some_pair c d → (a ≡ c) × (b ≡ d)
pair_in a b c d same = (ap first_in same, ap second_in same)

-- a row that has a position is that position
pub row_found : (tables : List Table) (row table position : ℕ) → row_position tables row ≡ Some (table, position)
    → IsRowOf tables table position row
row_found tables row table position found = elim (cases_lt row (rows_in tables)) [
  | inl less ↦
      let same = pair_in (table_of tables row) (position_of tables row) table position
      (sym (if_less row (rows_in tables) _ _ less) ∙ found) in
      subst (λ t. IsRowOf tables t position row) same.0
      (subst (λ p. IsRowOf tables (table_of tables row) p row) same.1 (row_is_position tables row less))
  | inr beyond ↦
      let none : ◌≡◌ {A = Option (ℕ × ℕ)} None (some_pair table position)
      = sym (if_not_less row (rows_in tables) _ _ beyond) ∙ found in
      absurd (cc)
]

-- and its place is that of the row
pub place_found : (shape : Shape) (row table position : ℕ)
    → row_position shape.tables row ≡ Some (table, position)
    → Some (place_of shape table position)
    ≡ (if nat_lt row (rows_in shape.tables) then Some (place_at shape row) else None)
place_found shape row table position found =
    let is = row_found shape.tables row table position found in
    ap (λ r. Some (place_at shape r)) is.row_is ∙ sym (if_less row (rows_in shape.tables) _ _ is.within)

pub no_place_found : (shape : Shape) (row : ℕ) → row_position shape.tables row ≡ None
    → ◌≡◌ {A = Option Place} None (if nat_lt row (rows_in shape.tables) then Some (place_at shape row) else None)
no_place_found shape row none = elim (cases_lt row (rows_in shape.tables)) [
  | inl less ↦
      let some = sym (if_less row (rows_in shape.tables) _ _ less) ∙ none in absurd (cc)
  | inr beyond ↦ sym (if_not_less row (rows_in shape.tables) _ _ beyond)
]

module _ (shape : Shape) (extents : List Extent) where
  -- what a new layout keeps, with a copy of the tables
  pub laid_out : (tables : List Table) (cells words : ℕ) → tables ≡ shape.tables → fault_of shape ≡ None
      → extents ≡ extents_of (tables_at shape) 0 shape.tables → cells ≡ cells_at shape → words ≡ intent_words shape.form
      → IsLaidOut (record shape { tables = tables }) extents cells
      (cells + shape.buckets * shape.cells * cell_words)
      (cells + shape.buckets * shape.cells * cell_words + shape.workers * words)
  laid_out tables cells words same none are cells_are words_are =
      let intents = cells + shape.buckets * shape.cells * cell_words in
      subst (λ ts. IsLaidOut (record shape { tables = ts }) extents cells intents (intents + shape.workers * words))
      (sym same) (record {
        fits = fits_limits shape none;
        extents_are = are;
        cells_are = cells_are;
        intents_are = omega arith;
        total_is = rw words_are (omega arith);
      })

  module _ (cells intents total : ℕ) (laid : IsLaidOut shape extents cells intents total) where
    pub length_is : length extents ≡ length shape.tables
    length_is = ap (length {A = Extent}) laid.extents_are ∙ extents_length (tables_at shape) 0 shape.tables

    -- the extent of a table
    pub is_extent : (table : ℕ) (e : Extent) → table < length shape.tables → e ≡ get_or extents table e
        → IsExtent (tables_at shape) 0 shape.tables table e
    is_extent table e less here =
        let same : e ≡ get_or (extents_of (tables_at shape) 0 shape.tables) table e
        = here ∙ ap (λ (es : List Extent). get_or es table e) laid.extents_are in
        subst (IsExtent (tables_at shape) 0 shape.tables table) (sym same)
        (extent_is (tables_at shape) 0 shape.tables table e less)

    -- an extent gives the place of a position
    pub place_is : (table position : ℕ) (e : Extent) → IsPosition shape.tables table position
        → e ≡ get_or extents table e
        → place_in e position shape.form ≡ place_of shape table position
    place_is table position e is here =
        let at = is_extent table e is.0 here in
        let row = position_is_row shape.tables table position is in
        let r = row_of shape.tables table position in
        let row_same : e.row + position ≡ r = at.row_is position ∙ (omega arith) in
        let key_same : e.at + position * e.words ≡ position_at shape r
        = at.at_is position (subst (λ n. position < n) (sym at.capacity_is) is.1) in
        let width_same : e.width ≡ width_at shape.tables r = at.width_is ∙ sym row.width_is in
        let ring_same : e.ring ≡ ring_at shape.tables r = at.ring_is ∙ sym row.ring_is in
        let words_same : e.at + position * e.words + 3 ≡ position_at shape r + 3 = omega arith in
        let slots_same : e.at + position * e.words + 3 + e.width ≡ slots_at shape r = omega arith in
        cc

    -- the sums of an extent's numbers with those of a position are small
    pub place_fits : (table position : ℕ) (e : Extent) → IsPosition shape.tables table position
        → e ≡ get_or extents table e
        → (e.row + position < 2 ^ 32) × (e.at + position * e.words + 3 + e.width < 2 ^ 32)
    place_fits table position e is here =
        let at = is_extent table e is.0 here in
        let row = position_is_row shape.tables table position is in
        let r = row_of shape.tables table position in
        let within = row.within in
        let rows = rows_le shape.tables in
        let row_same : e.row + position ≡ 0 + r = at.row_is position in
        let key_same : e.at + position * e.words ≡ position_at shape r
        = at.at_is position (subst (λ n. position < n) (sym at.capacity_is) is.1) in
        let width_same : e.width ≡ width_at shape.tables r = at.width_is ∙ sym row.width_is in
        let words = place_within shape.tables r within in
        let most = laid.fits.words in
        (omega arith, omega arith)

    -- an address of the tables is in their extents
    pub address_in : (address : ℕ) → tables_at shape ≤ address → address < cells → IsIn address extents
    address_in address least less =
        let rows = rows_le shape.tables in
        let most = laid.fits.words in
        let end = laid.cells_are in
        subst (IsIn address) (sym laid.extents_are)
        (is_in (tables_at shape) 0 address shape.tables laid.fits.tables
        (omega arith) (omega arith) least (omega arith))

    -- the field in the extents is that at the address
    pub field_there : (address : ℕ) → tables_at shape ≤ address → address < cells
        → field_in_extents extents address ≡ field_at shape address
    field_there address least less =
        let end = laid.cells_are in
        let offset = address - tables_at shape in
        let r = row_in shape.tables offset in
        let same : 0 + r ≡ r = omega arith in
        ap (λ es. field_in_extents es address) laid.extents_are
        ∙ field_is (tables_at shape) 0 address shape.tables least (omega arith)
        ∙ ap (λ n. field_in_position (width_at shape.tables r) n (rest_in shape.tables offset)) same
        ∙ sym (in_tables shape address least (omega arith))

    -- the position of a row in the extents is that in the tables
    pub position_there : (row : ℕ) → position_in 0 extents row ≡ row_position shape.tables row
    position_there row =
        let nth : 0 + table_of shape.tables row ≡ table_of shape.tables row = omega arith in
        ap (λ es. position_in 0 es row) laid.extents_are ∙ position_is (tables_at shape) 0 0 shape.tables row
        ∙ ap (λ t. if nat_lt row (rows_in shape.tables) then some_pair t (position_of shape.tables row) else None) nth
