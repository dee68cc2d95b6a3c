-- where tables stand
use Rattle.std.proofs.Common.{◌≡◌, ℕ, zero, suc, ◌+◌, ◌-◌, ◌*◌, ◌/◌, ◌%◌, ◌^◌, ◌<◌, ◌≤◌, inl, inr, List, [], ◌∷◌}
use Rattle.std.proofs.Common.{length, get_or, refl, sym, ◌∙◌, ap, arith}
use Rattle.std.specs.Prelude.{All, slice_index, nat_lt, if◌then◌else◌, Bool, Some, None}
use Rattle.std.proofs.lemmas.Bool.{cases_lt, lt-ltb, le-ltb}
use Rattle.std.proofs.lemmas.Nat.{div_below, mul-le}
use Rattle.std.proofs.lemmas.List.Elements.{All-head, All-tail}
use Rattle.nam_catalog.specs.declared.shape.Table.{Table}
use Rattle.nam_catalog.specs.Fits.{FitsTable}
use Rattle.nam_catalog.specs.Tables.{widths_of, capacities_of, rings_of}
use Rattle.nam_catalog.specs.Words.{position_words, table_words, tables_words}
use Rattle.nam_layout.specs.declared.extent.Extent.{Extent}
use Rattle.nam_layout.specs.Rows.{rows_in, row_of, table_of, position_of, width_at, row_at}
use Rattle.nam_layout.specs.FieldAt.{row_in, rest_in, field_in_position}
use Rattle.nam_layout.specs.Extent.{extents_of, IsIn, field_in_extents, position_in}
use Rattle.nam_layout.proofs.TestLemmas.{if_less, if_not_less}
use Rattle.nam_layout.proofs.RowLemmas.{row_stands}

-- a number is below a sum exactly where what is left of it is below the rest
less_both : (n a b : ℕ) → a ≤ n → nat_lt (n - a) b ≡ nat_lt n (a + b)
less_both n a b past = elim (cases_lt (n - a) b) [
  | inl less ↦ lt-ltb (n - a) b less ∙ sym (lt-ltb n (a + b) (omega arith))
  | inr least ↦ le-ltb (n - a) b least ∙ sym (le-ltb n (a + b) (omega arith))
]

-- the extent is that of the table, where the first table's first position begins at `at` and is this row
pub record IsExtent (at row : ℕ) (tables : List Table) (table : ℕ) (e : Extent) : Type 0 where
  pub capacity_is : e.capacity ≡ slice_index (capacities_of tables) table
  pub width_is : e.width ≡ slice_index (widths_of tables) table
  pub ring_is : e.ring ≡ slice_index (rings_of tables) table
  pub row_is : (position : ℕ) → e.row + position ≡ row + row_of tables table position
  pub at_is : (position : ℕ) → position < e.capacity
      → e.at + position * e.words ≡ at + row_at tables (row_of tables table position)

pub extents_length : (at row : ℕ) (tables : List Table) → length (extents_of at row tables) ≡ length tables
extents_length at row [] = refl
extents_length at row (t ∷ ts) = ap suc (extents_length (at + table_words t) (row + t.capacity) ts)

pub extent_is : (at row : ℕ) (tables : List Table) (table : ℕ) (other : Extent) → table < length tables
    → IsExtent at row tables table (get_or (extents_of at row tables) table other)
extent_is at row [] table other less = absurd (omega arith)
extent_is at row (t ∷ ts) zero other less = record {
  capacity_is = refl;
  width_is = refl;
  ring_is = refl;
  row_is = λ position. refl;
  at_is = λ position here. ap (λ n. at + n) (sym (if_less _ _ _ _ here));
}
extent_is at row (t ∷ ts) (suc table) other less =
    let is = extent_is (at + table_words t) (row + t.capacity) ts table other (omega arith) in
    record {
      capacity_is = is.capacity_is;
      width_is = is.width_is;
      ring_is = is.ring_is;
      row_is = λ position. is.row_is position ∙ (omega arith);
      at_is = λ position here.
          let r = row_of ts table position in
          let past : t.capacity ≤ t.capacity + r = omega arith in
          let before : t.capacity + r - t.capacity ≡ r = omega arith in
          let later : row_at (t ∷ ts) (t.capacity + r) ≡ table_words t + row_at ts r
          = if_not_less _ _ _ _ past ∙ ap (λ n. table_words t + row_at ts n) before in
          is.at_is position here ∙ (omega arith);
    }

-- there are no more rows than words
pub rows_le : (tables : List Table) → rows_in tables ≤ tables_words tables
rows_le [] = omega arith
rows_le (t ∷ ts) =
    let rest = rows_le ts in
    let least : t.capacity * 1 ≤ table_words t
    = mul-le t.capacity 1 t.capacity (position_words t.width t.ring) (omega arith) (omega arith) in
    omega arith

-- the first words of a position are among the words of the tables
pub place_within : (tables : List Table) (row : ℕ) → row < rows_in tables
    → row_at tables row + 3 + width_at tables row ≤ tables_words tables
place_within tables row within =
    let stands = row_stands tables row (2 + width_at tables row) within (omega arith) in
    let w = stands.offset_within in
    omega arith

-- an address among the words of the tables is in their extents
pub is_in : (at row address : ℕ) (tables : List Table) → All FitsTable tables → at + tables_words tables < 2 ^ 32
    → row + rows_in tables < 2 ^ 32
    → at ≤ address → address < at + tables_words tables → IsIn address (extents_of at row tables)
is_in at row address [] fit words rows least less = omega arith
is_in at row address (t ∷ ts) fit words rows least less =
    let head = All-head FitsTable t ts fit in (
      record { width = head.most_width; least_words = omega arith; rows = omega arith; words = omega arith },
      least,
      λ past.
          is_in (at + table_words t) (row + t.capacity) address ts (All-tail FitsTable t ts fit)
          (omega arith) (omega arith) past (omega arith),
    )

-- the field at a word of the tables, counted from this row on, by its row and its word in the position
named : (tables : List Table) (row offset r rest width : ℕ) → row_in tables offset ≡ r → rest_in tables offset ≡ rest
    → width_at tables r ≡ width
    → field_in_position (width_at tables (row_in tables offset)) (row + row_in tables offset) (rest_in tables offset)
    ≡ field_in_position width (row + r) rest
named tables row offset r rest width row_is rest_is width_is =
    ap (λ n. field_in_position (width_at tables n) (row + n) (rest_in tables offset)) row_is
    ∙ ap (field_in_position (width_at tables r) (row + r)) rest_is
    ∙ ap (λ w. field_in_position w (row + r) rest) width_is

-- the field in the extents is that in the tables
pub field_is : (at row address : ℕ) (tables : List Table) → at ≤ address → address < at + tables_words tables
    → field_in_extents (extents_of at row tables) address
    ≡ field_in_position (width_at tables (row_in tables (address - at))) (row + row_in tables (address - at))
    (rest_in tables (address - at))
field_is at row address [] least less = absurd (omega arith)
field_is at row address (t ∷ ts) least less = elim (cases_lt address (at + table_words t)) [
  | inl here ↦
      let size = position_words t.width t.ring in
      let offset = address - at in
      let within : offset < table_words t = omega arith in
      let first : offset / size < t.capacity = div_below offset size t.capacity (omega arith) within in
      if_less _ _ _ _ here
      ∙ sym (named (t ∷ ts) row offset (offset / size) (offset % size) t.width
      (if_less _ _ _ _ within) (if_less _ _ _ _ within) (if_less _ _ _ _ first))
  | inr past ↦
      let offset = address - at in
      let after = offset - table_words t in
      let beyond : table_words t ≤ offset = omega arith in
      let same : address - (at + table_words t) ≡ after = omega arith in
      let r = row_in ts after in
      let later : t.capacity ≤ t.capacity + r = omega arith in
      let before : t.capacity + r - t.capacity ≡ r = omega arith in
      let rows : row + t.capacity + r ≡ row + (t.capacity + r) = omega arith in
      if_not_less _ _ _ _ past
      ∙ field_is (at + table_words t) (row + t.capacity) address ts past (omega arith)
      ∙ ap (λ o. field_in_position (width_at ts (row_in ts o)) (row + t.capacity + row_in ts o) (rest_in ts o)) same
      ∙ ap (λ n. field_in_position (width_at ts r) n (rest_in ts after)) rows
      ∙ sym (named (t ∷ ts) row offset (t.capacity + r) (rest_in ts after) (width_at ts r)
      (if_not_less _ _ _ _ beyond) (if_not_less _ _ _ _ beyond) (if_not_less _ _ _ _ later ∙ ap (width_at ts) before))
]

-- the position of a row in the extents is that in the tables, of which the first has this number
pub position_is : (at row nth : ℕ) (tables : List Table) (n : ℕ)
    → position_in nth (extents_of at row tables) n
    ≡ (if nat_lt n (rows_in tables) then Some (nth + table_of tables n, position_of tables n) else None)
position_is at row nth [] n = sym (if_not_less n 0 _ _ (omega arith))
position_is at row nth (t ∷ ts) n = elim (cases_lt n t.capacity) [
  | inl here ↦
      let first : nth ≡ nth + table_of (t ∷ ts) n
      = omega arith ∙ ap (λ k. nth + k) (sym (if_less _ _ _ _ here)) in
      if_less _ _ _ _ here
      ∙ ap (λ k. Some (k, n)) first
      ∙ ap (λ k. Some (nth + table_of (t ∷ ts) n, k)) (sym (if_less _ _ _ _ here))
      ∙ sym (if_less n (t.capacity + rows_in ts) _ _ (omega arith))
  | inr past ↦
      let rest = n - t.capacity in
      let later = position_is (at + table_words t) (row + t.capacity) (nth + 1) ts rest in
      let table_is : nth + 1 + table_of ts rest ≡ nth + table_of (t ∷ ts) n
      = omega arith ∙ ap (λ k. nth + k) (sym (if_not_less _ _ _ _ past)) in
      let position_same : position_of ts rest ≡ position_of (t ∷ ts) n = sym (if_not_less _ _ _ _ past) in
      if_not_less _ _ _ _ past
      ∙ later
      ∙ ap (λ k. if nat_lt rest (rows_in ts) then Some (k, position_of ts rest) else None) table_is
      ∙ ap (λ k. if nat_lt rest (rows_in ts) then Some (nth + table_of (t ∷ ts) n, k) else None) position_same
      ∙ ap (λ (b : Bool). if b then Some (nth + table_of (t ∷ ts) n, position_of (t ∷ ts) n) else None)
      (less_both n t.capacity (rows_in ts) past)
]
