-- rows, and the positions of tables
use Rattle.std.proofs.Common.{◌≡◌, ℕ, zero, suc, ◌+◌, ◌-◌, ◌<◌, ◌≤◌, inl, inr, List, [], ◌∷◌, refl, sym, ◌∙◌, ap}
use Rattle.std.proofs.Common.{subst, arith}
use Rattle.std.proofs.lemmas.Bool.{cases_lt}
use Rattle.nam_catalog.specs.declared.shape.Table.{Table}
use Rattle.nam_layout.specs.Rows.{rows_in, row_of, table_of, position_of, width_at, ring_at}
use Rattle.nam_layout.specs.RowLaw.{IsPosition, IsRowOf}
use Rattle.nam_layout.proofs.TestLemmas.{if_less, if_not_less}

module _ (t : Table) (ts : List Table) where
  -- a position of the first table
  first_row : (position : ℕ) → position < t.capacity → IsRowOf (t ∷ ts) 0 position position
  first_row position less = record {
    place = (omega arith, less);
    within = omega arith;
    row_is = refl;
    table_is = if_less _ _ _ _ less;
    position_is = if_less _ _ _ _ less;
    width_is = if_less _ _ _ _ less;
    ring_is = if_less _ _ _ _ less;
  }

  -- a position of a later table
  later_row : (table position row : ℕ) → IsRowOf ts table position row
      → IsRowOf (t ∷ ts) (suc table) position (t.capacity + row)
  later_row table position row is =
      let past : t.capacity ≤ t.capacity + row = omega arith in
      let before : t.capacity + row - t.capacity ≡ row = omega arith in
      record {
        place = (let less = is.place.0 in omega arith, is.place.1);
        within = let w = is.within in omega arith;
        row_is = ap (λ r. t.capacity + r) is.row_is;
        table_is = if_not_less _ _ _ _ past ∙ ap (λ r. suc (table_of ts r)) before ∙ ap suc is.table_is;
        position_is = if_not_less _ _ _ _ past ∙ ap (position_of ts) before ∙ is.position_is;
        width_is = if_not_less _ _ _ _ past ∙ ap (width_at ts) before ∙ is.width_is;
        ring_is = if_not_less _ _ _ _ past ∙ ap (ring_at ts) before ∙ is.ring_is;
      }

-- each position is a row
pub position_is_row : (tables : List Table) (table position : ℕ) → IsPosition tables table position
    → IsRowOf tables table position (row_of tables table position)
position_is_row [] table position is = let none = is.0 in absurd (omega arith)
position_is_row (t ∷ ts) zero position is = first_row t ts position is.1
position_is_row (t ∷ ts) (suc table) position is =
    let less = is.0 in
    later_row t ts table position (row_of ts table position) (position_is_row ts table position (omega arith, is.1))

-- a row is the position that is told of it
named : (tables : List Table) (table position row : ℕ) → IsRowOf tables table position row
    → IsRowOf tables (table_of tables row) (position_of tables row) row
named tables table position row is =
    subst (λ t. IsRowOf tables t (position_of tables row) row) (sym is.table_is)
    (subst (λ p. IsRowOf tables table p row) (sym is.position_is) is)

-- each row is a position
pub row_is_position : (tables : List Table) (row : ℕ) → row < rows_in tables
    → IsRowOf tables (table_of tables row) (position_of tables row) row
row_is_position [] row within = absurd (omega arith)
row_is_position (t ∷ ts) row within = elim (cases_lt row t.capacity) [
  | inl here ↦ named (t ∷ ts) 0 row row (first_row t ts row here)
  | inr past ↦
      let before = row - t.capacity in
      let same : t.capacity + before ≡ row = omega arith in
      let is = later_row t ts _ _ before (row_is_position ts before (omega arith)) in
      named (t ∷ ts) (suc (table_of ts before)) (position_of ts before) row
      (subst (λ r. IsRowOf (t ∷ ts) (suc (table_of ts before)) (position_of ts before) r) same is)
]
