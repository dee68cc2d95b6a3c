-- rows, and the words of the tables
use Rattle.std.proofs.Common.{◌≡◌, ℕ, ◌+◌, ◌-◌, ◌*◌, ◌/◌, ◌%◌, ◌<◌, ◌≤◌, inl, inr, List, [], ◌∷◌, sym, ◌∙◌, ap, subst}
use Rattle.std.proofs.Common.{arith}
use Rattle.std.proofs.lemmas.Bool.{cases_lt}
use Rattle.std.proofs.lemmas.Nat.{div-mul-add, mod-mul-add, div-add-mod', div_below, mod_below}
use Rattle.nam_catalog.specs.declared.shape.Table.{Table}
use Rattle.nam_catalog.specs.Words.{position_words, table_words, tables_words}
use Rattle.nam_layout.specs.Rows.{rows_in, width_at, ring_at, row_at}
use Rattle.nam_layout.specs.FieldAt.{row_in, rest_in}
use Rattle.nam_layout.proofs.TestLemmas.{if_less, if_not_less}
use Rattle.nam_layout.proofs.NumberLemmas.{place_within}

-- the word of the tables at `offset` is this word of this row's position
pub record Stands (tables : List Table) (row rest offset : ℕ) : Type 0 where
  pub row_is : row_in tables offset ≡ row
  pub rest_is : rest_in tables offset ≡ rest
  pub row_within : row < rows_in tables
  pub rest_within : rest < position_words (width_at tables row) (ring_at tables row)
  pub offset_is : row_at tables row + rest ≡ offset
  pub offset_within : offset < tables_words tables

module _ (t : Table) (ts : List Table) where
  -- a word of the first table
  first_stands : (row rest : ℕ) → row < t.capacity → rest < position_words t.width t.ring
      → Stands (t ∷ ts) row rest (row * position_words t.width t.ring + rest)
  first_stands row rest some less =
      let size = position_words t.width t.ring in
      let within : row * size + rest < t.capacity * size = place_within row size rest t.capacity some less in
      record {
        row_is = if_less _ _ _ _ within ∙ div-mul-add row size rest less;
        rest_is = if_less _ _ _ _ within ∙ mod-mul-add row size rest less;
        row_within = omega arith;
        rest_within = rw (
          if_less row t.capacity t.width (width_at ts (row - t.capacity)) some,
          if_less row t.capacity t.ring (ring_at ts (row - t.capacity)) some,
        ) less;
        offset_is = ap (λ n. n + rest) (if_less row t.capacity _ _ some);
        offset_within = omega arith;
      }

  -- a word of a later table
  later_stands : (row rest offset : ℕ) → Stands ts row rest offset
      → Stands (t ∷ ts) (t.capacity + row) rest (table_words t + offset)
  later_stands row rest offset stands =
      let words = table_words t in
      let passed : words ≤ words + offset = omega arith in
      let after : words + offset - words ≡ offset = omega arith in
      let past : t.capacity ≤ t.capacity + row = omega arith in
      let before : t.capacity + row - t.capacity ≡ row = omega arith in
      record {
        row_is =
            if_not_less _ _ _ _ passed ∙ ap (λ o. t.capacity + row_in ts o) after
            ∙ ap (λ r. t.capacity + r) stands.row_is;
        rest_is = if_not_less _ _ _ _ passed ∙ ap (rest_in ts) after ∙ stands.rest_is;
        row_within = let r = stands.row_within in omega arith;
        rest_within = rw (
          if_not_less _ _ t.width (width_at ts (t.capacity + row - t.capacity)) past,
          if_not_less _ _ t.ring (ring_at ts (t.capacity + row - t.capacity)) past,
          before,
        ) stands.rest_within;
        offset_is = ap (λ n. n + rest)
            (if_not_less (t.capacity + row) t.capacity _ _ past ∙ ap (λ r. words + row_at ts r) before)
            ∙ (let o = stands.offset_is in omega arith);
        offset_within = let w = stands.offset_within in omega arith;
      }

-- a word stands where its row says
at_row : (tables : List Table) (row rest offset : ℕ) → Stands tables row rest offset
    → Stands tables row rest (row_at tables row + rest)
at_row tables row rest offset stands = subst (λ o. Stands tables row rest o) (sym stands.offset_is) stands

-- a word belongs to the row that its place says
of_offset : (tables : List Table) (row rest offset : ℕ) → Stands tables row rest offset
    → Stands tables (row_in tables offset) (rest_in tables offset) offset
of_offset tables row rest offset stands =
    subst (λ r. Stands tables r (rest_in tables offset) offset) (sym stands.row_is)
    (subst (λ k. Stands tables row k offset) (sym stands.rest_is) stands)

-- each word of a row's position stands among the words of the tables
pub row_stands : (tables : List Table) (row rest : ℕ) → row < rows_in tables
    → rest < position_words (width_at tables row) (ring_at tables row)
    → Stands tables row rest (row_at tables row + rest)
row_stands [] row rest some less = absurd (omega arith)
row_stands (t ∷ ts) row rest some less = elim (cases_lt row t.capacity) [
  | inl here ↦
      let within : rest < position_words t.width t.ring
      = rw (
        if_less row t.capacity t.width (width_at ts (row - t.capacity)) here,
        if_less row t.capacity t.ring (ring_at ts (row - t.capacity)) here,
      ) at less in
      at_row (t ∷ ts) row rest _ (first_stands t ts row rest here within)
  | inr past ↦
      let before = row - t.capacity in
      let within : rest < position_words (width_at ts before) (ring_at ts before)
      = rw (
        if_not_less row t.capacity t.width (width_at ts before) past,
        if_not_less row t.capacity t.ring (ring_at ts before) past,
      ) at less in
      let same : t.capacity + before ≡ row = omega arith in
      let stands = later_stands t ts before rest _ (row_stands ts before rest (omega arith) within) in
      at_row (t ∷ ts) row rest _
      (subst (λ r. Stands (t ∷ ts) r rest (table_words t + (row_at ts before + rest))) same stands)
]

-- each word of the tables is a word of a row's position
pub offset_stands : (tables : List Table) (offset : ℕ) → offset < tables_words tables
    → Stands tables (row_in tables offset) (rest_in tables offset) offset
offset_stands [] offset within = absurd (omega arith)
offset_stands (t ∷ ts) offset within = elim (cases_lt offset (table_words t)) [
  | inl here ↦
      let size = position_words t.width t.ring in
      let stands = first_stands t ts (offset / size) (offset % size)
      (div_below offset size t.capacity (omega arith) here) (mod_below offset size (omega arith)) in
      of_offset (t ∷ ts) _ _ offset
      (subst (λ o. Stands (t ∷ ts) (offset / size) (offset % size) o) (div-add-mod' offset size) stands)
  | inr past ↦
      let before = offset - table_words t in
      let same : table_words t + before ≡ offset = omega arith in
      let stands = later_stands t ts _ _ before (offset_stands ts before (omega arith)) in
      of_offset (t ∷ ts) _ _ offset
      (subst (λ o. Stands (t ∷ ts) (t.capacity + row_in ts before) (rest_in ts before) o) same stands)
]
