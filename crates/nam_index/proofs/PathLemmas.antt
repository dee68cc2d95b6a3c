-- paths, and the key words of a table's positions, which stand one after another
use Rattle.std.proofs.Common.{◌≡◌, ◌⊎◌, inl, inr, ℕ, zero, suc, ◌+◌, ◌-◌, ◌*◌, ◌^◌, ◌%◌, ◌<◌, ◌≤◌, List, [], ◌∷◌}
use Rattle.std.proofs.Common.{length, sym, ◌∙◌, ap, arith}
use Rattle.std.specs.Prelude.{All, slice_index}
use Rattle.std.proofs.Math.Nat.{add-mod_left, mod-eq_of_lt}
use Rattle.std.proofs.lemmas.Bool.{cases_lt}
use Rattle.std.proofs.lemmas.Nat.{mod_below}
use Rattle.std.proofs.lemmas.List.Elements.{All-head, All-tail}
use Rattle.nam_catalog.specs.declared.shape.Table.{Table}
use Rattle.nam_catalog.specs.declared.shape.Shape.{Shape}
use Rattle.nam_catalog.specs.Fits.{FitsTable, FitsLimits}
use Rattle.nam_catalog.specs.Tables.{widths_of, capacities_of, rings_of}
use Rattle.nam_catalog.specs.Words.{words_of, position_words, table_words, tables_words}
use Rattle.nam_layout.specs.Rows.{row_of, row_at}
use Rattle.nam_layout.specs.Address.{address}
use Rattle.nam_layout.proofs.TestLemmas.{if_less, if_not_less}
use Rattle.nam_calls.specs.Words.{capacity_of, on_path, path_of}
use Rattle.nam_calls.specs.Index.{nth_position, nth_key}
use Rattle.nam_calls.specs.Fits.{FindFits, IsTableOf}
use Rattle.nam_calls.proofs.FallsTables.{has_capacity}
use Rattle.nam_calls.proofs.FieldLemmas.{row_after}
use Rattle.nam_index.specs.Path.{path_end, FitsPath}
use Rattle.nam_index.specs.FieldLaw.{Stands}
use Rattle.nam_index.specs.PathLaw.{GoesThrough}

-- the positions of a table stand one after another, among the words of the tables
record StandInOrder (tables : List Table) (table : ℕ) : Type 0 where
  pub stands : (position : ℕ) → position < slice_index (capacities_of tables) table
      → row_at tables (row_of tables table position) ≡ row_at tables (row_of tables table 0)
      + position * position_words (slice_index (widths_of tables) table) (slice_index (rings_of tables) table)
  pub within :
      row_at tables (row_of tables table 0)
      + slice_index (capacities_of tables) table * position_words (slice_index (widths_of tables) table)
      (slice_index (rings_of tables) table)
      ≤ tables_words tables

later_row_at : (t : Table) (ts : List Table) (row : ℕ)
    → row_at (t ∷ ts) (t.capacity + row) ≡ table_words t + row_at ts row
later_row_at t ts row =
    let past : t.capacity ≤ t.capacity + row = omega arith in
    let before : t.capacity + row - t.capacity ≡ row = omega arith in
    if_not_less _ _ _ _ past ∙ ap (λ n. table_words t + row_at ts n) before

in_order : (tables : List Table) (table : ℕ) → All FitsTable tables → table < length tables → StandInOrder tables table
in_order [] table fit less = absurd (omega arith)
in_order (t ∷ ts) zero fit less =
    let some : 0 < t.capacity = (All-head FitsTable t ts fit).least_capacity in
    let first : row_at (t ∷ ts) 0 ≡ 0 = if_less _ _ _ _ some ∙ omega arith in
    record {
      stands = λ position here.
          let row : row_at (t ∷ ts) position ≡ position * position_words t.width t.ring = if_less _ _ _ _ here in
          omega arith;
      within = omega arith;
    }
in_order (t ∷ ts) (suc table) fit less =
    let rest = in_order ts table (All-tail FitsTable t ts fit) (omega arith) in
    let first = later_row_at t ts (row_of ts table 0) in
    let within = rest.within in
    record {
      stands = λ position here.
          let row = later_row_at t ts (row_of ts table position) in
          let stands = rest.stands position here in
          omega arith;
      within = omega arith;
    }

module _ (shape : Shape) (limits : FitsLimits shape) (table : ℕ) (is : IsTableOf shape table) (key : ℕ) where
  -- each key word of the path stands where its field stands
  pub stands : (passed : ℕ) → FindFits (capacity_of shape table) passed
      → Stands shape table key (nth_key (path_of shape table key) passed)
  stands passed fits =
      let path = path_of shape table key in
      let position = nth_position path passed in
      let in_table : position < capacity_of shape table = mod_below _ _ (has_capacity shape limits table is) in
      let here = (in_order shape.tables table limits.tables is).stands position in_table in
      let row = ap (row_at shape.tables) (row_after shape.tables table position) in
      let nth : path.row + position - path.row ≡ position = omega arith in
      let at : path.first + position * path.words ≡ address shape (nth_key path passed) = omega arith in
      ap (λ n. path.first + n * path.words) nth ∙ at

  path_ends : path_end (path_of shape table key) ≤ words_of shape
  path_ends = let within = (in_order shape.tables table limits.tables is).within in omega arith

  pub path_fits : key < 2 ^ 64 - 1
      → FitsPath (path_of shape table key) × (path_end (path_of shape table key) ≤ words_of shape)
  path_fits less =
      let ends = path_ends in
      let most = limits.words in (
        record {
          key = less;
          least_capacity = has_capacity shape limits table is;
          least_words = omega arith;
          last = omega arith;
        },
        ends,
      )

-- the remainder of a sum of two numbers below the capacity
remainder : (capacity n : ℕ) → n < capacity + capacity → ((n < capacity) × (n % capacity ≡ n))
    ⊎ ((capacity ≤ n) × (n % capacity + capacity ≡ n))
remainder capacity n less = elim (cases_lt n capacity) [
  | inl below ↦ inl (below, mod-eq_of_lt below)
  | inr least ↦
      let rest = n - capacity in
      let sum : capacity + rest ≡ n = omega arith in
      let below : rest < capacity = omega arith in
      let same : n % capacity ≡ rest = ap (λ m. m % capacity) (sym sum) ∙ add-mod_left capacity rest
      ∙ mod-eq_of_lt below in
      inr (least, omega arith)
]

module _ (capacity key : ℕ) (some : 1 ≤ capacity) where
  abbrev first : ℕ
  first = key % capacity

  first_below : first < capacity
  first_below = mod_below key capacity some

  turn : (passed : ℕ) → passed < capacity
      → ((first + passed < capacity) × (on_path capacity key passed ≡ first + passed))
      ⊎ ((capacity ≤ first + passed) × (on_path capacity key passed + capacity ≡ first + passed))
  turn passed less = let f = first_below in remainder capacity (first + passed) (omega arith)

  reaches : (position : ℕ) → position < capacity → (passed : ℕ) × (passed < capacity)
      × (on_path capacity key passed ≡ position)
  reaches position less = elim (cases_lt position first) [
    | inl before ↦
        let f = first_below in
        let passed = position + capacity - first in
        let within : passed < capacity = omega arith in (
          passed,
          within,
          elim (turn passed within)
              [ inl t ↦ let a = t.0 in absurd (omega arith) | inr t ↦ let a = t.1 in omega arith ],
        )
    | inr after ↦
        let passed = position - first in
        let within : passed < capacity = omega arith in (
          passed,
          within,
          elim (turn passed within)
              [ inl t ↦ let a = t.1 in omega arith | inr t ↦ let a = t.0 in absurd (omega arith) ],
        )
  ]

  same_turn : (a b : ℕ) → a < capacity → b < capacity → on_path capacity key a ≡ on_path capacity key b → a ≡ b
  same_turn a b less_a less_b same = elim (turn a less_a) [
    | inl s ↦ elim (turn b less_b) [
      | inl t ↦ let x = s.1 in let y = t.1 in omega arith
      | inr t ↦ let x = s.1 in let y = t.1 in absurd (omega arith)
    ]
    | inr s ↦ elim (turn b less_b) [
      | inl t ↦ let x = s.1 in let y = t.1 in absurd (omega arith)
      | inr t ↦ let x = s.1 in let y = t.1 in omega arith
    ]
  ]

  pub goes_through : GoesThrough capacity key
  goes_through = record {
    within = λ passed less. mod_below (first + passed) capacity some;
    each = reaches;
    once = same_turn;
  }
