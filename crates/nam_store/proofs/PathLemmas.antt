-- The positions of a key's path: each position of the table, once.
use Rattle.std.proofs.Common.{ap, arith, inl, inr, subst, sym, ℕ, ◌%◌, ◌*◌, ◌+◌, ◌-◌, ◌<◌, ◌≤◌, ◌∙◌, ◌≡◌}
use Rattle.std.proofs.lemmas.Bool.{cases_lt}
use Rattle.std.proofs.lemmas.Nat.{mod-mul-add}
use Rattle.nam_catalog.specs.declared.shape.Shape.{Shape}
use Rattle.nam_layout.specs.RowLaw.{IsRowOf}
use Rattle.nam_layout.specs.Rows.{position_of, row_of}
use Rattle.nam_layout.proofs.PositionLemmas.{position_is_row}
use Rattle.nam_calls.specs.Fits.{IsTableOf}
use Rattle.nam_calls.specs.Index.{nth_position}
use Rattle.nam_calls.specs.Words.{capacity_of, path_of}
use Rattle.nam_calls.proofs.FieldLemmas.{row_after}

-- 1. Round a table

short_rest : (c n : ℕ) → n < c → n % c ≡ n
short_rest c n less =
    let rest = mod-mul-add 0 c n less in
    let same : n ≡ 0 * c + n = omega arith in
    ap (λ x. x % c) same ∙ rest

long_rest : (c n : ℕ) → c ≤ n → n < 2 * c → n % c ≡ n - c
long_rest c n least less =
    let same : n ≡ 1 * c + (n - c) = omega arith in
    ap (λ x. x % c) same ∙ mod-mul-add 1 c (n - c) (omega arith)

-- from one place no two numbers of steps lead to one
steps_differ : (c from p q : ℕ) → from < c → p < c → q < c → (from + p) % c ≡ (from + q) % c → p ≡ q
steps_differ c from p q within lp lq e = elim (cases_lt (from + p) c) [
  | inl a ↦ elim (cases_lt (from + q) c) [
    | inl b ↦ let x = short_rest c (from + p) a in let y = short_rest c (from + q) b in omega arith
    | inr b ↦ let x = short_rest c (from + p) a in let y = long_rest c (from + q) b (omega arith) in omega arith
  ]
  | inr a ↦ elim (cases_lt (from + q) c) [
    | inl b ↦ let x = long_rest c (from + p) a (omega arith) in let y = short_rest c (from + q) b in omega arith
    | inr b ↦
        let x = long_rest c (from + p) a (omega arith) in let y = long_rest c (from + q) b (omega arith) in omega arith
  ]
]

-- and each place is reached
steps_reach : (c from to : ℕ) → from < c → to < c → (p : ℕ) × (p < c) × ((from + p) % c ≡ to)
steps_reach c from to within less = elim (cases_lt to from) [
  | inl before ↦
      let p = c + to - from in
      let rest = long_rest c (from + p) (omega arith) (omega arith) in (p, (omega arith), (omega arith))
  | inr past ↦
      let p = to - from in
      let rest = short_rest c (from + p) (omega arith) in (p, (omega arith), (omega arith))
]

-- 2. Rows

module _ (shape : Shape) where
  -- the row after so many others on the path of a table's key
  abbrev pub row_on : ℕ → ℕ → ℕ → ℕ
  row_on table key passed = row_of shape.tables table 0 + nth_position (path_of shape table key) passed

  module _ (table : ℕ) (is : IsTableOf shape table) where
    module _ (key passed : ℕ) (less : passed < capacity_of shape table) where
      abbrev position : ℕ
      position = nth_position (path_of shape table key) passed

      on_is : row_on table key passed ≡ row_of shape.tables table position
      on_is = row_after shape.tables table position

      pub on_row : IsRowOf shape.tables table position (row_on table key passed)
      on_row =
          subst (IsRowOf shape.tables table position) (sym on_is)
          (position_is_row shape.tables table position (is, omega arith))

    -- no row comes twice, and each one comes on every path
    pub rows_differ : (key p q : ℕ) → p < capacity_of shape table → q < capacity_of shape table
        → row_on table key p ≡ row_on table key q → p ≡ q
    rows_differ key p q lp lq e =
        steps_differ (capacity_of shape table) (key % capacity_of shape table) p q (omega arith) lp lq
        (sym (on_row key p lp).position_is ∙ ap (position_of shape.tables) e ∙ (on_row key q lq).position_is)

    pub row_reached : (key to : ℕ) → to < capacity_of shape table
        → (p : ℕ) × (p < capacity_of shape table) × (row_on table key p ≡ row_of shape.tables table to)
    row_reached key to less =
        let t = steps_reach (capacity_of shape table) (key % capacity_of shape table) to (omega arith) less in
        (t.0, t.1, on_is key t.0 t.1 ∙ ap (row_of shape.tables table) t.2)
