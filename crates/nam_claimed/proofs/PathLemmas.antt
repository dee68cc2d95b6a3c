-- What a path tells of its key: where it has no home, and which words it passes for good.
use Rattle.std.proofs.Common.{None, ap, arith, inl, inr, subst, sym, ℕ, ◌+◌, ◌<◌, ◌∙◌, ◌≡◌, ◌≢◌, ◌≤◌}
use Rattle.std.specs.Prelude.{List}
use Rattle.std.proofs.lemmas.Bool.{cases_lt, cases_order}
use Rattle.si_model.specs.Rows.{key_at}
use Rattle.nam_catalog.specs.declared.shape.Shape.{Shape}
use Rattle.nam_layout.specs.declared.field.Field.{Field}
use Rattle.nam_layout.specs.declared.field.Field.TheVariants.{Key}
use Rattle.nam_calls.specs.Index.{nth_key}
use Rattle.nam_calls.specs.Memory.{memory}
use Rattle.nam_calls.specs.Words.{capacity_of, key_word, path_of}
use Rattle.nam_store.specs.LoadedLaw.{KeysStand}
use Rattle.nam_store.proofs.PathLemmas.{on_row, row_on, row_reached}
use Rattle.nam_ghost.specs.Keys.{IsPast, KeysNext}
use Rattle.nam_claimed.specs.Home.{home_of, word_at}
use Rattle.nam_claimed.proofs.HomeLemmas.{home_none, table_within}

module _ (shape : Shape) (m : Field → ℕ) (table key : ℕ) where
  -- the word of the position after so many others
  abbrev pub word_on : ℕ → ℕ
  word_on passed = m (nth_key (path_of shape table key) passed)

  -- each position is one of the path
  pub on_path : (position : ℕ) → position < capacity_of shape table
      → (passed : ℕ) × (passed < capacity_of shape table) × (word_on passed ≡ word_at shape m table position)
  on_path position less =
      let reached = row_reached shape table (table_within shape table position less) key position less in
      (reached.0, reached.1, ap (λ row. m (Key row)) reached.2)

  -- where none of the path bears the key it has no home
  pub path_none : ((passed : ℕ) → passed < capacity_of shape table → word_on passed ≢ key_word key)
      → home_of shape m (key_at table key) ≡ None
  path_none none =
      home_none shape m (key_at table key) (λ position less bears.
      let p = on_path position less in none p.0 p.1 (p.2 ∙ bears))

  -- the whole path was passed
  pub past_none : IsPast shape m table key (capacity_of shape table) → home_of shape m (key_at table key) ≡ None
  past_none past = path_none (λ passed less. (past passed less).1)

  -- one more was passed
  pub past_more : (passed : ℕ) → IsPast shape m table key passed → word_on passed ≢ 0
      → word_on passed ≢ key_word key → IsPast shape m table key (passed + 1)
  past_more passed past some other q less = elim (cases_lt q passed) [
    | inl before ↦ past q before
    | inr least ↦
        let here : passed ≡ q = omega arith in
        subst (λ k. (word_on k ≢ 0) × (word_on k ≢ key_word key)) here (some, other)
  ]

-- it passes a free position: behind it the key can't stand
pub free_none : (shape : Shape) (words : List ℕ) → KeysStand shape words → (table key passed : ℕ)
    → passed < capacity_of shape table → let m = memory shape words in
    IsPast shape m table key passed → word_on shape m table key passed ≡ 0
    → home_of shape m (key_at table key) ≡ None
free_none shape words stand table key passed less past free =
    path_none shape (memory shape words) table key (λ p within bears. elim (cases_order p passed) [
      | inl same ↦
          let none = ap (word_on shape (memory shape words) table key) same ∙ free in
          absurd (omega arith)
      | inr apart ↦ elim apart [
        | inl before ↦ (past p before).1 bears
        | inr later ↦ (stand table key p (table_within shape table p within) within bears passed later).0 free
      ]
    ])

-- what was passed stays passed
pub past_stays : (shape : Shape) (m now : Field → ℕ) → KeysNext shape m now → (table key passed : ℕ)
    → passed ≤ capacity_of shape table → IsPast shape m table key passed → IsPast shape now table key passed
past_stays shape m now next table key passed most past q less =
    let other = past q less in
    let within : q < capacity_of shape table = omega arith in
    let row = on_row shape table (table_within shape table q within) key q within in
    let same = next (row_on shape table key q) row.within other.0 in
    ((λ e. other.0 (sym same ∙ e)), (λ e. other.1 (sym same ∙ e)))
