-- At the opening each key that a position bears has its first position there.
use Rattle.std.proofs.Common.{Bool, List, [], ap, arith, false, inl, inr, length, refl, subst, suc, sym, true, zero}
use Rattle.std.proofs.Common.{ℕ, ◌+◌, ◌<◌, ◌≤◌, ◌∙◌, ◌∷◌, ◌≡◌, ◌≢◌}
use Rattle.std.specs.List.{AllByRecursion}
use Rattle.std.specs.Prelude.{◌==◌, ◌&&◌}
use Rattle.std.proofs.lemmas.Bool.{cases_eq, eq-eqb, eqb-false, eqb-true, false≢true}
use Rattle.si_model.specs.declared.row.Row.{Row}
use Rattle.si_model.specs.Lists.{Pairwise}
use Rattle.si_model.specs.Rows.{row_key, same_key}
use Rattle.nam_catalog.specs.declared.shape.Shape.{Shape}
use Rattle.nam_catalog.specs.Words.{words_of}
use Rattle.nam_layout.specs.Address.{IsRow}
use Rattle.nam_layout.specs.declared.field.Field.TheVariants.{Header, Key, Word}
use Rattle.nam_layout.specs.Rows.{table_of, width_at}
use Rattle.nam_calls.specs.Fits.{IsTableOf}
use Rattle.nam_calls.specs.Memory.{memory, with_word}
use Rattle.nam_calls.specs.Words.{capacity_of, key_word}
use Rattle.nam_calls.proofs.MemoryLemmas.{store_changes}
use Rattle.nam_protocol.specs.Opening.{blank_words, load_from, with_row, with_rows, with_value}
use Rattle.nam_protocol.specs.OpeningLaw.{BearKeys, IsOfTable}
use Rattle.nam_protocol.proofs.BlankLemmas.{blank_law}
use Rattle.nam_store.specs.LoadedLaw.{KeysOpenLaw, KeysStand, word_after}
use Rattle.nam_store.proofs.PathLemmas.{on_row, row_on, rows_differ}

module _ (shape : Shape) where
  abbrev pub key_at : List ℕ → ℕ → ℕ
  key_at words row = memory shape words (Key row)

  -- 1. The keys, where a row is loaded

  -- as many words, and the same keys
  record SameKeys (before after : List ℕ) : Type 0 where
    whole : length after ≡ words_of shape
    kept : (other : ℕ) → IsRow shape other → key_at after other ≡ key_at before other

  value_keys : (at nth : ℕ) (values words : List ℕ) → length words ≡ words_of shape → IsRow shape at
      → nth + length values ≤ width_at shape.tables at → SameKeys words (with_value shape at nth values words)
  value_keys at nth [] words whole is fits = record { whole = whole; kept = λ other of_shape. refl }
  value_keys at nth (v ∷ vs) words whole is fits =
      let first = store_changes shape words (Word at nth) v whole (is, omega arith) in
      let rest = value_keys at (nth + 1) vs (with_word shape words (Word at nth) v) (first.whole ∙ whole) is
      (omega arith) in
      record {
        whole = rest.whole;
        kept = λ other of_shape. rest.kept other of_shape ∙ first.others (Key other) of_shape (λ e. cc);
      }

  -- the row has its key at this position, and all others have those that they had
  record Keyed (at : ℕ) (row : Row) (before after : List ℕ) : Type 0 where
    whole : length after ≡ words_of shape
    here : key_at after at ≡ key_word row.key
    kept : (other : ℕ) → IsRow shape other → other ≢ at → key_at after other ≡ key_at before other

  row_keyed : (at : ℕ) (row : Row) (words : List ℕ) → length words ≡ words_of shape → IsRow shape at
      → length row.value ≡ width_at shape.tables at → Keyed at row words (with_row shape at row words)
  row_keyed at row words whole is wide =
      let keyed = with_word shape words (Key at) (key_word row.key) in
      let k = store_changes shape words (Key at) (key_word row.key) whole is in
      let h = store_changes shape keyed (Header at) 0 (k.whole ∙ whole) is in
      let v = value_keys at 0 row.value (with_word shape keyed (Header at) 0) (h.whole ∙ k.whole ∙ whole) is
      (omega arith) in
      record {
        whole = v.whole;
        here = v.kept at is ∙ h.others (Key at) is (λ e. cc) ∙ k.here;
        kept = λ other of_shape apart.
            v.kept other of_shape ∙ h.others (Key other) of_shape (λ e. cc)
            ∙ k.others (Key other) of_shape (λ e. apart (cc));
      }

  -- 2. What holds while rows are loaded

  -- the row's key is borne nowhere yet
  abbrev Fresh : List ℕ → Row → Type 0
  Fresh words row = (passed : ℕ) → passed < capacity_of shape row.table
      → word_after shape words row.table row.key passed ≢ key_word row.key

  -- those rows are to be loaded
  record Loading (rows : List Row) (words : List ℕ) : Type 0 where
    whole : length words ≡ words_of shape
    stand : KeysStand shape words
    fresh : AllByRecursion (Fresh words) rows

  module _ (row : Row) (fits : IsOfTable shape row) (rows : List Row)
      (all : AllByRecursion (IsOfTable shape) rows)
      (apart : AllByRecursion (λ (other : Row). same_key (row_key row) (row_key other) ≡ false) rows) where
    abbrev spot : ℕ → ℕ
    spot passed = row_on shape row.table row.key passed

    -- at a free position, after positions that bear keys
    module _ (passed : ℕ) (less : passed < capacity_of shape row.table) (before after : List ℕ)
        (loading : Loading (row ∷ rows) before) (keyed : Keyed (spot passed) row before after)
        (free : key_at before (spot passed) ≡ 0) (past : BearKeys shape before row passed) where
      abbrev Other : List ℕ → ℕ → ℕ → ℕ → Type 0
      Other words table key k =
          (word_after shape words table key k ≢ 0) × (word_after shape words table key k ≢ key_word key)

      -- what bore another key bears it still
      still_other : (table key k : ℕ) → IsTableOf shape table → k < capacity_of shape table
          → Other before table key k → Other after table key k
      still_other table key k is within (bears, other) =
          let same = keyed.kept (row_on shape table key k) (on_row shape table is key k within).within
          (λ e. bears (ap (key_at before) e ∙ free)) in
          ((λ e. bears (sym same ∙ e)), (λ e. other (sym same ∙ e)))

      of_table : (table key p : ℕ) → IsTableOf shape table → p < capacity_of shape table
          → row_on shape table key p ≡ spot passed → table ≡ row.table
      of_table table key p is within e =
          sym (on_row shape table is key p within).table_is ∙ ap (table_of shape.tables) e
          ∙ (on_row shape row.table fits.table_is row.key passed less).table_is

      -- the new key
      stands_here : (p : ℕ) → p < capacity_of shape row.table → spot p ≡ spot passed → (k : ℕ) → k < p
          → Other after row.table row.key k
      stands_here p within e k earlier =
          let same = rows_differ shape row.table fits.table_is row.key p passed within less e in
          still_other row.table row.key k fits.table_is (omega arith)
          (past k (omega arith), loading.fresh.0 k (omega arith))

      -- by what it is said to be
      stands_there : (table key p : ℕ) → table ≡ row.table → key ≡ row.key → p < capacity_of shape table
          → row_on shape table key p ≡ spot passed → (k : ℕ) → k < p → Other after table key k
      stands_there table key p one same =
          subst (λ (x : ℕ × ℕ). p < capacity_of shape x.0 → row_on shape x.0 x.1 p ≡ spot passed
          → (k : ℕ) → k < p → Other after x.0 x.1 k)
          (λ i. (sym one i, sym same i)) (stands_here p)

      keyed_stand : KeysStand shape after
      keyed_stand table key p is within bears k earlier = elim (cases_eq (row_on shape table key p) (spot passed)) [
        | inl e ↦
            let word : key_word row.key ≡ key_word key = sym keyed.here ∙ ap (key_at after) (sym e) ∙ bears in
            stands_there table key p (of_table table key p is within e) (omega arith) within e k earlier
        | inr apart ↦
            let same = keyed.kept (row_on shape table key p) (on_row shape table is key p within).within apart in
            still_other table key k is (omega arith) (loading.stand table key p is within (sym same ∙ bears) k earlier)
      ]

      keyed_fresh : (other : Row) → IsTableOf shape other.table → same_key (row_key row) (row_key other) ≡ false
          → Fresh before other → Fresh after other
      keyed_fresh other is differs fresh p within bears =
          elim (cases_eq (row_on shape other.table other.key p) (spot passed)) [
            | inl e ↦
                let word : key_word row.key ≡ key_word other.key = sym keyed.here ∙ ap (key_at after) (sym e) ∙ bears in
                false≢true (sym differs ∙ one_key row.table other.table row.key other.key
                (sym (of_table other.table other.key p is within e)) (omega arith))
            | inr apart ↦
                fresh p within
                (sym (keyed.kept (row_on shape other.table other.key p)
                (on_row shape other.table is other.key p within).within apart) ∙ bears)
          ]
        where
          one_key : (t u k l : ℕ) → t ≡ u → k ≡ l → ((t == u) && (k == l)) ≡ true
          one_key t u k l st sk = ap (λ b. b && (k == l)) (eq-eqb t u st) ∙ eq-eqb k l sk

      all_fresh : (those : List Row) → AllByRecursion (IsOfTable shape) those
          → AllByRecursion (λ (other : Row). same_key (row_key row) (row_key other) ≡ false) those
          → AllByRecursion (Fresh before) those → AllByRecursion (Fresh after) those
      all_fresh [] fit differ fresh = tt
      all_fresh (other ∷ those) fit differ fresh = (
        keyed_fresh other fit.0.table_is differ.0 fresh.0,
        all_fresh those fit.1 differ.1 fresh.1,
      )

      now_loaded : Loading rows after
      now_loaded =
          record { whole = keyed.whole; stand = keyed_stand; fresh = all_fresh rows all apart loading.fresh.1 }

    -- 3. It is loaded at the first free position

    spot_keyed : (passed : ℕ) → passed < capacity_of shape row.table → (words : List ℕ) → length words ≡ words_of shape
        → Keyed (spot passed) row words (with_row shape (spot passed) row words)
    spot_keyed passed less words whole =
        let is = on_row shape row.table fits.table_is row.key passed less in
        row_keyed (spot passed) row words whole is.within (fits.wide ∙ sym is.width_is)

    row_loads : (rest passed : ℕ) (words : List ℕ) → passed + rest ≡ capacity_of shape row.table
        → Loading (row ∷ rows) words → BearKeys shape words row passed
        → Loading rows (load_from shape row rest passed words)
    unfolding load_from
    row_loads zero passed words all loading past =
        record { whole = loading.whole; stand = loading.stand; fresh = loading.fresh.1 }
    row_loads (suc rest) passed words sum loading past =
        by_look (key_at words (spot passed) == 0) refl (λ bears.
        row_loads rest (passed + 1) words (omega arith) loading (λ k less. elim (cases_eq k passed) [
          | inl same ↦ λ none. bears (ap (λ n. key_at words (spot n)) (sym same) ∙ none)
          | inr other ↦ past k (omega arith)
        ]))
      where
        by_look : (free : Bool) → (key_at words (spot passed) == 0) ≡ free
            → (key_at words (spot passed) ≢ 0 → Loading rows (load_from shape row rest (passed + 1) words))
            → Loading rows (elim free [
              | true ↦ with_row shape (spot passed) row words
              | false ↦ load_from shape row rest (passed + 1) words
            ])
        by_look true e next =
            let less : passed < capacity_of shape row.table = omega arith in
            now_loaded passed less words _ loading (spot_keyed passed less words loading.whole)
            (eqb-true (key_at words (spot passed)) 0 e) past
        by_look false e next = next (eqb-false (key_at words (spot passed)) 0 e)

  rows_load : (rows : List Row) (words : List ℕ) → AllByRecursion (IsOfTable shape) rows
      → Pairwise (λ (a b : Row). same_key (row_key a) (row_key b) ≡ false) rows → Loading rows words
      → KeysStand shape (with_rows shape rows words)
  rows_load [] words all apart loading = loading.stand
  rows_load (row ∷ rows) words all apart loading =
      rows_load rows _ all.1 apart.1
      (row_loads row all.0 rows all.1 apart.0 (capacity_of shape row.table) 0 words (omega arith) loading
      (λ k less. absurd (omega arith)))

  -- 4. Blank words bear no key

  blank_key : (table key passed : ℕ) → IsTableOf shape table → passed < capacity_of shape table
      → word_after shape (blank_words shape) table key passed ≡ 0
  blank_key table key passed is less =
      (blank_law shape).each (Key (row_on shape table key passed)) (on_row shape table is key passed less).within

  blank_fresh : (rows : List Row) → AllByRecursion (IsOfTable shape) rows
      → AllByRecursion (Fresh (blank_words shape)) rows
  blank_fresh [] all = tt
  blank_fresh (row ∷ rows) all = (
    (λ passed less e. let none = blank_key row.table row.key passed all.0.table_is less in omega arith),
    blank_fresh rows all.1,
  )

pub keys_open : KeysOpenLaw
keys_open shape rows loaded =
    rows_load shape rows (blank_words shape) loaded.of_tables loaded.apart record {
      whole = (blank_law shape).whole;
      stand = λ table key passed is less bears.
          let none = blank_key shape table key passed is less in absurd (omega arith);
      fresh = blank_fresh shape rows loaded.of_tables;
    }
