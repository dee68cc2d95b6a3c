-- What stays of key words by a step, and that no key is claimed twice.
use Rattle.std.proofs.Common.{List, ap, arith, inl, inr, refl, subst, sym, ℕ, ◌<◌, ◌∙◌, ◌≡◌, ◌⊎◌}
use Rattle.std.proofs.lemmas.Bool.{cases_eq}
use Rattle.std.specs.Prelude.{if◌then◌else◌, ◌==◌}
use Rattle.nam_calls.specs.Fits.{IsTableOf}
use Rattle.nam_calls.specs.Index.{nth_key}
use Rattle.nam_calls.specs.Memory.{memory}
use Rattle.nam_calls.specs.Words.{capacity_of, key_word, path_of}
use Rattle.nam_catalog.specs.declared.shape.Shape.{Shape}
use Rattle.nam_ghost.proofs.KeyLemmas.{past_stays}
use Rattle.nam_ghost.specs.Keys.{IsPast, KeyView, KeysNext, LooksFor, ViewFits, ViewOk}
use Rattle.nam_keys.specs.Tells.{IsClaimed, KeysGo}
use Rattle.nam_layout.specs.Rows.{table_of}
use Rattle.nam_layout.specs.declared.field.Field.{Field}
use Rattle.nam_layout.specs.declared.field.Field.TheVariants.{Key}
use Rattle.nam_store.proofs.PathLemmas.{on_row, row_on, rows_differ}
use Rattle.nam_store.specs.Changed.{Changed}
use Rattle.nam_store.specs.LoadedLaw.{KeysStand}
use Rattle.nam_verbs.proofs.TestLemmas.{by_equal}

-- 1. A key word that stands

module _ (shape : Shape) (m now : Field → ℕ) where
  pub go_next : (view : KeyView) → KeysGo shape m now view → KeysNext shape m now
  go_next view go row is some = elim (go row is) [
    | inl same ↦ same
    | inr claimed ↦ absurd (some claimed.free)
  ]

-- 2. A claim

abbrev key_row : Field → ℕ
key_row (Key row) = row
key_row _ = 0

-- an exchange of the key for no key
module _ (shape : Shape) (m now : Field → ℕ) (table key passed : ℕ) where
  abbrev spot : ℕ
  spot = row_on shape table key passed

  abbrev Goes : ℕ → Type 0
  Goes row = (now (Key row) ≡ m (Key row)) ⊎ IsClaimed shape m now (LooksFor table key passed) row

  pub claim_goes : Changed shape m now (nth_key (path_of shape table key) passed)
      (if m (Key spot) == 0 then key_word key else m (Key spot)) → KeysGo shape m now (LooksFor table key passed)
  claim_goes changed row of_shape = elim (cases_eq row spot) [
    | inl same ↦
        subst Goes (sym same)
        (by_equal (λ word. now (Key spot) ≡ word → Goes spot) (m (Key spot)) 0 (key_word key) (m (Key spot))
        (λ free written. inr record {
          table = table;
          key = key;
          passed = passed;
          looks = refl;
          row_is = refl;
          free = free;
          here = written;
        })
        (λ some kept. inl kept) changed.here)
    | inr apart ↦ inl (changed.others (Key row) of_shape (λ e. apart (ap key_row e)))
  ]

-- 3. Each key stands at its first free position

module _ (shape : Shape) (m : Field → ℕ) where
  -- two paths that pass one row as positions of one key are one
  same_past : (table key passed other k p : ℕ) → IsTableOf shape table → passed < capacity_of shape table
      → other ≡ table → k ≡ key → p < capacity_of shape other → row_on shape other k p ≡ row_on shape table key passed
      → IsPast shape m other k p → IsPast shape m table key passed
  same_past table key passed other k p is less one_table one_key =
      subst (λ (at : ℕ × ℕ). p < capacity_of shape at.0 → row_on shape at.0 at.1 p ≡ row_on shape table key passed
      → IsPast shape m at.0 at.1 p → IsPast shape m table key passed) (λ i. (sym one_table i, sym one_key i))
      (λ within one past.
      subst (IsPast shape m table key) (rows_differ shape table is key p passed within less one) past)

pub stand_stays : (shape : Shape) (words later : List ℕ) (view : KeyView) → ViewFits shape view
    → ViewOk shape (memory shape words) view → KeysGo shape (memory shape words) (memory shape later) view
    → KeysStand shape words → KeysStand shape later
stand_stays shape words later view fits ok go stand table key passed is less here =
    let m = memory shape words in
    let now = memory shape later in
    let at = on_row shape table is key passed less in
    past_stays shape m now (go_next shape m now view go) table key passed is (omega arith)
    (elim (go (row_on shape table key passed) at.within) [
      | inl same ↦ stand table key passed is less (sym same ∙ here)
      | inr claimed ↦
          let own = subst (ViewFits shape) claimed.looks fits in
          let there = on_row shape claimed.table own.0 claimed.key claimed.passed own.1 in
          let one_key : claimed.key ≡ key = (let e = sym claimed.here ∙ here in omega arith) in
          same_past shape m table key passed claimed.table claimed.key claimed.passed is less
          (sym there.table_is ∙ ap (table_of shape.tables) claimed.row_is ∙ at.table_is) one_key own.1 claimed.row_is
          (subst (ViewOk shape m) claimed.looks ok)
    ])
