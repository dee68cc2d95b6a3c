-- The items of a range: which they are, and that they rise.
use Rattle.std.proofs.Common.{List, None, Option, Some, arith, inl, inr, refl, subst, suc, sym, zero, ℕ, ◌++◌, ◌+◌, ◌<◌}
use Rattle.std.proofs.Common.{◌≡◌, ◌≤◌}
use Rattle.std.proofs.lemmas.Bool.{cases_eq}
use Rattle.si_model.proofs.ListLemmas.{All-from_listed, listed_append_cases, listed_append_left, listed_append_right}
use Rattle.si_model.specs.Lists.{Listed, Pairwise}
use Rattle.si_model.specs.Rows.{Rows, item_at, items_from, key_at, present}
use Rattle.si_model.specs.declared.row.Item.{Item}

module _ (rows : Rows) (table : ℕ) where
  abbrev here : ℕ → Option (List ℕ)
  here key = rows (key_at table key)

  -- the item of a key that holds a row
  abbrev pub IsItem : Item → Type 0
  IsItem item = (value : List ℕ) × (item ≡ item_at (key_at table item.key) (Some value)) × (here item.key ≡ Some value)

  -- 1. One key

  present_from : (key : ℕ) (value : Option (List ℕ)) → here key ≡ value → (item : Item)
      → Listed item (present (key_at table key) value) → (key ≡ item.key) × IsItem item
  present_from key None is item listed = absurd listed
  present_from key (Some value) is item (inl same) =
      subst (λ (i : Item). (key ≡ i.key) × IsItem i) same (refl, (value, refl, is))
  present_from key (Some value) is item (inr none) = absurd none

  present_has : (key : ℕ) (value : List ℕ) → here key ≡ Some value
      → Listed (item_at (key_at table key) (Some value)) (present (key_at table key) (here key))
  present_has key value is =
      subst (λ v. Listed (item_at (key_at table key) (Some value)) (present (key_at table key) v)) (sym is) (inl refl)

  present_rises : (key : ℕ) (value : Option (List ℕ)) (items : List Item)
      → ((item : Item) → Listed item items → key < item.key) → Pairwise (λ (a b : Item). a.key < b.key) items
      → Pairwise (λ (a b : Item). a.key < b.key) (present (key_at table key) value ++ items)
  present_rises key None items past rises = rises
  present_rises key (Some value) items past rises = (All-from_listed (λ (i : Item). key < i.key) items past, rises)

  -- 2. So many keys

  pub range_from : (low n : ℕ) (item : Item) → Listed item (items_from rows table low n)
      → (low ≤ item.key) × (item.key < low + n) × IsItem item
  unfolding items_from
  range_from low zero item listed = absurd listed
  range_from low (suc n) item listed =
      elim (listed_append_cases (present (key_at table low) (here low)) (items_from rows table (low + 1) n) item
      listed) [
        | inl first ↦
            let at = present_from low (here low) refl item first in
            let same = at.0 in ((omega arith), (omega arith), at.1)
        | inr later ↦
            let at = range_from (low + 1) n item later in
            let least = at.0 in let less = at.1 in ((omega arith), (omega arith), at.2)
      ]

  pub range_has : (low n key : ℕ) (value : List ℕ) → here key ≡ Some value → low ≤ key → key < low + n
      → Listed (item_at (key_at table key) (Some value)) (items_from rows table low n)
  unfolding items_from
  range_has low zero key value is least less = absurd (omega arith)
  range_has low (suc n) key value is least less =
      let item = item_at (key_at table key) (Some value) in
      elim (cases_eq key low) [
        | inl same ↦
            listed_append_left (present (key_at table low) (here low)) (items_from rows table (low + 1) n) item
            (subst (λ k. Listed item (present (key_at table k) (here k))) same (present_has key value is))
        | inr apart ↦
            listed_append_right (present (key_at table low) (here low)) (items_from rows table (low + 1) n) item
            (range_has (low + 1) n key value is (omega arith) (omega arith))
      ]

  pub range_rises : (low n : ℕ) → Pairwise (λ (a b : Item). a.key < b.key) (items_from rows table low n)
  unfolding items_from
  range_rises low zero = tt
  range_rises low (suc n) =
      present_rises low (here low) (items_from rows table (low + 1) n)
      (λ item listed. let least = (range_from (low + 1) n item listed).0 in omega arith) (range_rises (low + 1) n)
