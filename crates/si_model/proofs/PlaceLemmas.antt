-- One more write, by the place of its key.
use Rattle.std.proofs.Common.{◌≡◌, ℕ, zero, suc, ◌<◌, Bool, true, false, cond, ◌⊎◌, inl, inr, List, [], ◌∷◌, ◌++◌, length}
use Rattle.std.proofs.Common.{refl, ap, sym, ◌∙◌, arith, Option, Some, None, Result, Ok, Err, OnOk, OnErr, is_err, slice_set, slice_index_or, is_some}
use Rattle.std.specs.Option.{option_map}
use Rattle.std.specs.BTreeMap.{is_at}
use Rattle.std.proofs.lemmas.Bool.{cases_Bool, false≢true}
use Rattle.std.proofs.lemmas.Bool.Decides.{nat_tests}
use Rattle.si_model.specs.declared.row.Key.{Key}
use Rattle.si_model.specs.declared.row.Item.{Item}
use Rattle.si_model.specs.Rows.{same_key, item_key, has_key, Rows, writes_key, overlay}
use Rattle.si_model.specs.Evaluation.{with_write}
use Rattle.si_model.specs.Places.{place_of}
use Rattle.si_model.specs.Held.{key_cmp}
use Rattle.si_model.proofs.EvaluationLemmas.{same_key_says}
use Rattle.si_model.proofs.HeldLemmas.{is_at_key}

map_some : (o : Option ℕ) (n : ℕ) → option_map suc o ≡ Some n → (p : ℕ) × (o ≡ Some p) × (n ≡ suc p)
map_some None n is = absurd cc
map_some (Some p) n is = (p, refl, cc)

map_none : (o : Option ℕ) → option_map suc o ≡ None → o ≡ None
map_none None is = refl
map_none (Some p) is = absurd cc

is_some-map : (o : Option ℕ) → is_some (option_map suc o) ≡ is_some o
is_some-map None = refl
is_some-map (Some p) = refl

-- the place of a key, by whether the first item is of it
at_first : (w : Item) (ws : List Item) (key : Key) → same_key (item_key w) key ≡ true → place_of (w ∷ ws) key ≡ Some 0
at_first w ws key here = rw here refl

at_later : (w : Item) (ws : List Item) (key : Key) → same_key (item_key w) key ≡ false
    → place_of (w ∷ ws) key ≡ option_map suc (place_of ws key)
at_later w ws key other = rw other refl

-- a key has a place where it is written
pub has_place : (ws : List Item) (key : Key) → is_some (place_of ws key) ≡ writes_key ws key
has_place [] key = refl
has_place (w ∷ ws) key =
    elim (cases_Bool (same_key (item_key w) key)) [
      | inl here ↦ rw here refl
      | inr other ↦ rw other (is_some-map (place_of ws key) ∙ has_place ws key)
    ]

-- its item stands there, and is what it holds
pub place_says : (ws : List Item) (key : Key) (place : ℕ) → place_of ws key ≡ Some place
    → (place < length ws) × ((rows : Rows) (other : Item)
    → overlay ws rows key ≡ (slice_index_or ws place other).value)
place_says [] key place is = absurd cc
place_says (w ∷ ws) key place is =
    elim (cases_Bool (same_key (item_key w) key)) [
      | inl here ↦ first place here (sym (at_first w ws key here) ∙ is)
      | inr other ↦ let later = map_some (place_of ws key) place (sym (at_later w ws key other) ∙ is) in
          next place later.0 other later.2 (place_says ws key later.0 later.1)
    ]
  where
    Says : ℕ → Type 0
    Says n = (n < length (w ∷ ws)) × ((rows : Rows) (other : Item)
        → overlay (w ∷ ws) rows key ≡ (slice_index_or (w ∷ ws) n other).value)

    first : (n : ℕ) → same_key (item_key w) key ≡ true → Some 0 ≡ Some n → Says n
    first zero here at = (omega arith, λ rows other. rw here refl)
    first (suc n) here at = absurd cc

    next : (n p : ℕ) → same_key (item_key w) key ≡ false → n ≡ suc p
        → (p < length ws) × ((rows : Rows) (other : Item) → overlay ws rows key ≡ (slice_index_or ws p other).value)
        → Says n
    next zero p other at rest = absurd (omega (arith, at))
    next (suc n) p other at rest =
        let same : p ≡ n = omega (arith, at) in (
          omega (arith, at, rest.0),
          λ rows d. rw other (rest.1 rows d ∙ ap (λ q. (slice_index_or ws q d).value) same),
        )

-- a key without a place holds its row
pub no_place_says : (ws : List Item) (key : Key) → place_of ws key ≡ None → (rows : Rows)
    → overlay ws rows key ≡ rows key
no_place_says [] key is rows = refl
no_place_says (w ∷ ws) key is rows =
    elim (cases_Bool (same_key (item_key w) key)) [
      | inl here ↦ absurd (let at = sym (at_first w ws key here) ∙ is in cc at)
      | inr other ↦ rw other (no_place_says ws key (map_none (place_of ws key) (sym (at_later w ws key other) ∙ is)) rows)
    ]

-- a write at a key that has a place takes that place
pub wrote_again : (ws : List Item) (i : Item) (place : ℕ) → place_of ws (item_key i) ≡ Some place
    → (slice_set ws place i ≡ with_write ws i) × ((key : Key) → place_of (slice_set ws place i) key ≡ place_of ws key)
wrote_again [] i place is = absurd cc
wrote_again (w ∷ ws) i place is =
    elim (cases_Bool (same_key (item_key w) (item_key i))) [
      | inl here ↦ first place here (sym (at_first w ws (item_key i) here) ∙ is)
      | inr other ↦ let later =
          map_some (place_of ws (item_key i)) place (sym (at_later w ws (item_key i) other) ∙ is) in
          next place later.0 other later.2 (wrote_again ws i later.0 later.1)
    ]
  where
    Again : ℕ → Type 0
    Again n = (slice_set (w ∷ ws) n i ≡ with_write (w ∷ ws) i)
        × ((key : Key) → place_of (slice_set (w ∷ ws) n i) key ≡ place_of (w ∷ ws) key)

    first : (n : ℕ) → same_key (item_key w) (item_key i) ≡ true → Some 0 ≡ Some n → Again n
    first zero here at = (
      rw here refl,
      λ key. ap (λ k. cond (same_key k key) (Some 0) (option_map suc (place_of ws key)))
          (sym (same_key_says (item_key w) (item_key i) here)),
    )
    first (suc n) here at = absurd cc

    next : (n p : ℕ) → same_key (item_key w) (item_key i) ≡ false → n ≡ suc p → (slice_set ws p i ≡ with_write ws i)
        × ((key : Key) → place_of (slice_set ws p i) key ≡ place_of ws key) → Again n
    next zero p other at rest = absurd (omega (arith, at))
    next (suc n) p other at rest =
        let same : n ≡ p = omega (arith, at) in (
          rw (other, same) (ap (λ is. w ∷ is) rest.0),
          λ key. rw same (ap (λ o. cond (same_key (item_key w) key) (Some 0) (option_map suc o)) (rest.1 key)),
        )

-- and one at another comes last
pub wrote_first : (ws : List Item) (i : Item) → place_of ws (item_key i) ≡ None → ws ++ i ∷ [] ≡ with_write ws i
wrote_first [] i none = refl
wrote_first (w ∷ ws) i none =
    elim (cases_Bool (same_key (item_key w) (item_key i))) [
      | inl here ↦ absurd (let at = sym (at_first w ws (item_key i) here) ∙ none in cc at)
      | inr other ↦ rw other (ap (λ is. w ∷ is) (wrote_first ws i (map_none (place_of ws (item_key i))
          (sym (at_later w ws (item_key i) other) ∙ none))))
    ]

pub place_last : (ws : List Item) (i : Item) (key : Key) → place_of ws (item_key i) ≡ None
    → place_of (ws ++ i ∷ []) key ≡ cond (same_key (item_key i) key) (Some (length ws)) (place_of ws key)
place_last [] i key none = refl
place_last (w ∷ ws) i key none =
    elim (cases_Bool (same_key (item_key w) (item_key i))) [
      | inl here ↦ absurd (let at = sym (at_first w ws (item_key i) here) ∙ none in cc at)
      | inr other ↦
          let rest = place_last ws i key (map_none (place_of ws (item_key i))
          (sym (at_later w ws (item_key i) other) ∙ none)) in
          elim (cases_Bool (same_key (item_key w) key)) [
            | inl at ↦
                let apart : same_key (item_key i) key ≡ false = grind (arith, nat_tests) in
                rw (at, apart) refl
            | inr away ↦ rw (away, rest) (by_test (same_key (item_key i) key))
          ]
    ]
  where
    by_test : (b : Bool) → option_map suc (cond b (Some (length ws)) (place_of ws key))
        ≡ cond b (Some (suc (length ws))) (option_map suc (place_of ws key))
    by_test true = refl
    by_test false = refl

-- a key that isn't written has no place
no_place : (ws : List Item) (key : Key) → writes_key ws key ≡ false → place_of ws key ≡ None
no_place ws key absent = none (place_of ws key) (has_place ws key ∙ absent)
  where
    none : (o : Option ℕ) → is_some o ≡ false → o ≡ None
    none None is = refl
    none (Some p) is = absurd (false≢true (sym is))

-- ---- a map of places, with the place of one more key

module _ (ws ws' : List Item) (i : Item) (key : Key) (place : ℕ) (old new : Key → Option ℕ)
    (placed : (k : Key) → old k ≡ place_of ws k) (absent : writes_key ws (item_key i) ≡ false) (is : key ≡ item_key i)
    (more : (k : Key) → new k ≡ cond (is_at (key_cmp key) k) (Some place) (old k)) where
  at_item : (k : Key) → is_at (key_cmp key) k ≡ same_key (item_key i) k
  at_item k = is_at_key key k ∙ ap (λ q. same_key q k) is

  -- it has the places of the longer write set
  pub place_added : place ≡ length ws → ws' ≡ ws ++ i ∷ [] → (k : Key) → new k ≡ place_of ws' k
  place_added last longer k =
      more k ∙ rw (at_item k, placed k, last) (sym (place_last ws i k (no_place ws (item_key i) absent)))
      ∙ ap (λ us. place_of us k) (sym longer)

  -- without that place it has those of the write set as it was
  pub place_back : (back : Key → Option ℕ) → ((k : Key) → back k ≡ cond (is_at (key_cmp key) k) None (new k))
      → ws' ≡ ws → (k : Key) → back k ≡ place_of ws' k
  place_back back less same k =
      less k ∙ rw (more k, at_item k, placed k) (by_test (cases_Bool (same_key (item_key i) k)))
      ∙ ap (λ us. place_of us k) (sym same)
    where
      by_test : (same_key (item_key i) k ≡ true) ⊎ (same_key (item_key i) k ≡ false)
          → cond (same_key (item_key i) k) None (cond (same_key (item_key i) k) (Some place) (place_of ws k))
          ≡ place_of ws k
      by_test (inl here) = rw here (sym (no_place ws (item_key i) absent)
          ∙ ap (place_of ws) (same_key_says (item_key i) k here))
      by_test (inr other) = rw other refl

-- a set of listed keys without one more key is as it was
pub listed_back : (keys keys' : List Key) (key : Key) (old new back : Key → Bool)
    → ((k : Key) → old k ≡ has_key keys k) → has_key keys key ≡ false
    → ((k : Key) → new k ≡ cond (is_at (key_cmp key) k) true (old k))
    → ((k : Key) → back k ≡ cond (is_at (key_cmp key) k) false (new k)) → keys' ≡ keys → (k : Key)
    → back k ≡ has_key keys' k
listed_back keys keys' key old new back listed absent more less same k =
    less k ∙ rw (more k, is_at_key key k, listed k) (by_test (cases_Bool (same_key key k)))
    ∙ ap (λ ks. has_key ks k) (sym same)
  where
    by_test : (same_key key k ≡ true) ⊎ (same_key key k ≡ false)
        → cond (same_key key k) false (cond (same_key key k) true (has_key keys k)) ≡ has_key keys k
    by_test (inl here) = rw here (sym absent ∙ ap (has_key keys) (same_key_says key k here))
    by_test (inr other) = rw other refl

-- ---- what a result tells

pub ok_told : {T E P : Type 0} (r : Result T E) → is_err r ≡ false → OnOk r P → P
ok_told (Ok x) ok told = told
ok_told (Err e) ok told = absurd (false≢true (sym ok))

pub err_told : {T E P : Type 0} (r : Result T E) → is_err r ≡ true → OnErr r P → P
err_told (Ok x) err told = absurd (false≢true err)
err_told (Err e) err told = told
