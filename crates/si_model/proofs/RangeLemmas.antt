-- The present rows of a range, by a rising list of keys that has each of them.
use Rattle.std.proofs.Common.{◌≡◌, ℕ, zero, suc, ◌+◌, ◌-◌, ◌<◌, ◌≤◌, Bool, true, false, inl, inr, List, [], ◌∷◌, ◌++◌}
use Rattle.std.proofs.Common.{refl, ap, sym, ◌∙◌, subst, arith, Option, Some, None}
use Rattle.std.specs.Prelude.{◌&&◌, ◌||◌, nat_le, is_some}
use Rattle.std.specs.List.{AllByRecursion, flat_map, list_any}
use Rattle.std.specs.List.Sorted.{IsStrictlySortedBy}
use Rattle.std.specs.Ordering.{nat_cmp}
use Rattle.std.specs.BTreeMap.{is_at}
use Rattle.std.specs.declared.cmp.Ordering.TheVariants.{Less}
use Rattle.std.proofs.lemmas.Bool.{false≢true, cases_lt, cases_Bool}
use Rattle.std.proofs.lemmas.Bool.Decides.{nat_tests}
use Rattle.std.proofs.lemmas.Map.Keys.{sorted_head, sorted_tail}
use Rattle.si_model.specs.declared.row.Key.{Key}
use Rattle.si_model.specs.declared.row.Item.{Item}
use Rattle.si_model.specs.Rows.{Rows, key_at, overlay, writes_key, present, items_from, items_between}

-- the items of those of the keys that hold a row
abbrev pub items_at : Rows → ℕ → List ℕ → List Item
items_at copy table keys = flat_map (λ key. present (key_at table key) (copy (key_at table key))) keys

-- is the key in the list
abbrev has_key : List ℕ → ℕ → Bool
has_key keys key = list_any (is_at (nat_cmp key)) keys

-- the keys rise from `low` on, and stay below the end
abbrev RiseFrom : ℕ → ℕ → List ℕ → Type 0
RiseFrom low end [] = Unit {0}
RiseFrom low end (k ∷ ks) = (low ≤ k) × (k < end) × RiseFrom (k + 1) end ks

-- each key of the range that holds a row is in the list
abbrev HasPresent : Rows → ℕ → ℕ → ℕ → List ℕ → Type 0
HasPresent copy table low end keys = (key : ℕ) → low ≤ key → key < end → is_some (copy (key_at table key)) ≡ true
    → has_key keys key ≡ true

none_below : (low end key : ℕ) (keys : List ℕ) → key < low → RiseFrom low end keys → has_key keys key ≡ false
none_below low end key [] below rise = refl
none_below low end key (k ∷ ks) below rise = let first = rise.0 in let rest =
    none_below (k + 1) end key ks (omega arith) rise.2 in grind (arith, nat_tests)

present_none : (key : Key) (v : Option (List ℕ)) → is_some v ≡ false → present key v ≡ []
present_none key None none = refl
present_none key (Some v) none = absurd (false≢true (sym none))

step : (copy : Rows) (table low n : ℕ) → items_from copy table low (suc n)
    ≡ present (key_at table low) (copy (key_at table low)) ++ items_from copy table (low + 1) n
unfolding items_from
step copy table low n = refl

none : (copy : Rows) (table low : ℕ) → items_from copy table low zero ≡ []
unfolding items_from
none copy table low = refl

-- where the first key of the range isn't in the list, nothing stands at it
absent : (copy : Rows) (table low end : ℕ) (keys : List ℕ) → low < end → has_key keys low ≡ false
    → HasPresent copy table low end keys → present (key_at table low) (copy (key_at table low)) ≡ []
absent copy table low end keys within out has =
    present_none (key_at table low) (copy (key_at table low)) (elim (cases_Bool (is_some (copy (key_at table low)))) [
      | inl e ↦ absurd (false≢true (sym out ∙ has low (omega arith) within e))
      | inr e ↦ e
    ])

-- a rising list that has each present key of the range gives the items of the range
listing : (copy : Rows) (table end n low : ℕ) (keys : List ℕ) → low + n ≡ end → RiseFrom low end keys
    → HasPresent copy table low end keys → items_at copy table keys ≡ items_from copy table low n
listing copy table end zero low [] ends rise has = sym (none copy table low)
listing copy table end zero low (k ∷ ks) ends rise has = absurd (omega (arith, rise.0, rise.1))
listing copy table end (suc n) low [] ends rise has =
    let rest = listing copy table end n (low + 1) [] (omega arith) tt
    (λ key from below some. has key (omega arith) below some) in
    rest ∙ sym (step copy table low n ∙ rw (absent copy table low end [] (omega arith) refl has) refl)
listing copy table end (suc n) low (k ∷ ks) ends rise has =
    elim (cases_lt low k) [
      | inl later ↦
          let rise_on : RiseFrom (low + 1) end (k ∷ ks) = (omega arith, rise.1, rise.2) in
          let rest = listing copy table end n (low + 1) (k ∷ ks) (omega arith) rise_on
          (λ key from below some. has key (omega arith) below some) in
          let out = none_below (low + 1) end low (k ∷ ks) (omega arith) rise_on in
          rest ∙ sym (step copy table low n ∙ rw (absent copy table low end (k ∷ ks) (omega arith) out has) refl)
      | inr here ↦
          let same : k ≡ low = omega (arith, rise.0) in
          let rise_on : RiseFrom (low + 1) end ks = subst (λ z. RiseFrom (z + 1) end ks) same rise.2 in
          let rest = listing copy table end n (low + 1) ks (omega arith) rise_on (λ key from below some.
          let all = has key (omega arith) below some in
          grind (arith, nat_tests)) in
          subst (λ z. items_at copy table (z ∷ ks) ≡ items_from copy table low (suc n)) (sym same)
          (ap (λ is. present (key_at table low) (copy (key_at table low)) ++ is) rest ∙ sym (step copy table low n))
    ]

rises : (low end : ℕ) (keys : List ℕ) → IsStrictlySortedBy nat_cmp keys
    → AllByRecursion (λ key. (low ≤ key) × (key < end)) keys → RiseFrom low end keys
rises low end [] sorted within = tt
rises low end (k ∷ ks) sorted within = (
  within.0.0,
  within.0.1,
  rises (k + 1) end ks (sorted_tail nat_cmp k ks sorted)
      (later k ks (sorted_head nat_cmp k ks sorted) within.1),
)
  where
    later : (k : ℕ) (ks : List ℕ) → AllByRecursion (λ y. nat_cmp k y ≡ Less) ks
        → AllByRecursion (λ key. (low ≤ key) × (key < end)) ks → AllByRecursion (λ key. (k + 1 ≤ key) × (key < end)) ks
    later k [] less within = tt
    later k (y ∷ ys) less within =
        ((let l = less.0 in grind (arith, nat_tests), within.0.1), later k ys less.1 within.1)

each_listed : (P : ℕ → Type 0) (keys : List ℕ) → ((key : ℕ) → has_key keys key ≡ true → P key) → AllByRecursion P keys
each_listed P [] f = tt
each_listed P (k ∷ ks) f =
    (f k (grind (arith, nat_tests)), each_listed P ks (λ key in_rest. f key (grind (arith, nat_tests))))

-- what holds a row under a write set has a row or is written
row_or_write : (ws : List Item) (rows : Rows) (key : Key) → is_some (overlay ws rows key) ≡ true
    → (is_some (rows key) || writes_key ws key) ≡ true
row_or_write [] rows key some = grind (arith, nat_tests)
row_or_write (w ∷ ws) rows key some = let rest = row_or_write ws rows key in grind (arith, nat_tests)

-- the keys of the range that have a row or are written, in order, give the items of the range
pub items_between-by_keys : (rows : Rows) (ws : List Item) (table low high : ℕ) (keys : List ℕ)
    → IsStrictlySortedBy nat_cmp keys
    → ((key : ℕ) → has_key keys key ≡ nat_le low key && nat_le key high
    && (is_some (rows (key_at table key)) || writes_key ws (key_at table key)))
    → items_at (overlay ws rows) table keys ≡ items_between (overlay ws rows) table low high
items_between-by_keys rows ws table low high keys sorted has =
    let within : AllByRecursion (λ key. (low ≤ key) × (key < low + (high + 1 - low))) keys =
    each_listed (λ key. (low ≤ key) × (key < low + (high + 1 - low))) keys (λ key listed. let e = has key in
    (grind (arith, nat_tests), grind (arith, nat_tests))) in
    listing (overlay ws rows) table (low + (high + 1 - low)) (high + 1 - low) low keys refl
    (rises low (low + (high + 1 - low)) keys sorted within)
    (λ key from below some. let e = has key in let there = row_or_write ws rows (key_at table key) some in
    grind (arith, nat_tests))
