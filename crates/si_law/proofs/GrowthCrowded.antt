-- A key that is crowded stays so when more is asked for.
use Rattle.std.proofs.Common.{◌≡◌, ◌≢◌, ℕ, ◌≤◌, Bool, true, false, not, ◌⊎◌, inl, inr, List, [], ◌∷◌, ◌++◌, length}
use Rattle.std.proofs.Common.{refl, ap, sym, ◌∙◌, subst, arith, Option, Some, None}
use Rattle.std.specs.Prelude.{IsTrue, ◌&&◌, ◌==◌, nat_le, filter, map}
use Rattle.std.specs.List.{IsDistinct}
use Rattle.std.proofs.lemmas.Bool.{cond_both, false≢true}
use Rattle.std.proofs.lemmas.Bool.Decides.{nat_tests}
use Rattle.std.proofs.lemmas.List.{length-append}
use Rattle.std.proofs.lemmas.Map.Keys.{IsDistinct-head, IsDistinct-tail}
use Rattle.si_model.specs.declared.row.Key.{Key}
use Rattle.si_model.specs.declared.op.Op.{Op}
use Rattle.si_model.specs.declared.op.Op.TheVariants.{Get}
use Rattle.si_model.specs.Lists.{Listed, Pairwise}
use Rattle.si_model.specs.Rows.{row_key, same_key}
use Rattle.si_model.specs.Evaluation.{with_guard, keys_from, key_claimed}
use Rattle.si_model.specs.Setting.{Setting, Asked, distinct_from, claimed_keys, is_crowded}
use Rattle.si_model.proofs.ListLemmas.{All-listed, All-from_listed, listed_append_cases, listed_append_left}
use Rattle.si_model.proofs.ListLemmas.{listed_append_right, listed_filter, filter_listed, Pairwise-filter}
use Rattle.si_model.proofs.EvaluationLemmas.{same_key-refl, same_key_says, distinct-keys_from}
use Rattle.si_law.specs.Views.{AsksMore}

-- ---- lists whose elements differ

split_listed : {X : Type 0} (x : X) (ys : List X) → Listed x ys → (front : List X) × (back : List X)
    × (ys ≡ front ++ x ∷ back)
split_listed x [] l = elim l [ ]
split_listed x (y ∷ ys) l = elim l [
  | inl e ↦ ([], ys, ap (λ z. z ∷ ys) e)
  | inr r ↦ let s = split_listed x ys r in (y ∷ s.0, s.1, ap (λ zs. y ∷ zs) s.2)
]

-- elements that differ and stand in another list are at most as many as it has
pub length-le_from_listed : {X : Type 0} (xs ys : List X) → Pairwise (λ a b. a ≢ b) xs
    → ((x : X) → Listed x xs → Listed x ys) → length xs ≤ length ys
length-le_from_listed [] ys apart within = omega arith
length-le_from_listed (x ∷ xs) ys apart within =
    let s = split_listed x ys (within x (inl refl)) in
    let rest = length-le_from_listed xs (s.0 ++ s.1) apart.1 (λ y l.
    elim (listed_append_cases s.0 (x ∷ s.1) y (subst (Listed y) s.2 (within y (inr l)))) [
      | inl a ↦ listed_append_left s.0 s.1 y a
      | inr a ↦ elim a [
        | inl e ↦ absurd (All-listed (λ b. x ≢ b) xs y apart.0 l e)
        | inr b ↦ listed_append_right s.0 s.1 y b
      ]
    ]) in
    omega (arith, rest, ap length s.2, length-append s.0 s.1, length-append s.0 (x ∷ s.1))

pairwise_from_distinct : (keys : List Key) → IsDistinct same_key keys → Pairwise (λ a b. a ≢ b) keys
pairwise_from_distinct [] h = tt
pairwise_from_distinct (k ∷ keys) h = (
  All-from_listed (λ q. k ≢ q) keys (λ q l e.
      false≢true (sym (All-listed (λ y. same_key k y ≡ false) keys q (IsDistinct-head same_key k keys h) l)
      ∙ ap (same_key k) (sym e) ∙ same_key-refl k)),
  pairwise_from_distinct keys (IsDistinct-tail same_key k keys h),
)

-- ---- keys that operations claim

distinct-guarded : (ks : List Key) (key : Key) → IsDistinct same_key ks → IsDistinct same_key (with_guard ks key)
distinct-guarded ks key h = distinct-keys_from (λ op. Some key) ks (Get 0 0 ∷ []) h

distinct-distinct_from : (ks keys : List Key) → IsDistinct same_key ks → IsDistinct same_key (distinct_from ks keys)
distinct-distinct_from ks [] h = h
distinct-distinct_from ks (key ∷ keys) h = distinct-distinct_from (with_guard ks key) keys (distinct-guarded ks key h)

none_yet : IsDistinct same_key []
unfolding IsDistinct
none_yet = tt

distinct-claimed : (s : Setting) (asked : Asked) → IsDistinct same_key (claimed_keys s asked)
distinct-claimed s asked =
    distinct-keys_from key_claimed (distinct_from [] (map row_key s.rows)) asked.ops
    (distinct-distinct_from [] (map row_key s.rows) none_yet)

listed_guarded : (x key : Key) (ks : List Key) → Listed x ks → Listed x (with_guard ks key)
listed_guarded x key [] l = elim l [ ]
listed_guarded x key (k ∷ ks) l =
    cond_both (same_key k key) (k ∷ ks) (k ∷ with_guard ks key) (Listed x)
    (λ same. l)
    (λ other. elim l [ inl e ↦ inl e | inr r ↦ inr (listed_guarded x key ks r) ])

guarded_adds : (key : Key) (ks : List Key) → Listed key (with_guard ks key)
guarded_adds key [] = inl refl
guarded_adds key (k ∷ ks) =
    cond_both (same_key k key) (k ∷ ks) (k ∷ with_guard ks key) (Listed key)
    (λ same. inl (same_key_says k key same))
    (λ other. inr (guarded_adds key ks))

guarded_cases : (x key : Key) (ks : List Key) → Listed x (with_guard ks key) → Listed x ks ⊎ (x ≡ key)
guarded_cases x key [] l = elim l [ inl e ↦ inr (sym e) | inr r ↦ elim r [ ] ]
guarded_cases x key (k ∷ ks) l =
    cond_both (same_key k key) (k ∷ ks) (k ∷ with_guard ks key) (λ qs. Listed x qs → Listed x (k ∷ ks) ⊎ (x ≡ key))
    (λ same m. inl m)
    (λ other m. elim m [
      | inl e ↦ inl (inl e)
      | inr r ↦ elim (guarded_cases x key ks r) [ inl a ↦ inl (inr a) | inr e ↦ inr e ]
    ]) l

abbrev with_claim : List Key → Option Key → List Key
with_claim ks claimed = elim claimed [ None ↦ ks | Some key ↦ with_guard ks key ]

listed_with : (x : Key) (ks : List Key) (claimed : Option Key) → Listed x ks → Listed x (with_claim ks claimed)
listed_with x ks None l = l
listed_with x ks (Some key) l = listed_guarded x key ks l

with_adds : (x : Key) (ks : List Key) (claimed : Option Key) → claimed ≡ Some x → Listed x (with_claim ks claimed)
with_adds x ks claimed e = subst (λ c. Listed x (with_claim ks c)) (sym e) (guarded_adds x ks)

with_cases : (x : Key) (ks : List Key) (claimed : Option Key) → Listed x (with_claim ks claimed) → Listed x ks
    ⊎ (claimed ≡ Some x)
with_cases x ks None l = inl l
with_cases x ks (Some key) l = elim (guarded_cases x key ks l) [ inl a ↦ inl a | inr e ↦ inr (ap Some (sym e)) ]

listed_keys_from : (named : Op → Option Key) (x : Key) (ks : List Key) (ops : List Op) → Listed x ks
    → Listed x (keys_from named ks ops)
listed_keys_from named x ks [] l = l
listed_keys_from named x ks (op ∷ ops) l =
    listed_keys_from named x (with_claim ks (named op)) ops (listed_with x ks (named op) l)

named_keys_from : (named : Op → Option Key) (x : Key) (ks : List Key) (ops : List Op) (op : Op) → Listed op ops
    → named op ≡ Some x →
    Listed x (keys_from named ks ops)
named_keys_from named x ks [] op l e = elim l [ ]
named_keys_from named x ks (o ∷ ops) op l e = elim l [
  | inl q ↦ listed_keys_from named x (with_claim ks (named o)) ops (with_adds x ks (named o) (ap named q ∙ e))
  | inr r ↦ named_keys_from named x (with_claim ks (named o)) ops op r e
]

keys_from_cases : (named : Op → Option Key) (x : Key) (ks : List Key) (ops : List Op)
    → Listed x (keys_from named ks ops) →
    Listed x ks ⊎ ((op : Op) × Listed op ops × (named op ≡ Some x))
keys_from_cases named x ks [] l = inl l
keys_from_cases named x ks (o ∷ ops) l = elim (keys_from_cases named x (with_claim ks (named o)) ops l) [
  | inl a ↦ elim (with_cases x ks (named o) a) [ inl b ↦ inl b | inr e ↦ inr (o, inl refl, e) ]
  | inr (op, m, e) ↦ inr (op, inr m, e)
]

module _ (s : Setting) (asked more : Asked) (asks : AsksMore asked more) where
  claimed_stay : (x : Key) → Listed x (claimed_keys s asked) → Listed x (claimed_keys s more)
  claimed_stay x l =
      let loaded = distinct_from [] (map row_key s.rows) in
      elim (keys_from_cases key_claimed x loaded asked.ops l) [
        | inl a ↦ listed_keys_from key_claimed x loaded more.ops a
        | inr (op, m, e) ↦ named_keys_from key_claimed x loaded more.ops op (asks.ops op m) e
      ]

  -- a filter of the claimed keys has no fewer of them
  claims_grow : (p : Key → Bool) → length (filter p (claimed_keys s asked)) ≤ length (filter p (claimed_keys s more))
  claims_grow p =
      length-le_from_listed (filter p (claimed_keys s asked)) (filter p (claimed_keys s more))
      (Pairwise-filter (λ a b. a ≢ b) p (claimed_keys s asked)
      (pairwise_from_distinct (claimed_keys s asked) (distinct-claimed s asked)))
      (λ x l. let h = filter_listed p (claimed_keys s asked) x l in
      listed_filter p (claimed_keys s more) x (claimed_stay x h.0) h.1)

  pub crowded_stays : (key : Key) → IsTrue (is_crowded s asked key) → IsTrue (is_crowded s more key)
  crowded_stays key h =
      let grow = claims_grow (λ q. (q.table == key.table) && not (same_key q key)) in
      reaches _ _ _ grow h
    where
      reaches : (least few many : ℕ) → few ≤ many → nat_le least few ≡ true → nat_le least many ≡ true
      reaches least few many le h = grind (arith, nat_tests)
