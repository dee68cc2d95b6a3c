-- Lists: members, filters and pairs in order.
use Rattle.std.proofs.Common.{◌≡◌, ℕ, zero, suc, ◌+◌, ◌<◌, Bool, true, false, cond, ◌⊎◌, inl, inr, List, [], ◌∷◌, ◌++◌}
use Rattle.std.proofs.Common.{length, get_or, take, drop, refl, ap, sym, ◌∙◌, subst, arith}
use Rattle.std.specs.Prelude.{filter, IsPermutation, Contains, map}
use Rattle.std.specs.List.{AllByRecursion, list_any}
use Rattle.std.proofs.lemmas.Bool.{cond_both, false≢true, cases_Bool, false_from_ne_true}
use Rattle.std.proofs.lemmas.List.Sums.{length-filter}
use Rattle.std.proofs.lemmas.List.Sorted.{sum_by-IsPermutation, Contains-permutation}
use Rattle.si_model.specs.Lists.{Listed, Pairwise}

pub All-listed : {X : Type 0} (P : X → Type 0) (xs : List X) (x : X) → AllByRecursion P xs → Listed x xs → P x
All-listed P [] x h l = elim l [ ]
All-listed P (y ∷ ys) x h l = elim l [ inl e ↦ subst P e h.0 | inr r ↦ All-listed P ys x h.1 r ]

pub All-from_listed : {X : Type 0} (P : X → Type 0) (xs : List X) → ((x : X) → Listed x xs → P x) → AllByRecursion P xs
All-from_listed P [] f = tt
All-from_listed P (y ∷ ys) f = (f y (inl refl), All-from_listed P ys (λ x l. f x (inr l)))

pub contains_listed : {X : Type 0} (xs : List X) (x : X) → Listed x xs → Contains xs x
contains_listed [] x l = elim l [ ]
contains_listed (y ∷ ys) x l = elim l [
  | inl e ↦ (0, omega arith, e)
  | inr r ↦ let c = contains_listed ys x r in
      (suc c.0, omega (arith, c.1), c.2)
]

pub listed_contains : {X : Type 0} (xs : List X) (x : X) → Contains xs x → Listed x xs
listed_contains xs x c = from_place xs x c.0 c.1 c.2
  where
    from_place : {X : Type 0} (xs : List X) (x : X) (k : ℕ) → k < length xs → get_or xs k x ≡ x → Listed x xs
    from_place [] x k h e = absurd (omega arith)
    from_place (y ∷ ys) x zero h e = inl e
    from_place (y ∷ ys) x (suc k) h e = inr (from_place ys x k (omega arith) e)

pub listed_permutation : {X : Type 0} (xs ys : List X) (x : X) → IsPermutation xs ys → Listed x xs → Listed x ys
listed_permutation xs ys x h l = listed_contains ys x (Contains-permutation xs ys x h (contains_listed xs x l))

pub listed_append_left : {X : Type 0} (xs ys : List X) (x : X) → Listed x xs → Listed x (xs ++ ys)
listed_append_left [] ys x l = elim l [ ]
listed_append_left (y ∷ xs) ys x l = elim l [ inl e ↦ inl e | inr r ↦ inr (listed_append_left xs ys x r) ]

pub listed_append_right : {X : Type 0} (xs ys : List X) (x : X) → Listed x ys → Listed x (xs ++ ys)
listed_append_right [] ys x l = l
listed_append_right (y ∷ xs) ys x l = inr (listed_append_right xs ys x l)

pub listed_append_cases : {X : Type 0} (xs ys : List X) (x : X) → Listed x (xs ++ ys) → Listed x xs ⊎ Listed x ys
listed_append_cases [] ys x l = inr l
listed_append_cases (y ∷ xs) ys x l =
    elim l [
      | inl e ↦ inl (inl e)
      | inr r ↦ elim (listed_append_cases xs ys x r) [
        | inl a ↦ inl (inr a)
        | inr b ↦ inr b
      ]
    ]

pub listed_filter : {X : Type 0} (p : X → Bool) (xs : List X) (x : X) → Listed x xs → p x ≡ true
    → Listed x (filter p xs)
listed_filter p [] x l h = elim l [ ]
listed_filter p (y ∷ ys) x l h =
    cond_both (p y) (y ∷ filter p ys) (filter p ys) (λ zs. Listed x zs)
    (λ e. elim l [ inl q ↦ inl q | inr r ↦ inr (listed_filter p ys x r h) ])
    (λ e. elim l [ inl q ↦ absurd (false≢true (sym e ∙ ap p q ∙ h)) | inr r ↦ listed_filter p ys x r h ])

pub filter_listed : {X : Type 0} (p : X → Bool) (xs : List X) (x : X) → Listed x (filter p xs) → Listed x xs
    × (p x ≡ true)
filter_listed p [] x l = elim l [ ]
filter_listed p (y ∷ ys) x l =
    elim (cases_Bool (p y)) [
      | inl e ↦ elim (rw e at l) [
        | inl q ↦ (inl q, sym (ap p q) ∙ e)
        | inr r ↦ let h = filter_listed p ys x r in
            (inr h.0, h.1)
      ]
      | inr e ↦ let h = filter_listed p ys x (rw e at l) in (inr h.0, h.1)
    ]

pub length_filter_permutation : {X : Type 0} (p : X → Bool) (xs ys : List X) → IsPermutation xs ys
    → length (filter p xs) ≡ length (filter p ys)
length_filter_permutation p xs ys h = length-filter p xs ∙ sym (sum_by-IsPermutation (λ x. cond (p x) 1 0) xs ys h)
    ∙ sym (length-filter p ys)

pub Pairwise-weaker : {X : Type 0} (G : X → Type 0) (R S : X → X → Type 0) → ((x y : X) → G x → G y → R x y → S x y)
    → (xs : List X) → ((z : X) → Listed z xs → G z) → Pairwise R xs → Pairwise S xs
Pairwise-weaker G R S f [] g h = tt
Pairwise-weaker G R S f (x ∷ xs) g h = (
  All-from_listed (S x) xs (λ y l. f x y (g x (inl refl)) (g y (inr l)) (All-listed (R x) xs y h.0 l)),
  Pairwise-weaker G R S f xs (λ z l. g z (inr l)) h.1,
)

none_passes : {X : Type 0} (p : X → Bool) (xs : List X) → AllByRecursion (λ x. p x ≡ true → ⊥) xs → filter p xs ≡ []
none_passes p [] h = refl
none_passes p (x ∷ xs) h = rw (false_from_ne_true (p x) h.0) (none_passes p xs h.1)

-- what passes a test that is closed downwards stands at the front
pub filter_front : {X : Type 0} (p : X → Bool) (xs : List X) → Pairwise (λ x y. p y ≡ true → p x ≡ true) xs
    → filter p xs ≡ take (length (filter p xs)) xs
filter_front p [] h = refl
filter_front p (x ∷ xs) h =
    elim (cases_Bool (p x)) [
      | inl e ↦ rw e (ap (λ zs. x ∷ zs) (filter_front p xs h.1))
      | inr e ↦
          let none = none_passes p xs (All-from_listed (λ y. p y ≡ true → ⊥) xs
          (λ y l q. false≢true (sym e ∙ All-listed (λ y. p y ≡ true → p x ≡ true) xs y h.0 l q))) in
          rw (e, none) refl
    ]

-- and the rest is what fails it
pub filter_rest : {X : Type 0} (p : X → Bool) (xs : List X) → Pairwise (λ x y. p y ≡ true → p x ≡ true) xs → (y : X)
    → Listed y (drop (length (filter p xs)) xs) → p y ≡ false
filter_rest p [] h y l = elim l [ ]
filter_rest p (x ∷ xs) h y l =
    elim (cases_Bool (p x)) [
      | inl e ↦ filter_rest p xs h.1 y (rw e at l)
      | inr e ↦
          let none = none_passes p xs (All-from_listed (λ y. p y ≡ true → ⊥) xs
          (λ y l q. false≢true (sym e ∙ All-listed (λ y. p y ≡ true → p x ≡ true) xs y h.0 l q))) in
          elim (rw (e, none) at l) [
            | inl q ↦ sym (ap p q) ∙ e
            | inr r ↦ false_from_ne_true (p y) (λ t.
                false≢true (sym e ∙ All-listed (λ y. p y ≡ true → p x ≡ true) xs y h.0 r t))
          ]
    ]

pub filter-all : {X : Type 0} (p : X → Bool) (xs : List X) → AllByRecursion (λ x. p x ≡ true) xs → filter p xs ≡ xs
filter-all p [] h = refl
filter-all p (x ∷ xs) h = rw h.0 (ap (λ zs. x ∷ zs) (filter-all p xs h.1))

pub filter-none : {X : Type 0} (p : X → Bool) (xs : List X) → AllByRecursion (λ x. p x ≡ false) xs → filter p xs ≡ []
filter-none p [] h = refl
filter-none p (x ∷ xs) h = rw h.0 (filter-none p xs h.1)

pub Pairwise-filter : {X : Type 0} (R : X → X → Type 0) (p : X → Bool) (xs : List X) → Pairwise R xs
    → Pairwise R (filter p xs)
Pairwise-filter R p [] h = tt
Pairwise-filter R p (x ∷ xs) h =
    cond_both (p x) (x ∷ filter p xs) (filter p xs) (Pairwise R)
    (λ _. (
      All-from_listed (R x) (filter p xs) (λ y l. All-listed (R x) xs y h.0 (filter_listed p xs y l).0),
      Pairwise-filter R p xs h.1,
    ))
    (λ _. Pairwise-filter R p xs h.1)

-- what stands before an element is in R with it
pub Pairwise-before : {X : Type 0} (R : X → X → Type 0) (xs : List X) (c : X) (ys : List X) → Pairwise R (xs ++ c ∷ ys)
    → (x : X) → Listed x xs → R x c
Pairwise-before R [] c ys h x l = elim l [ ]
Pairwise-before R (y ∷ xs) c ys h x l = elim l [
  | inl q ↦ subst (λ z. R z c) q (All-listed (R y) (xs ++ c ∷ ys) c h.0 (listed_append_right xs (c ∷ ys) c (inl refl)))
  | inr r ↦ Pairwise-before R xs c ys h.1 x r
]

pub Pairwise-both : {X : Type 0} (R S : X → X → Type 0) (xs : List X) → Pairwise R xs → Pairwise S xs
    → Pairwise (λ x y. R x y × S x y) xs
Pairwise-both R S [] h k = tt
Pairwise-both R S (x ∷ xs) h k = (
  All-from_listed (λ y. R x y × S x y) xs (λ y l. (All-listed (R x) xs y h.0 l, All-listed (S x) xs y k.0 l)),
  Pairwise-both R S xs h.1 k.1,
)

pub All-map : {X Y : Type 0} (f : X → Y) (P : Y → Type 0) (xs : List X) → AllByRecursion (λ x. P (f x)) xs
    → AllByRecursion P (map f xs)
All-map f P [] h = tt
All-map f P (x ∷ xs) h = (h.0, All-map f P xs h.1)

pub All-unmap : {X Y : Type 0} (f : X → Y) (P : Y → Type 0) (xs : List X) → AllByRecursion P (map f xs)
    → AllByRecursion (λ x. P (f x)) xs
All-unmap f P [] h = tt
All-unmap f P (x ∷ xs) h = (h.0, All-unmap f P xs h.1)

pub Pairwise-map : {X Y : Type 0} (f : X → Y) (R : Y → Y → Type 0) (xs : List X) → Pairwise (λ x y. R (f x) (f y)) xs
    → Pairwise R (map f xs)
Pairwise-map f R [] h = tt
Pairwise-map f R (x ∷ xs) h = (All-map f (R (f x)) xs h.0, Pairwise-map f R xs h.1)

pub Pairwise-unmap : {X Y : Type 0} (f : X → Y) (R : Y → Y → Type 0) (xs : List X) → Pairwise R (map f xs)
    → Pairwise (λ x y. R (f x) (f y)) xs
Pairwise-unmap f R [] h = tt
Pairwise-unmap f R (x ∷ xs) h = (All-unmap f (R (f x)) xs h.0, Pairwise-unmap f R xs h.1)

pub All-append : {X : Type 0} (P : X → Type 0) (xs ys : List X) → AllByRecursion P xs → AllByRecursion P ys
    → AllByRecursion P (xs ++ ys)
All-append P [] ys h k = k
All-append P (x ∷ xs) ys h k = (h.0, All-append P xs ys h.1 k)

pub listed_map : {X Y : Type 0} (f : X → Y) (xs : List X) (x : X) → Listed x xs → Listed (f x) (map f xs)
listed_map f [] x l = elim l [ ]
listed_map f (y ∷ xs) x l = elim l [ inl e ↦ inl (ap f e) | inr r ↦ inr (listed_map f xs x r) ]

pub map_listed : {X Y : Type 0} (f : X → Y) (xs : List X) (y : Y) → Listed y (map f xs) → (x : X) × Listed x xs
    × (f x ≡ y)
map_listed f [] y l = elim l [ ]
map_listed f (x ∷ xs) y l = elim l [
  | inl e ↦ (x, inl refl, e)
  | inr r ↦ let h = map_listed f xs y r in
      (h.0, inr h.1, h.2)
]

-- a test of which one element passes, and one that passes
pub any_listed : {X : Type 0} (p : X → Bool) (xs : List X) → list_any p xs ≡ true → (x : X) × Listed x xs × (p x ≡ true)
any_listed p [] h = absurd (false≢true h)
any_listed p (x ∷ xs) h = elim (cases_Bool (p x)) [
  | inl e ↦ (x, inl refl, e)
  | inr e ↦ let r = any_listed p xs (rw e at h) in (r.0, inr r.1, r.2)
]

pub listed_any : {X : Type 0} (p : X → Bool) (xs : List X) (x : X) → Listed x xs → p x ≡ true → list_any p xs ≡ true
listed_any p [] x l h = elim l [ ]
listed_any p (y ∷ xs) x l h = elim (cases_Bool (p y)) [
  | inl e ↦ rw e refl
  | inr e ↦ elim l [ inl q ↦ absurd (false≢true (sym e ∙ ap p q ∙ h)) | inr r ↦ rw e (listed_any p xs x r h) ]
]

-- neighbours in order make all pairs in order, where the order is transitive
pub Pairwise-from_near : {X : Type 0} (R : X → X → Type 0) → ((x y z : X) → R x y → R y z → R x z) → (xs : List X)
    → ((k : ℕ) (d : X) → k + 1 < length xs → R (get_or xs k d) (get_or xs (k + 1) d)) → Pairwise R xs
Pairwise-from_near R t [] h = tt
Pairwise-from_near R t (x ∷ []) h = (tt, tt)
Pairwise-from_near R t (x ∷ y ∷ ys) h =
    let rest : Pairwise R (y ∷ ys) =
    Pairwise-from_near R t (y ∷ ys) (λ k d lt. let e : suc k + 1 ≡ suc (k + 1) = omega arith in
    subst (λ n. R (get_or (y ∷ ys) k d) (get_or (x ∷ y ∷ ys) n d)) e (h (suc k) d (omega arith))) in
    let here : R x y = h 0 x (omega arith) in
    ((here, All-from_listed (R x) ys (λ z l. t x y z here (All-listed (R y) ys z rest.0 l))), rest)
