-- Rows of rising positions that are sorted by key and position are those inserted one after another.
use Rattle.std.proofs.Common.{◌≡◌, ◌≢◌, ℕ, zero, suc, ◌+◌, ◌<◌, ◌≤◌, ◌==◌, false, if◌then◌else◌, List, [], ◌∷◌}
use Rattle.std.proofs.Common.{length, get_or}
use Rattle.std.proofs.Common.{Contains, sum_by, nat_cmp, is_lt, refl, sym, ap, ◌∙◌, arith, ◌⊎◌, inl, inr, subst}
use Rattle.std.proofs.Common.{suc-le-suc, zero-le}
use Rattle.std.specs.declared.cmp.Ordering.TheVariants.{Less, Equal, Greater}
use Rattle.std.specs.declared.cmp.Ordering.{Ordering}
use Rattle.std.specs.Ordering.{ordering_then}
use Rattle.std.proofs.lemmas.Bool.{cases_lt}
use Rattle.std.proofs.lemmas.Bool.Decides.{nat_tests}
use Rattle.std.proofs.lemmas.List.Sums.{sum_by-cons}
use Rattle.std.proofs.lemmas.List.Sorted.{sum_by-IsPermutation, Contains-permutation, IsPermutation-sym}
use Rattle.std.specs.List.Sorted.{IsPermutation, IsSortedByKey}
use Rattle.nam_layout.proofs.TestLemmas.{if_less, if_not_less, if_same, if_other}
use Rattle.nam_protocol.specs.declared.client.Scanned.{Scanned}
use Rattle.nam_protocol.specs.ScanCall.{inserted, sorted_onto}
use Rattle.nam_client.specs.Gathered.{RiseWithin}

-- 1. Rows in order: by key, and those of one key by position

abbrev AtMost : Scanned → Scanned → Type 0
AtMost x y = (x.key ≤ y.key) × (x.key ≡ y.key → x.position ≤ y.position)

abbrev Below : Scanned → Scanned → Type 0
Below x y = (x.key ≤ y.key) × (x.key ≡ y.key → x.position < y.position)

below_trans : (x y z : Scanned) → Below x y → Below y z → Below x z
below_trans x y z a b =
    let first = a.0 in let second = b.0 in
    (omega arith, λ e. let f = a.1 (omega arith) in let g = b.1 (omega arith) in omega arith)

at_most_trans : (x y z : Scanned) → AtMost x y → AtMost y z → AtMost x z
at_most_trans x y z a b =
    let first = a.0 in let second = b.0 in
    (omega arith, λ e. let f = a.1 (omega arith) in let g = b.1 (omega arith) in omega arith)

below_clash : (x y : Scanned) → Below x y → Below y x → ⊥
below_clash x y a b =
    let first = a.0 in let second = b.0 in
    let f = a.1 (omega arith) in let g = b.1 (omega arith) in omega arith

abbrev AllAbove : Scanned → List Scanned → Type 0
AllAbove x [] = Unit {0}
AllAbove x (r ∷ rs) = Below x r × AllAbove x rs

abbrev Rises : List Scanned → Type 0
Rises [] = Unit {0}
Rises (r ∷ rs) = AllAbove r rs × Rises rs

above_falls : (x y : Scanned) (rs : List Scanned) → Below x y → AllAbove y rs → AllAbove x rs
above_falls x y [] a h = tt
above_falls x y (r ∷ rs) a h = (below_trans x y r a h.0, above_falls x y rs a h.1)

-- 2. Members

abbrev In : Scanned → List Scanned → Type 0
In x [] = ⊥
In x (r ∷ rs) = (x ≡ r) ⊎ In x rs

above_in : (x y : Scanned) (rs : List Scanned) → AllAbove x rs → In y rs → Below x y
above_in x y [] h i = absurd i
above_in x y (r ∷ rs) h (inl e) = subst (Below x) (sym e) h.0
above_in x y (r ∷ rs) h (inr i) = above_in x y rs h.1 i

in_from_at : (x : Scanned) (rs : List Scanned) (k : ℕ) → k < length rs → get_or rs k x ≡ x → In x rs
in_from_at x [] k less e = absurd (omega arith)
in_from_at x (r ∷ rs) zero less e = inl (sym e)
in_from_at x (r ∷ rs) (suc k) less e = inr (in_from_at x rs k (omega arith) e)

at_from_in : (x : Scanned) (rs : List Scanned) → In x rs → Contains rs x
at_from_in x [] i = absurd i
at_from_in x (r ∷ rs) (inl e) = (zero, suc-le-suc zero-le, sym e)
at_from_in x (r ∷ rs) (inr i) = let c = at_from_in x rs i in (suc c.0, suc-le-suc c.1, c.2)

in_permuted : (rs ss : List Scanned) (x : Scanned) → IsPermutation rs ss → In x rs → In x ss
in_permuted rs ss x p i =
    let c = Contains-permutation rs ss x p (at_from_in x rs i) in in_from_at x ss c.0 c.1 c.2

-- rising lists with the same members are the same
same_rows : (rs ss : List Scanned) → Rises rs → Rises ss → ((x : Scanned) → In x rs → In x ss)
    → ((x : Scanned) → In x ss → In x rs) → rs ≡ ss
same_rows [] [] left right there back = refl
same_rows [] (s ∷ ss) left right there back = absurd (back s (inl refl))
same_rows (r ∷ rs) [] left right there back = absurd (there r (inl refl))
same_rows (r ∷ rs) (s ∷ ss) left right there back =
    let head : r ≡ s = elim (there r (inl refl)) [
      | inl e ↦ e
      | inr i ↦ elim (back s (inl refl)) [
        | inl e ↦ sym e
        | inr j ↦ absurd (below_clash s r (above_in s r ss right.0 i) (above_in r s rs left.0 j))
      ]
    ] in
    let tail = same_rows rs ss left.1 right.1
    (λ x i. elim (there x (inr i)) [
      | inl e ↦
          let up = above_in r x rs left.0 i in
          let low = subst (Below r) (e ∙ sym head) up in absurd (below_clash r r low low)
      | inr j ↦ j
    ])
    (λ x i. elim (back x (inr i)) [
      | inl e ↦
          let up = above_in s x ss right.0 i in
          let low = subst (Below s) (e ∙ head) up in absurd (below_clash s s low low)
      | inr j ↦ j
    ]) in
    ap (λ w. w ∷ rs) head ∙ ap (λ l. s ∷ l) tail

-- 3. Insertion

abbrev AllBefore : ℕ → List Scanned → Type 0
AllBefore n [] = Unit {0}
AllBefore n (r ∷ rs) = (r.position < n) × AllBefore n rs

before_grows : (m n : ℕ) (rs : List Scanned) → m ≤ n → AllBefore m rs → AllBefore n rs
before_grows m n [] le h = tt
before_grows m n (r ∷ rs) le h = let first = h.0 in (omega arith, before_grows m n rs le h.1)

before_inserted : (n : ℕ) (r : Scanned) (rs : List Scanned) → r.position < n → AllBefore n rs
    → AllBefore n (inserted r rs)
before_inserted n r [] less h = (less, tt)
before_inserted n r (s ∷ rs) less h = elim (cases_lt r.key s.key) [
  | inl low ↦ subst (AllBefore n) (sym (if_less r.key s.key _ _ low)) (less, h)
  | inr past ↦
      subst (AllBefore n) (sym (if_not_less r.key s.key _ _ past)) (h.0, before_inserted n r rs less h.1)
]

above_inserted : (x r : Scanned) (rs : List Scanned) → Below x r → AllAbove x rs → AllAbove x (inserted r rs)
above_inserted x r [] b h = (b, tt)
above_inserted x r (s ∷ rs) b h = elim (cases_lt r.key s.key) [
  | inl low ↦ subst (AllAbove x) (sym (if_less r.key s.key _ _ low)) (b, h)
  | inr past ↦
      subst (AllAbove x) (sym (if_not_less r.key s.key _ _ past)) (h.0, above_inserted x r rs b h.1)
]

rises_inserted : (r : Scanned) (rs : List Scanned) → Rises rs → AllBefore r.position rs → Rises (inserted r rs)
rises_inserted r [] h b = (tt, tt)
rises_inserted r (s ∷ rs) h b = elim (cases_lt r.key s.key) [
  | inl low ↦
      let under : Below r s = (omega arith, λ e. absurd (omega arith)) in
      subst Rises (sym (if_less r.key s.key _ _ low)) ((under, above_falls r s rs under h.0), h)
  | inr past ↦
      subst Rises (sym (if_not_less r.key s.key _ _ past))
      (above_inserted s r rs (past, λ e. b.0) h.0, rises_inserted r rs h.1 b.1)
]

rises_sorted : (first last : ℕ) (done rs : List Scanned) → Rises done → AllBefore first done
    → RiseWithin first last rs → Rises (sorted_onto done rs)
rises_sorted first last done [] h b w = h
rises_sorted first last done (r ∷ rs) h b w =
    let here = before_grows first r.position done w.0 b in
    rises_sorted (r.position + 1) last (inserted r done) rs (rises_inserted r done h here)
    (before_inserted (r.position + 1) r done (omega arith)
    (before_grows r.position (r.position + 1) done (omega arith) here)) w.1

in_inserted : (x r : Scanned) (rs : List Scanned) → (x ≡ r) ⊎ In x rs → In x (inserted r rs)
in_inserted x r [] i = i
in_inserted x r (s ∷ rs) i = elim (cases_lt r.key s.key) [
  | inl low ↦ subst (In x) (sym (if_less r.key s.key _ _ low)) i
  | inr past ↦
      subst (In x) (sym (if_not_less r.key s.key _ _ past))
      (elim i [
        | inl e ↦ inr (in_inserted x r rs (inl e))
        | inr j ↦ elim j [
          | inl e ↦ inl e
          | inr k ↦ inr (in_inserted x r rs (inr k))
        ]
      ])
]

from_inserted : (x r : Scanned) (rs : List Scanned) → In x (inserted r rs) → (x ≡ r) ⊎ In x rs
from_inserted x r [] i = i
from_inserted x r (s ∷ rs) i = elim (cases_lt r.key s.key) [
  | inl low ↦ subst (In x) (if_less r.key s.key _ _ low) i
  | inr past ↦
      let j : (x ≡ s) ⊎ In x (inserted r rs) = subst (In x) (if_not_less r.key s.key _ _ past) i in
      elim j [
        | inl e ↦ inr (inl e)
        | inr k ↦ elim (from_inserted x r rs k) [
          | inl e ↦ inl e
          | inr m ↦ inr (inr m)
        ]
      ]
]

in_sorted : (x : Scanned) (done rs : List Scanned) → In x done ⊎ In x rs → In x (sorted_onto done rs)
in_sorted x done [] (inl i) = i
in_sorted x done [] (inr i) = absurd i
in_sorted x done (r ∷ rs) (inl i) = in_sorted x (inserted r done) rs (inl (in_inserted x r done (inr i)))
in_sorted x done (r ∷ rs) (inr (inl e)) = in_sorted x (inserted r done) rs (inl (in_inserted x r done (inl e)))
in_sorted x done (r ∷ rs) (inr (inr i)) = in_sorted x (inserted r done) rs (inr i)

from_sorted : (x : Scanned) (done rs : List Scanned) → In x (sorted_onto done rs) → In x done ⊎ In x rs
from_sorted x done [] i = inl i
from_sorted x done (r ∷ rs) i = elim (from_sorted x (inserted r done) rs i) [
  | inl j ↦ elim (from_inserted x r done j) [
    | inl e ↦ inr (inl e)
    | inr k ↦ inl k
  ]
  | inr j ↦ inr (inr j)
]

-- 4. Each position once

abbrev one_at : ℕ → Scanned → ℕ
one_at p r = if p == r.position then 1 else 0

one_or_none : (p : ℕ) (r : Scanned) → one_at p r ≤ 1
one_or_none p r = grind (arith, nat_tests)

none_below : (p first last : ℕ) (rs : List Scanned) → p < first → RiseWithin first last rs
    → sum_by (one_at p) rs ≡ 0
none_below p first last [] less w = refl
none_below p first last (r ∷ rs) less w =
    let up = w.0 in
    let sum = sum_by-cons (one_at p) r rs in
    let here : one_at p r ≡ 0 = if_other p r.position 1 0 (λ e. omega arith) in
    let rest = none_below p (r.position + 1) last rs (omega arith) w.1 in
    omega arith

at_most_one : (p first last : ℕ) (rs : List Scanned) → RiseWithin first last rs → sum_by (one_at p) rs ≤ 1
at_most_one p first last [] w = zero-le
at_most_one p first last (r ∷ rs) w =
    let sum = sum_by-cons (one_at p) r rs in
    let rest = at_most_one p (r.position + 1) last rs w.1 in
    elim (cases_lt p (r.position + 1)) [
      | inl less ↦
          let none = none_below p (r.position + 1) last rs less w.1 in
          let one = one_or_none p r in omega arith
      | inr past ↦
          let none : one_at p r ≡ 0 = if_other p r.position 1 0 (λ e. omega arith) in omega arith
    ]

-- 5. Sorted rows of which each position stands once

abbrev AllFrom : Scanned → List Scanned → Type 0
AllFrom x [] = Unit {0}
AllFrom x (r ∷ rs) = AtMost x r × AllFrom x rs

abbrev Keeps : List Scanned → Type 0
Keeps [] = Unit {0}
Keeps (r ∷ rs) = AllFrom r rs × Keeps rs

from_falls : (x y : Scanned) (rs : List Scanned) → AtMost x y → AllFrom y rs → AllFrom x rs
from_falls x y [] a h = tt
from_falls x y (r ∷ rs) a h = (at_most_trans x y r a h.0, from_falls x y rs a h.1)

-- the order of keys and positions
abbrev pub by_place : ℕ × ℕ → ℕ × ℕ → Ordering
by_place a b = ordering_then (nat_cmp a.0 b.0) (nat_cmp a.1 b.1)

abbrev pub place_of : Scanned → ℕ × ℕ
place_of row = (row.key, row.position)

not_less : (m n : ℕ) → is_lt (nat_cmp m n) ≡ false → n ≤ m
not_less m n e = grind (arith, nat_tests)

first_not_less : (a b : Ordering) → is_lt (ordering_then a b) ≡ false → is_lt a ≡ false
first_not_less Less b h = h
first_not_less Equal b h = refl
first_not_less Greater b h = refl

second_not_less : (a b : Ordering) → a ≡ Equal → is_lt (ordering_then a b) ≡ false → is_lt b ≡ false
second_not_less Less b e h = cc
second_not_less Equal b e h = h
second_not_less Greater b e h = cc

same_cmp : (m n : ℕ) → m ≡ n → nat_cmp m n ≡ Equal
same_cmp m n e = grind (arith, nat_tests)

at_most_from : (x y : Scanned) → is_lt (by_place (place_of y) (place_of x)) ≡ false → AtMost x y
at_most_from x y h = (
  not_less y.key x.key (first_not_less _ _ h),
  λ e. not_less y.position x.position (second_not_less _ _ (same_cmp y.key x.key (sym e)) h),
)

keeps_from_sort : (rs : List Scanned) → IsSortedByKey place_of by_place rs → Keeps rs
keeps_from_sort [] h = tt
keeps_from_sort (r ∷ []) h = (tt, tt)
keeps_from_sort (r ∷ s ∷ ss) h =
    let rest = keeps_from_sort (s ∷ ss)
    (λ k d low high.
    let next : suc k + 1 ≡ suc (k + 1) = omega arith in
    subst
    (λ n. is_lt (by_place (place_of (get_or (r ∷ s ∷ ss) n d)) (place_of (get_or (s ∷ ss) k d))) ≡ false) next
    (h (suc k) d zero-le (omega arith))) in
    let here = at_most_from r s (h zero r zero-le (suc-le-suc (suc-le-suc zero-le))) in
    ((here, from_falls r s ss here rest.0), rest)

abbrev Once : List Scanned → Type 0
Once rs = (p : ℕ) → sum_by (one_at p) rs ≤ 1

once_tail : (r : Scanned) (rs : List Scanned) → Once (r ∷ rs) → Once rs
once_tail r rs h = λ p. let sum = sum_by-cons (one_at p) r rs in let few = h p in omega arith

none_else : (r : Scanned) (rs : List Scanned) → Once (r ∷ rs) → sum_by (one_at r.position) rs ≡ 0
none_else r rs h =
    let sum = sum_by-cons (one_at r.position) r rs in
    let few = h r.position in
    let one : one_at r.position r ≡ 1 = if_same r.position r.position 1 0 refl in
    omega arith

above_from : (x : Scanned) (rs : List Scanned) → AllFrom x rs → sum_by (one_at x.position) rs ≡ 0 → AllAbove x rs
above_from x [] h none = tt
above_from x (r ∷ rs) h none =
    let sum = sum_by-cons (one_at x.position) r rs in
    let first : one_at x.position r ≡ 0 = omega arith in
    let other : x.position ≢ r.position =
    λ e. let one : one_at x.position r ≡ 1 = if_same x.position r.position 1 0 e in omega arith in (
      (h.0.0, λ e. let least = h.0.1 e in omega (arith, other)),
      above_from x rs h.1 (omega arith),
    )

rises_once : (rs : List Scanned) → Keeps rs → Once rs → Rises rs
rises_once [] h once = tt
rises_once (r ∷ rs) h once =
    (above_from r rs h.0 (none_else r rs once), rises_once rs h.1 (once_tail r rs once))

-- sorted in place they are those inserted one after another
pub sorted_is : (last : ℕ) (rows sorted : List Scanned) → RiseWithin 0 last rows → IsPermutation rows sorted
    → IsSortedByKey place_of by_place sorted → sorted ≡ sorted_onto [] rows
sorted_is last rows sorted rise permuted up =
    let once : Once sorted =
    λ p. subst (λ n. n ≤ 1) (sym (sum_by-IsPermutation (one_at p) rows sorted permuted))
    (at_most_one p 0 last rows rise) in
    same_rows sorted (sorted_onto [] rows) (rises_once sorted (keeps_from_sort sorted up) once)
    (rises_sorted 0 last [] rows tt tt rise)
    (λ x i. in_sorted x [] rows (inr (in_permuted sorted rows x (IsPermutation-sym rows sorted permuted) i)))
    (λ x i. elim (from_sorted x [] rows i) [
      | inl j ↦ absurd j
      | inr j ↦ in_permuted rows sorted x permuted j
    ])
