-- The order of placed commits.
use Rattle.std.proofs.Common.{◌≡◌, ◌+◌, Bool, true, false, not, ◌&&◌, inl, inr, List, [], ◌∷◌, get_or}
use Rattle.std.proofs.Common.{cond, refl, ap, sym, ◌∙◌, subst, arith}
use Rattle.std.specs.Prelude.{IsPermutation, filter}
use Rattle.std.specs.List.Sorted.{IsSortedBy, IsStableBy, ties}
use Rattle.std.proofs.lemmas.Bool.{cases_Bool, false≢true}
use Rattle.std.proofs.lemmas.Bool.Decides.{nat_tests}
use Rattle.std.proofs.lemmas.List.Sorted.{IsPermutation-refl, IsPermutation-cons, IsPermutation-swap, IsPermutation-trans}
use Rattle.si_model.specs.Lists.{Listed, Pairwise}
use Rattle.si_model.proofs.ListLemmas.{All-listed, All-from_listed, listed_filter, filter_listed, Pairwise-from_near}
use Rattle.nam_report.specs.declared.arranging.placed.Placed.{Placed}
use Rattle.nam_report.specs.Depths.{NotAfter}
use Rattle.nam_report.specs.Arranging.{is_before, put_in, in_order}

pub not_after_is : (a b : Placed) → is_before b a ≡ false → NotAfter a b
not_after_is a b h = grind (arith, nat_tests)

not_before_is : (a b : Placed) → NotAfter a b → is_before b a ≡ false
not_before_is a b h = grind (arith, nat_tests)

not_after_trans : (a b c : Placed) → NotAfter a b → NotAfter b c → NotAfter a c
not_after_trans a b c h k = grind arith

before_not_after : (a b : Placed) → is_before a b ≡ true → NotAfter a b
before_not_after a b h = grind (arith, nat_tests)

-- of two that tie neither is after the other
tie_is : (a b : Placed) → NotAfter a b → NotAfter b a → ties is_before a b ≡ true
tie_is a b h k = rw (not_before_is b a k, not_before_is a b h) refl

not_true : (b : Bool) → not b ≡ true → b ≡ false
not_true true h = absurd (false≢true h)
not_true false h = refl

both : (a b : Bool) → (a && b) ≡ true → (a ≡ true) × (b ≡ true)
both true b h = (refl, h)
both false b h = absurd (false≢true h)

-- what ties with the one before isn't tied with the one after
apart : (x p q : Placed) → is_before q p ≡ true → ties is_before x p ≡ true → ties is_before x q ≡ false
apart x p q lt tie = elim (cases_Bool (ties is_before x q)) [
  | inr e ↦ e
  | inl e ↦
      let xp = both (not (is_before x p)) (not (is_before p x)) tie in
      let xq = both (not (is_before x q)) (not (is_before q x)) e in
      let le = not_after_trans p x q (not_after_is p x (not_true (is_before x p) xp.0))
      (not_after_is x q (not_true (is_before q x) xq.1)) in
      absurd (false≢true (sym (not_before_is p q le) ∙ lt))
]

-- ---- put in order

listed_put : (p : Placed) (qs : List Placed) (x : Placed) → Listed x (put_in p qs) → Listed x (p ∷ qs)
listed_put p [] x l = l
listed_put p (q ∷ qs) x l = elim (cases_Bool (is_before q p)) [
  | inl e ↦ elim (rw e at l) [
    | inl h ↦ inr (inl h)
    | inr r ↦ elim (listed_put p qs x r) [ inl h ↦ inl h | inr s ↦ inr (inr s) ]
  ]
  | inr e ↦ rw e at l
]

ordered_put : (p : Placed) (qs : List Placed) → Pairwise NotAfter qs → Pairwise NotAfter (put_in p qs)
ordered_put p [] h = (tt, tt)
ordered_put p (q ∷ qs) h = elim (cases_Bool (is_before q p)) [
  | inl e ↦ rw e (
    All-from_listed (NotAfter q) (put_in p qs) (λ x l. elim (listed_put p qs x l) [
      | inl i ↦ subst (NotAfter q) i (before_not_after q p e)
      | inr r ↦ All-listed (NotAfter q) qs x h.0 r
    ]),
    ordered_put p qs h.1,
  )
  | inr e ↦
      let here = not_after_is p q e in
      rw e (
        (
          here,
          All-from_listed (NotAfter p) qs (λ x l.
              not_after_trans p q x here (All-listed (NotAfter q) qs x h.0 l)),
        ),
        h,
      )
]

pub are_ordered : (ps : List Placed) → Pairwise NotAfter (in_order ps)
are_ordered [] = tt
are_ordered (p ∷ ps) = ordered_put p (in_order ps) (are_ordered ps)

permuted_put : (p : Placed) (qs : List Placed) → IsPermutation (p ∷ qs) (put_in p qs)
permuted_put p [] = IsPermutation-refl (p ∷ [])
permuted_put p (q ∷ qs) = elim (cases_Bool (is_before q p)) [
  | inl e ↦ rw e (IsPermutation-trans (p ∷ q ∷ qs) (q ∷ p ∷ qs) (q ∷ put_in p qs)
      (IsPermutation-swap (p ∷ q ∷ qs) (q ∷ p ∷ qs) 0 1 (omega arith) (omega arith) refl)
      (IsPermutation-cons q (p ∷ qs) (put_in p qs) (permuted_put p qs)))
  | inr e ↦ rw e (IsPermutation-refl (p ∷ q ∷ qs))
]

pub are_permuted : (ps : List Placed) → IsPermutation ps (in_order ps)
are_permuted [] = IsPermutation-refl []
are_permuted (p ∷ ps) = IsPermutation-trans (p ∷ ps) (p ∷ in_order ps) (put_in p (in_order ps))
    (IsPermutation-cons p ps (in_order ps) (are_permuted ps)) (permuted_put p (in_order ps))

-- those that tie keep their order
kept_put : (x p : Placed) (qs : List Placed)
    → filter (ties is_before x) (put_in p qs) ≡ filter (ties is_before x) (p ∷ qs)
kept_put x p [] = refl
kept_put x p (q ∷ qs) = elim (cases_Bool (is_before q p)) [
  | inl e ↦ rw e (elim (cases_Bool (ties is_before x p)) [
    | inl t ↦ let none = apart x p q e t in
        let rest = kept_put x p qs in rw (none, t) (rest ∙ rw t refl)
    | inr f ↦ let rest : filter (ties is_before x) (put_in p qs) ≡ filter (ties is_before x) qs =
        kept_put x p qs ∙ rw f refl in
        rw f (ap (λ zs. cond (ties is_before x q) (q ∷ zs) zs) rest)
  ])
  | inr e ↦ rw e refl
]

are_kept : (x : Placed) (ps : List Placed) → filter (ties is_before x) (in_order ps) ≡ filter (ties is_before x) ps
are_kept x [] = refl
are_kept x (p ∷ ps) = kept_put x p (in_order ps)
    ∙ ap (λ zs. cond (ties is_before x p) (p ∷ zs) zs) (are_kept x ps)

-- ---- a stable sort

tie_self : (p : Placed) → ties is_before p p ≡ true
tie_self p = grind (arith, nat_tests)

first_least : (p : Placed) (ps : List Placed) (x : Placed) → Pairwise NotAfter (p ∷ ps) → Listed x (p ∷ ps)
    → NotAfter p x
first_least p ps x h l = elim l [
  | inl e ↦ subst (NotAfter p) e (not_after_is p p (not_true (is_before p p)
      (both (not (is_before p p)) (not (is_before p p)) (tie_self p)).0))
  | inr r ↦ All-listed (NotAfter p) ps x h.0 r
]

-- lists in order in which those that tie stand in one order are the same
alike : (ps qs : List Placed) → Pairwise NotAfter ps → Pairwise NotAfter qs
    → ((x : Placed) → filter (ties is_before x) ps ≡ filter (ties is_before x) qs) → ps ≡ qs
alike [] [] h k same = refl
alike [] (q ∷ qs) h k same =
    let e : [] ≡ q ∷ filter (ties is_before q) qs = same q ∙ rw (tie_self q) refl in cc
alike (p ∷ ps) [] h k same =
    let e : [] ≡ p ∷ filter (ties is_before p) ps = sym (same p) ∙ rw (tie_self p) refl in cc
alike (p ∷ ps) (q ∷ qs) h k same =
    let lp : Listed p (q ∷ qs) =
    (filter_listed (ties is_before p) (q ∷ qs) p
    (subst (Listed p) (same p) (listed_filter (ties is_before p) (p ∷ ps) p (inl refl) (tie_self p)))).0 in
    let lq : Listed q (p ∷ ps) =
    (filter_listed (ties is_before q) (p ∷ ps) q
    (subst (Listed q) (sym (same q)) (listed_filter (ties is_before q) (q ∷ qs) q (inl refl) (tie_self q)))).0 in
    let tie : ties is_before p q ≡ true = tie_is p q (first_least p ps q h lq) (first_least q qs p k lp) in
    let mine : filter (ties is_before p) (p ∷ ps) ≡ p ∷ filter (ties is_before p) ps = rw (tie_self p) refl in
    let yours : filter (ties is_before p) (q ∷ qs) ≡ q ∷ filter (ties is_before p) qs = rw tie refl in
    let whole : p ∷ filter (ties is_before p) ps ≡ q ∷ filter (ties is_before p) qs = sym mine ∙ same p ∙ yours in
    let head : p ≡ q = cc in
    let now : (x : Placed) → filter (ties is_before x) (p ∷ ps) ≡ filter (ties is_before x) (p ∷ qs) =
    subst (λ z. (x : Placed) → filter (ties is_before x) (p ∷ ps) ≡ filter (ties is_before x) (z ∷ qs)) (sym head) same
    in
    let tail : ps ≡ qs = alike ps qs h.1 k.1 (λ x. rest (ties is_before x) p ps qs (now x)) in
    ap (λ z. z ∷ ps) head ∙ ap (λ zs. q ∷ zs) tail
  where
    rest : (t : Placed → Bool) (p : Placed) (ps qs : List Placed) → filter t (p ∷ ps) ≡ filter t (p ∷ qs)
        → filter t ps ≡ filter t qs
    rest t p ps qs e = elim (cases_Bool (t p)) [
      | inl a ↦ let e' : p ∷ filter t ps ≡ p ∷ filter t qs = rw a at e in cc
      | inr b ↦ rw b at e
    ]

-- a stable sort puts the commits in order
pub sort_is : (ps qs : List Placed) → IsSortedBy is_before qs → IsStableBy is_before ps qs → qs ≡ in_order ps
sort_is ps qs sorted stable =
    alike qs (in_order ps)
    (Pairwise-from_near NotAfter not_after_trans qs
    (λ k d lt. not_after_is (get_or qs k d) (get_or qs (k + 1) d) (sorted k d (omega arith) lt)))
    (are_ordered ps) (λ x. stable x ∙ sym (are_kept x ps))
