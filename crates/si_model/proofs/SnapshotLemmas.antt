-- What a snapshot contains, how many commits, and the levels that this gives.
use Rattle.std.proofs.Common.{◌≡◌, ℕ, zero, suc, ◌-◌, ◌<◌, ◌≤◌, min, true, ◌⊎◌, inl, inr, List, [], ◌∷◌, get_or, refl}
use Rattle.std.proofs.Common.{ap, sym, ◌∙◌, subst, arith}
use Rattle.std.proofs.lemmas.Bool.Decides.{nat_tests}
use Rattle.std.proofs.lemmas.Bool.{cond_both, false≢true, cases_lt}
use Rattle.si_model.specs.declared.log.Stamp.{Stamp}
use Rattle.si_model.specs.Lists.{Listed}
use Rattle.si_model.specs.Tells.{Tell}
use Rattle.si_model.specs.Snapshots.{contains, sum_above}
use Rattle.si_model.specs.Knowledge.{AreAtMost}
use Rattle.si_model.specs.Arranged.{level_from}
use Rattle.si_model.specs.Consistency.{IsWithin}

pub at_most_at : (as' bs : List ℕ) (i : ℕ) → AreAtMost as' bs → get_or as' i 0 ≤ get_or bs i 0
at_most_at [] bs i h = omega arith
at_most_at (a ∷ as') [] i h = elim h [ ]
at_most_at (a ∷ as') (b ∷ bs) zero h = h.0
at_most_at (a ∷ as') (b ∷ bs) (suc i) h = at_most_at as' bs i h.1

pub contains_is : (snap : List ℕ) (s : Stamp) → 0 < s.thread → s.number ≤ get_or snap (s.thread - 1) 0
    → contains snap s ≡ true
contains_is snap s p h = grind (arith, nat_tests)

pub contains_says : (snap : List ℕ) (s : Stamp) → contains snap s ≡ true → (0 < s.thread)
    × (s.number ≤ get_or snap (s.thread - 1) 0)
contains_says snap s h = (grind (arith, nat_tests), grind (arith, nat_tests))

pub contains_at_most : (a b : List ℕ) (s : Stamp) → AreAtMost a b → contains a s ≡ true → contains b s ≡ true
contains_at_most a b s h c =
    let says = contains_says a s c in
    let le : get_or a (s.thread - 1) 0 ≤ get_or b (s.thread - 1) 0 = at_most_at a b (s.thread - 1) h in
    contains_is b s says.0 (omega (arith, says.1, le))

pub sum_at_most : (start : ℕ) (as' bs : List ℕ) → AreAtMost as' bs → sum_above start as' ≤ sum_above start bs
sum_at_most start [] bs h = omega arith
sum_at_most start (a ∷ as') [] h = elim h [ ]
sum_at_most start (a ∷ as') (b ∷ bs) h = omega (arith, h.0, sum_at_most start as' bs h.1)

-- where sums don't fall, no entry does
pub at_most_back : (start : ℕ) (as' bs : List ℕ) (tss : List (List Tell)) → IsWithin start as' tss
    → IsWithin start bs tss → AreAtMost as' bs → sum_above start bs ≤ sum_above start as' → AreAtMost bs as'
at_most_back start [] [] tss v w h s = tt
at_most_back start [] (b ∷ bs) [] v w h s = elim w [ ]
at_most_back start [] (b ∷ bs) (ts ∷ tss) v w h s = elim v [ ]
at_most_back start (a ∷ as') [] tss v w h s = elim h [ ]
at_most_back start (a ∷ as') (b ∷ bs) [] v w h s = elim v [ ]
at_most_back start (a ∷ as') (b ∷ bs) (ts ∷ tss) v w h s =
    let le = sum_at_most start as' bs h.1 in
    (omega (arith, h.0, v.0, w.0), at_most_back start as' bs tss v.2 w.2 h.1 (omega (arith, h.0)))

-- of two ordered snapshots the one of the smaller sum is at most the other
pub at_most_by_sum : (start : ℕ) (as' bs : List ℕ) (tss : List (List Tell)) → IsWithin start as' tss
    → IsWithin start bs tss → AreAtMost as' bs ⊎ AreAtMost bs as' → sum_above start as' ≤ sum_above start bs
    → AreAtMost as' bs
at_most_by_sum start as' bs tss v w ordered le =
    elim ordered [ inl h ↦ h | inr h ↦ at_most_back start bs as' tss w v h le ]

pub level_at_most : (start top : ℕ) (ss : List (List ℕ)) (snap : List ℕ) (s : Stamp) → Listed snap ss
    → contains snap s ≡ true → level_from start top ss s ≤ sum_above start snap
level_at_most start top [] snap s l c = elim l [ ]
level_at_most start top (x ∷ ss) snap s l c =
    cond_both (contains x s) (min (sum_above start x) (level_from start top ss s)) (level_from start top ss s)
    (λ n. n ≤ sum_above start snap)
    (λ e. elim l [
      | inl q ↦ omega (arith, ap (sum_above start) q)
      | inr r ↦ omega (arith, level_at_most start top ss snap s r c)
    ])
    (λ e. elim l [
      | inl q ↦ absurd (false≢true (sym e ∙ ap (λ z. contains z s) q ∙ c))
      | inr r ↦ level_at_most start top ss snap s r c
    ])

-- a level is the prefix of a snapshot that contains the stamp, or top
pub level_says : (start top : ℕ) (ss : List (List ℕ)) (s : Stamp) → (level_from start top ss s ≡ top)
    ⊎ ((snap : List ℕ) × Listed snap ss × (contains snap s ≡ true) × (sum_above start snap ≡ level_from start top ss s))
level_says start top [] s = inl refl
level_says start top (x ∷ ss) s =
    let L = level_from start top ss s in
    let Says : ℕ → Type 0 =
    λ n. (n ≡ top) ⊎ ((snap : List ℕ) × Listed snap (x ∷ ss) × (contains snap s ≡ true)
    × (sum_above start snap ≡ n)) in
    let rest : Says L =
    elim (level_says start top ss s) [ inl t ↦ inl t | inr (snap, l, c, q) ↦ inr (snap, inr l, c, q) ] in
    cond_both (contains x s) (min (sum_above start x) L) L Says
    (λ e. elim (cases_lt (sum_above start x) L) [
      | inl h ↦ inr (x, inl refl, e, omega arith)
      | inr h ↦ let m : L ≡ min (sum_above start x) L = omega arith in
          subst Says m rest
    ])
    (λ e. rest)
