-- The level of a stamp, by the first snapshot that contains it.
use Rattle.std.proofs.Common.{◌≡◌, ℕ, zero, suc, ◌+◌, ◌-◌, ◌^◌, ◌<◌, ◌≤◌, min, Bool, true, false, not, inl, inr, List}
use Rattle.std.proofs.Common.{[], ◌∷◌, length, get_or, refl, sym, subst, arith, Bor}
use Rattle.std.specs.List.{AllByRecursion}
use Rattle.std.specs.List.Sorted.{IsPartitionedBy, IsNonDecreasingBy}
use Rattle.std.proofs.lemmas.Bool.{cond_both, false≢true, true≢false, cases_lt}
use Rattle.si_model.specs.declared.log.Stamp.{Stamp}
use Rattle.si_model.specs.Lists.{Listed, Pairwise}
use Rattle.si_model.specs.Snapshots.{contains, sum_above}
use Rattle.si_model.specs.Arranged.{level_from}
use Rattle.si_model.proofs.ListLemmas.{All-listed, All-from_listed, All-map, Pairwise-map, Pairwise-unmap}
use Rattle.si_model.proofs.ListLemmas.{Pairwise-from_near}
use Rattle.si_model.proofs.SnapshotLemmas.{contains_is, contains_says}
use Rattle.nam_report.specs.Lines.{referents, IsAtMost}

listed_at : {X : Type 0} (xs : List X) (i : ℕ) (d : X) → i < length xs → Listed (get_or xs i d) xs
listed_at [] i d h = absurd (omega arith)
listed_at (x ∷ xs) zero d h = inl refl
listed_at (x ∷ xs) (suc i) d h = inr (listed_at xs i d (omega arith))

-- of pairs in order, those at two places
Pairwise-at : {X : Type 0} (R : X → X → Type 0) (xs : List X) (i j : ℕ) (d : X) → Pairwise R xs → i < j
    → j < length xs → R (get_or xs i d) (get_or xs j d)
Pairwise-at R [] i j d h lt within = absurd (omega arith)
Pairwise-at R (x ∷ xs) zero zero d h lt within = absurd (omega arith)
Pairwise-at R (x ∷ xs) zero (suc j) d h lt within =
    All-listed (R x) xs (get_or xs j d) h.0 (listed_at xs j d (omega arith))
Pairwise-at R (x ∷ xs) (suc i) zero d h lt within = absurd (omega arith)
Pairwise-at R (x ∷ xs) (suc i) (suc j) d h lt within = Pairwise-at R xs i j d h.1 (omega arith) (omega arith)

contains_kept : (a b : List ℕ) (s : Stamp) → IsAtMost a b → contains a s ≡ true → contains b s ≡ true
contains_kept a b s h c = let says = contains_says a s c in let le =
    h (s.thread - 1) in contains_is b s says.0 (omega (arith, says.1, le))

-- neighbours in order make a chain
pub chain_from_near : (ss : List (Bor (List ℕ)))
    → ((k : ℕ) (d : Bor (List ℕ)) → k + 1 < length ss → IsAtMost (get_or ss k d).now (get_or ss (k + 1) d).now)
    → Pairwise IsAtMost (referents ss)
chain_from_near ss near =
    Pairwise-map (λ (x : Bor (List ℕ)). x.now) IsAtMost ss
    (Pairwise-from_near (λ (x y : Bor (List ℕ)). IsAtMost x.now y.now)
    (λ x y z h k i. let a = h i in let b = k i in omega (arith, a, b)) ss near)

-- in a chain the snapshots that contain a stamp are the tail
pub partitioned : (s : Stamp) (ss : List (Bor (List ℕ))) → Pairwise IsAtMost (referents ss)
    → IsPartitionedBy (λ x. not (contains x.now s)) ss
partitioned s ss chain i j d le within fails =
    elim (cases_lt i j) [
      | inl lt ↦
          let most : IsAtMost (get_or ss i d).now (get_or ss j d).now =
          Pairwise-at (λ x y. IsAtMost x.now y.now) ss i j d
          (Pairwise-unmap (λ (x : Bor (List ℕ)). x.now) IsAtMost ss chain) lt within in
          negated (contains (get_or ss i d).now s) (contains (get_or ss j d).now s)
          (contains_kept (get_or ss i d).now (get_or ss j d).now s most) fails
      | inr ge ↦ let same : i ≡ j = omega arith in
          subst (λ k. not (contains (get_or ss k d).now s) ≡ true) (sym same) fails
    ]
  where
    negated : (a b : Bool) → (a ≡ true → b ≡ true) → not b ≡ true → not a ≡ true
    negated true true f h = h
    negated true false f h = absurd (false≢true (f refl))
    negated false b f h = refl

-- a level is at least what all counts are
level_at_least : (start top n : ℕ) (ss : List (List ℕ)) (s : Stamp) → n ≤ top
    → AllByRecursion (λ snap. n ≤ sum_above start snap) ss → n ≤ level_from start top ss s
level_at_least start top n [] s le all = le
level_at_least start top n (x ∷ ss) s le all =
    let rest = level_at_least start top n ss s le all.1 in
    cond_both (contains x s) (min (sum_above start x) (level_from start top ss s)) (level_from start top ss s)
    (λ m. n ≤ m) (λ _. omega (arith, rest, all.0)) (λ _. rest)

pub level_top : (start top : ℕ) (ss : List (List ℕ)) (s : Stamp) → level_from start top ss s ≤ top
level_top start top [] s = omega arith
level_top start top (x ∷ ss) s =
    let rest = level_top start top ss s in
    cond_both (contains x s) (min (sum_above start x) (level_from start top ss s)) (level_from start top ss s)
    (λ m. m ≤ top) (λ _. omega (arith, rest)) (λ _. rest)

-- does the first count at most as many commits, as 64 bits count them
abbrev pub CountsNoMore : ℕ → Bor (List ℕ) → Bor (List ℕ) → Type 0
CountsNoMore start x y = min (sum_above start x.now) (2 ^ 64 - 1) ≤ min (sum_above start y.now) (2 ^ 64 - 1)

pub counts_rise : (start : ℕ) (ss : List (Bor (List ℕ)))
    → IsNonDecreasingBy (λ (s : Bor (List ℕ)). min (sum_above start s.now) (2 ^ 64 - 1)) ss
    → Pairwise (CountsNoMore start) ss
counts_rise start ss rise =
    Pairwise-from_near (CountsNoMore start) (λ x y z h k. omega (arith, h, k)) ss
    (λ k d lt. rise k (k + 1) d (omega arith) lt)

-- the first that contains the stamp has the level
pub level_found : (start top : ℕ) (s : Stamp) (ss : List (Bor (List ℕ))) → top < 2 ^ 64
    → Pairwise (CountsNoMore start) ss → (i : ℕ) (d : Bor (List ℕ)) → i < length ss
    → ((k : ℕ) → k < i → contains (get_or ss k d).now s ≡ false) → contains (get_or ss i d).now s ≡ true
    → level_from start top (referents ss) s ≡ min (min (sum_above start (get_or ss i d).now) (2 ^ 64 - 1)) top
level_found start top s [] few rise i d within below here = absurd (omega arith)
level_found start top s (x ∷ ss) few rise zero d within below here =
    let least = level_at_least start top (min (sum_above start x.now) top) (referents ss) s (omega arith)
    (All-map (λ (y : Bor (List ℕ)). y.now) (λ snap. min (sum_above start x.now) top ≤ sum_above start snap) ss
    (All-from_listed (λ y. min (sum_above start x.now) top ≤ sum_above start y.now) ss
    (λ y l. let le = All-listed (CountsNoMore start x) ss y rise.0 l in omega (arith, few, le)))) in
    let most = level_top start top (referents ss) s in
    rw here (omega (arith, least, most, few))
level_found start top s (x ∷ ss) few rise (suc i) d within below here =
    rw (below 0 (omega arith)) (level_found start top s ss few rise.1 i d (omega arith)
    (λ k lt. below (suc k) (omega arith)) here)

-- and where none does the level is the top
pub level_none : (start top : ℕ) (s : Stamp) (ss : List (Bor (List ℕ)))
    → ((k : ℕ) (d : Bor (List ℕ)) → k < length ss → contains (get_or ss k d).now s ≡ false)
    → level_from start top (referents ss) s ≡ top
level_none start top s [] below = refl
level_none start top s (x ∷ ss) below =
    rw (below 0 x (omega arith)) (level_none start top s ss (λ k d lt. below (suc k) d (omega arith)))

pub not_true : (b : Bool) → not b ≡ true → b ≡ false
not_true true h = absurd (false≢true h)
not_true false h = refl

pub not_false : (b : Bool) → not b ≡ false → b ≡ true
not_false true h = refl
not_false false h = absurd (true≢false h)
