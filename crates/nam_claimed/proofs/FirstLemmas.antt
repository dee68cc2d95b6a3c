-- The first of some positions that bears a word.
use Rattle.std.proofs.Common.{None, Option, Some, ap, arith, inl, inr, refl, suc, sym, zero, ℕ, ◌+◌, ◌<◌, ◌∙◌, ◌≡◌}
use Rattle.std.proofs.Common.{◌≢◌, ◌≤◌}
use Rattle.std.proofs.lemmas.Bool.{cases_eq}
use Rattle.std.proofs.lemmas.Option.{same_Some}
use Rattle.nam_verbs.proofs.TestLemmas.{by_equal}
use Rattle.nam_claimed.specs.Home.{first_bearing}

module _ (words : ℕ → ℕ) (word : ℕ) where
  -- it is one of them, and bears the word
  pub record Bearing (from count position : ℕ) : Type 0 where
    pub least : from ≤ position
    pub within : position < from + count
    pub bears : words position ≡ word

  pub first_is : (from count position : ℕ) → first_bearing words word from count ≡ Some position
      → Bearing from count position
  first_is from zero position e = absurd (cc)
  first_is from (suc more) position e =
      by_equal (λ (first : Option ℕ). first ≡ Some position → Bearing from (suc more) position) (words from) word
      (Some from) (first_bearing words word (suc from) more)
      (λ here is. let same = same_Some from position is in
      record { least = omega arith; within = omega arith; bears = ap words (sym same) ∙ here })
      (λ other is. let later = first_is (suc from) more position is in
      let least = later.least in
      let within = later.within in
      record { least = omega arith; within = omega arith; bears = later.bears }) e

  -- where one of them bears it there is a first
  pub first_stands : (from count position : ℕ) → Bearing from count position
      → (first : ℕ) × (first_bearing words word from count ≡ Some first)
  first_stands from zero position is = let least = is.least in let within = is.within in absurd (omega arith)
  first_stands from (suc more) position is =
      by_equal (λ (found : Option ℕ). (first : ℕ) × (found ≡ Some first)) (words from) word (Some from)
      (first_bearing words word (suc from) more) (λ here. (from, refl))
      (λ other. first_stands (suc from) more position (elim (cases_eq position from) [
        | inl same ↦ absurd (other (ap words (sym same) ∙ is.bears))
        | inr apart ↦
            let least = is.least in
            let within = is.within in
            record { least = omega arith; within = omega arith; bears = is.bears }
      ]))

  pub first_none : (from count : ℕ)
      → ((position : ℕ) → from ≤ position → position < from + count → words position ≢ word)
      → first_bearing words word from count ≡ None
  first_none from zero none = refl
  first_none from (suc more) none =
      by_equal (λ (found : Option ℕ). found ≡ None) (words from) word (Some from)
      (first_bearing words word (suc from) more) (λ here. absurd (none from (omega arith) (omega arith) here))
      (λ other. first_none (suc from) more (λ position least within. none position (omega arith) (omega arith)))
