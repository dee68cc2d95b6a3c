-- The first newline of a text.
use Rattle.std.proofs.Common.{◌≡◌, ◌≢◌, ℕ, ◌+◌, ◌<◌, ◌≤◌, Bool, true, false, cond, eqb, ltb, List, length, get_or}
use Rattle.std.proofs.Common.{Some, None, refl, subst, arith, inl, inr}
use Rattle.std.specs.List.{position, position_or_len}
use Rattle.std.proofs.lemmas.Bool.{lt-ltb, le-ltb, ne_eqb, eq-eqb, cases_lt}
use Rattle.std.proofs.lemmas.List.Sums.{position_or_len_is}
use Rattle.nam_text.specs.Fields.{IsPassed}

pub none_passed : (text : List ℕ) → IsPassed text 0
none_passed text = record { within = omega arith; none = λ k lt. absurd (omega (arith, lt)) }

pub one_passed : (text : List ℕ) (at : ℕ) → IsPassed text at → at < length text → get_or text at 0 ≢ 10
    → IsPassed text (at + 1)
one_passed text at passed lt other = record {
  within = omega (arith, lt);
  none = λ k less. elim (cases_lt k at) [
    | inl below ↦ passed.none k below
    | inr above ↦ (let same : at ≡ k = omega (arith, less, above) in subst (λ (n : ℕ). get_or text n 0 ≢ 10) same other)
  ];
}

pub next_passed : (text : List ℕ) (at next : ℕ) → IsPassed text at → at < length text → get_or text at 0 ≢ 10
    → at + 1 ≡ next → IsPassed text next
next_passed text at next passed lt other e = subst (λ (n : ℕ). IsPassed text n) e (one_passed text at passed lt other)

position_is : (p : ℕ → Bool) (xs : List ℕ) (k : ℕ) (b : Bool) → position_or_len p xs ≡ k → ltb k (length xs) ≡ b
    → cond b (Some k) None ≡ position p xs
position_is p xs k b e h = rw (e, h) refl

pub newline_at : (text : List ℕ) (at : ℕ) → IsPassed text at → at < length text → get_or text at 0 ≡ 10
    → Some at ≡ position (λ b. eqb b 10) text
newline_at text at passed lt is =
    let p = λ (b : ℕ). eqb b 10 in
    let first = position_or_len_is p text at 0 passed.within (λ k less. ne_eqb (get_or text k 0) 10 (passed.none k less))
    (λ _. eq-eqb (get_or text at 0) 10 is) in
    position_is p text at true first (lt-ltb _ _ lt)

pub no_newline : (text : List ℕ) (at : ℕ) → IsPassed text at → length text ≤ at
    → None ≡ position (λ b. eqb b 10) text
no_newline text at passed le =
    let p = λ (b : ℕ). eqb b 10 in
    let first = position_or_len_is p text (length text) 0 (omega arith)
    (λ k less. ne_eqb (get_or text k 0) 10 (passed.none k (omega (arith, less, le))))
    (λ lt. absurd (omega (arith, lt))) in
    position_is p text (length text) false first (le-ltb _ _ (omega arith))

pub ruleset newlines = (none_passed, next_passed, newline_at)
