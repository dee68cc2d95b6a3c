-- either way of a test, with what the test says
use Rattle.std.proofs.Common.{◌≡◌, ◌≢◌, ℕ, Bool, true, false, refl}
use Rattle.std.specs.Prelude.{◌==◌, if◌then◌else◌}
use Rattle.std.proofs.lemmas.Bool.{eqb-true, eq-eqb}

-- a claim about a choice, from either choice
pub by_test : {A : Type 0} (P : A → Type 0) (test : Bool) (a b : A) → (test ≡ true → P a) → (test ≡ false → P b)
    → P (if test then a else b)
by_test P true a b then_a else_b = then_a refl
by_test P false a b then_a else_b = else_b refl

-- the same where the test is that two numbers are equal
pub by_equal : {A : Type 0} (P : A → Type 0) (x y : ℕ) (a b : A) → (x ≡ y → P a) → (x ≢ y → P b)
    → P (if x == y then a else b)
by_equal P x y a b same other =
    by_test P (x == y) a b (λ test. same (eqb-true x y test)) (λ test. other (λ eq. absurd (cc (eq-eqb x y eq))))

-- a test inside
pub if_in : {A B : Type 0} (f : A → B) (test : Bool) (a b : A)
    → f (if test then a else b) ≡ (if test then f a else f b)
if_in f true a b = refl
if_in f false a b = refl
