-- either way of a test, with what the test says
use Rattle.std.proofs.Common.{◌≡◌, ◌≢◌, ℕ, ◌<◌, ◌≤◌, Bool, true, false, refl}
use Rattle.std.specs.Prelude.{◌==◌, nat_lt, if◌then◌else◌}
use Rattle.std.proofs.lemmas.Bool.{eqb-true, eqb-false, ltb-true, ltb-false, lt-ltb, le-ltb, eq-eqb, ne_eqb}

-- a choice whose test is known
if_true : {A : Type 0} (test : Bool) (a b : A) → test ≡ true → (if test then a else b) ≡ a
if_true true a b is = refl
if_true false a b is = absurd (cc)

if_false : {A : Type 0} (test : Bool) (a b : A) → test ≡ false → (if test then a else b) ≡ b
if_false true a b is = absurd (cc)
if_false false a b is = refl

pub if_less : {A : Type 0} (x y : ℕ) (a b : A) → x < y → (if nat_lt x y then a else b) ≡ a
if_less x y a b less = if_true (nat_lt x y) a b (lt-ltb x y less)

pub if_not_less : {A : Type 0} (x y : ℕ) (a b : A) → y ≤ x → (if nat_lt x y then a else b) ≡ b
if_not_less x y a b least = if_false (nat_lt x y) a b (le-ltb x y least)

pub if_same : {A : Type 0} (x y : ℕ) (a b : A) → x ≡ y → (if x == y then a else b) ≡ a
if_same x y a b same = if_true (x == y) a b (eq-eqb x y same)

pub if_other : {A : Type 0} (x y : ℕ) (a b : A) → x ≢ y → (if x == y then a else b) ≡ b
if_other x y a b other = if_false (x == y) a b (ne_eqb x y other)

-- a claim about a choice, from either choice
by_test : {A : Type 0} (P : A → Type 0) (test : Bool) (a b : A) → (test ≡ true → P a) → (test ≡ false → P b)
    → P (if test then a else b)
by_test P true a b then_a else_b = then_a refl
by_test P false a b then_a else_b = else_b refl

pub by_less : {A : Type 0} (P : A → Type 0) (x y : ℕ) (a b : A) → (x < y → P a) → (y ≤ x → P b)
    → P (if nat_lt x y then a else b)
by_less P x y a b less least =
    by_test P (nat_lt x y) a b (λ test. less (ltb-true x y test)) (λ test. least (ltb-false x y test))

pub by_equal : {A : Type 0} (P : A → Type 0) (x y : ℕ) (a b : A) → (x ≡ y → P a) → (x ≢ y → P b)
    → P (if x == y then a else b)
by_equal P x y a b same other =
    by_test P (x == y) a b (λ test. same (eqb-true x y test)) (λ test. other (eqb-false x y test))
