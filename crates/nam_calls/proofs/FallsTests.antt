-- Steps of the proofs that verbs to come fall: tests, words read one after another, and rows of so many verbs each.
use Rattle.std.proofs.Common.{◌≡◌, ℕ, suc, ◌+◌, ◌-◌, ◌*◌, ◌<◌, ◌≤◌, List, [], ◌∷◌, ◌++◌, length, length-append, refl}
use Rattle.std.proofs.Common.{arith, Bool, true, false, Some, None}
use Rattle.std.proofs.Math.Nat.{suc-mul}
use Rattle.std.specs.Prelude.{if◌then◌else◌, ◌==◌}
use Rattle.std.proofs.lemmas.Bool.Decides.{nat_tests}
use Rattle.nam_verbs.proofs.TestLemmas.{by_test}
use Rattle.nam_verbs.specs.Until.{until}
use Rattle.nam_calls.specs.Fits.{HasWidth}

-- either way of a test
pub either : {A : Type 0} (P : A → Type 0) (b : Bool) (x y : A) → P x → P y → P (if b then x else y)
either P true x y f g = f
either P false x y f g = g

pub next_is : (r c : ℕ) → c < r → (c + 1 == r) ≡ false → c + 1 < r
next_is r c l e = grind (arith, nat_tests)

-- the next of so many, or the last was passed
pub or_last : {A : Type 0} (P : A → Type 0) (r c : ℕ) (last next : A) → c < r → (c + 1 ≡ r → P last)
    → (c + 1 < r → P next)
    → P (if c + 1 == r then last else next)
or_last P r c last next l f g =
    by_test P (c + 1 == r) last next (λ e. f (grind (arith, nat_tests))) (λ e. g (next_is r c l e))

-- one more word is read of so many
pub one_more : {A : Type 0} (P : A → Type 0) (width : ℕ) (got : List ℕ) (x : ℕ) (more done : List ℕ → A)
    → length got < width
    → (length (got ++ x ∷ []) ≡ length got + 1 → length (got ++ x ∷ []) < width → P (more (got ++ x ∷ [])))
    → (length (got ++ x ∷ []) ≡ length got + 1 → length (got ++ x ∷ []) ≡ width → P (done (got ++ x ∷ [])))
    → P (until width (got ++ x ∷ []) more done)
one_more P width got x more done l f g =
    let e : length (got ++ x ∷ []) ≡ length got + 1 = length-append got (x ∷ []) in
    by_test P (length (got ++ x ∷ []) == width) (done (got ++ x ∷ [])) (more (got ++ x ∷ []))
    (λ t. g e (grind (arith, nat_tests)))
    (λ t. f e (grind (arith, nat_tests)))

-- the rows after this one, of r rows of k verbs each
one_row : (r c k m : ℕ) → r - c - 1 ≡ suc m → m ≡ r - (c + 1) - 1 → (r - (c + 1) - 1) * k + k ≡ (r - c - 1) * k
one_row r c k m e f = rw (e, ← f, suc-mul) refl

pub later_row : (r c k : ℕ) → c + 1 < r → (r - (c + 1) - 1) * k + k ≡ (r - c - 1) * k
later_row r c k l = one_row r c k (r - (c + 1) - 1) (omega arith) refl

all_rows_of : (r k m : ℕ) → r ≡ suc m → m ≡ r - 0 - 1 → (r - 0 - 1) * k + k ≡ r * k
all_rows_of r k m e f = rw (← f, e, suc-mul) refl

pub all_rows : (r k : ℕ) → 1 ≤ r → (r - 0 - 1) * k + k ≡ r * k
all_rows r k l = all_rows_of r k (r - 1) (omega arith) (omega arith)

-- a value or a deletion
pub wide_or_none : (width : ℕ) (b : Bool) (value : List ℕ) → length value ≡ width
    → HasWidth width (if b then None else Some value)
wide_or_none width true value e = tt
wide_or_none width false value e = e
