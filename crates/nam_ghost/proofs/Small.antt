-- Claims of all numbers below one or two, of all elements of two, and of what a slot keeps, by their cases.
use Rattle.nam_catalog.specs.declared.form.Form.{Form}
use Rattle.nam_ghost.proofs.Runs.{stamp}
use Rattle.nam_header.specs.Header.{fields_of}
use Rattle.nam_header.specs.Stamp.{FitsStamp}
use Rattle.nam_store.specs.Everyone.{Everyone}
use Rattle.si_model.specs.declared.log.Stamp.{Stamp}
use Rattle.std.proofs.Common.{List, None, Some, [], arith, false, length, map, slice_index_or, subst, suc, sym, true}
use Rattle.std.proofs.Common.{zero, ℕ, ◌<◌, ◌∷◌, ◌≡◌}
use Rattle.std.proofs.lemmas.Bool.{ltb-true}
use Rattle.std.proofs.lemmas.Option.{none-some, same_Some}
use Rattle.std.specs.Prelude.{nat_lt}
use Rattle.std.proofs.lemmas.Bool.{ltb-true, false≢true}
use Rattle.std.proofs.lemmas.Option.{same_Some, none-some}

pub below_1 : (P : ℕ → Type 0) → P 0 → (n : ℕ) → n < 1 → P n
below_1 P first zero less = first
below_1 P first (suc n) less = absurd (omega arith)

pub below_2 : (P : ℕ → Type 0) → P 0 → P 1 → (n : ℕ) → n < 2 → P n
below_2 P first second zero less = first
below_2 P first second (suc zero) less = second
below_2 P first second (suc (suc n)) less = absurd (omega arith)

pub everyone_2 : {A : Type 0} (P : ℕ → A → Type 0) (a b : A) → P 0 a → P 1 b → Everyone P (a ∷ b ∷ [])
everyone_2 P a b first second zero x e = subst (P 0) (same_Some a x e) first
everyone_2 P a b first second (suc zero) x e = subst (P 1) (same_Some b x e) second
everyone_2 P a b first second (suc (suc n)) x e = absurd (none-some x e)

-- of what is there, and of nothing
pub of_some : {A : Type 0} (P : A → Type 0) (a : A) → P a → (x : A) → Some a ≡ Some x → P x
of_some P a proof x e = subst P (same_Some a x e) proof

pub of_none : {A : Type 0} (P : A → Type 0) (x : A) → None ≡ Some x → P x
of_none P x e = absurd (none-some x e)

pub of_true : {P : Type 0} → true ≡ false → P
of_true e = absurd (false≢true (sym e))

-- by computing
pub fits_by : (form : Form) (stamp : Stamp) → nat_lt stamp.thread (fields_of form).threads ≡ true
    → nat_lt stamp.number (fields_of form).numbers ≡ true → FitsStamp form stamp
fits_by form stamp thread number = record { thread = ltb-true _ _ thread; number = ltb-true _ _ number }

-- of all of a list of two, by what it has at each place, whatever list it is
pub everyone_of : {A : Type 0} (P : ℕ → A → Type 0) (other : A) (xs : List A) → length xs ≡ 2
    → P 0 (slice_index_or xs 0 other) → P 1 (slice_index_or xs 1 other) → Everyone P xs
everyone_of P other [] two first second = absurd (omega arith)
everyone_of P other (a ∷ []) two first second = absurd (omega arith)
everyone_of P other (a ∷ b ∷ []) two first second = everyone_2 P a b first second
everyone_of P other (a ∷ b ∷ c ∷ xs) two first second = absurd (omega arith)

pub everyone_by : {A B : Type 0} (f : A → B) (P : ℕ → B → Type 0) (other : A) (xs : List A) → length xs ≡ 2
    → P 0 (f (slice_index_or xs 0 other)) → P 1 (f (slice_index_or xs 1 other)) → Everyone P (map f xs)
everyone_by f P other [] two first second = absurd (omega arith)
everyone_by f P other (a ∷ []) two first second = absurd (omega arith)
everyone_by f P other (a ∷ b ∷ []) two first second = everyone_2 P (f a) (f b) first second
everyone_by f P other (a ∷ b ∷ c ∷ xs) two first second = absurd (omega arith)
