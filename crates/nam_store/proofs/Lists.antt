-- Lists in which one element was put in place of another, and functions that were changed at one number.
use Rattle.std.proofs.Common.{List, Some, [], ap, arith, inl, inr, refl, subst, suc, sym, zero, ⊎_elim}
use Rattle.std.proofs.Common.{ℕ, ◌∷◌, ◌≡◌, ◌≢◌, ◌⊎◌}
use Rattle.std.specs.Prelude.{◌<◌, ◌==◌, length, slice_get, slice_set}
use Rattle.std.proofs.lemmas.Bool.{cond_both, eqb-false, eqb-true}
use Rattle.std.proofs.lemmas.Option.{none-some, same_Some}
use Rattle.nam_store.specs.Everyone.{Everyone, Someone, put}

module _ {A : Type 0} where
  -- 1. One element

  pub get_set : (xs : List A) (nth : ℕ) (x y : A) → slice_get xs nth ≡ Some x
      → slice_get (slice_set xs nth y) nth ≡ Some y
  get_set [] nth x y e = absurd (none-some x e)
  get_set (a ∷ xs) zero x y e = refl
  get_set (a ∷ xs) (suc nth) x y e = get_set xs nth x y e

  pub get_beside : (xs : List A) (nth other : ℕ) (y : A) → other ≢ nth
      → slice_get (slice_set xs nth y) other ≡ slice_get xs other
  get_beside [] nth other y apart = refl
  get_beside (a ∷ xs) zero zero y apart = absurd (apart refl)
  get_beside (a ∷ xs) zero (suc other) y apart = refl
  get_beside (a ∷ xs) (suc nth) zero y apart = refl
  get_beside (a ∷ xs) (suc nth) (suc other) y apart = get_beside xs nth other y (λ e. apart (ap suc e))

  -- what is got is the new element, or one that was there before
  pub get_cases : (xs : List A) (nth other : ℕ) (y z : A) → slice_get (slice_set xs nth y) other ≡ Some z
      → ((other ≡ nth) × (y ≡ z)) ⊎ ((other ≢ nth) × (slice_get xs other ≡ Some z))
  get_cases [] nth other y z e = absurd (none-some z e)
  get_cases (a ∷ xs) zero zero y z e = inl (refl, same_Some y z e)
  get_cases (a ∷ xs) zero (suc other) y z e = inr ((λ same. omega arith), e)
  get_cases (a ∷ xs) (suc nth) zero y z e = inr ((λ same. omega arith), e)
  get_cases (a ∷ xs) (suc nth) (suc other) y z e =
      ⊎_elim (λ (t : (other ≡ nth) × (y ≡ z)). inl (ap suc t.0, t.1))
      (λ (t : (other ≢ nth) × (slice_get xs other ≡ Some z)). let apart = t.0 in
      inr ((λ same. apart (omega arith)), t.1))
      (get_cases xs nth other y z e)

  pub set_twice : (xs : List A) (nth : ℕ) (x y : A) → slice_set (slice_set xs nth x) nth y ≡ slice_set xs nth y
  set_twice [] nth x y = refl
  set_twice (a ∷ xs) zero x y = refl
  set_twice (a ∷ xs) (suc nth) x y = ap (λ ys. a ∷ ys) (set_twice xs nth x y)

  -- by what it was
  pub set_same : (xs : List A) (nth : ℕ) (x : A) → slice_get xs nth ≡ Some x → slice_set xs nth x ≡ xs
  set_same [] nth x e = refl
  set_same (a ∷ xs) zero x e = ap (λ b. b ∷ xs) (sym (same_Some a x e))
  set_same (a ∷ xs) (suc nth) x e = ap (λ ys. a ∷ ys) (set_same xs nth x e)

  pub some_within : (xs : List A) (nth : ℕ) → nth < length xs → (x : A) × (slice_get xs nth ≡ Some x)
  some_within [] nth less = absurd (omega arith)
  some_within (a ∷ xs) zero less = (a, refl)
  some_within (a ∷ xs) (suc nth) less = some_within xs nth (omega arith)

  -- 2. All elements, and some element

  -- the new element is so, and each other one becomes so
  pub everyone_set : (P Q : ℕ → A → Type 0) (xs : List A) (nth : ℕ) (y : A) → Everyone P xs
      → ((other : ℕ) (x : A) → other ≢ nth → slice_get xs other ≡ Some x → P other x → Q other x) → Q nth y
      → Everyone Q (slice_set xs nth y)
  everyone_set P Q xs nth y all others here other z e =
      ⊎_elim (λ (t : (other ≡ nth) × (y ≡ z)). subst (λ (x : ℕ × A). Q x.0 x.1) (λ k. (sym t.0 k, t.1 k)) here)
      (λ (t : (other ≢ nth) × (slice_get xs other ≡ Some z)). others other z t.0 t.1 (all other z t.1))
      (get_cases xs nth other y z e)

  -- the same, where what is said stays
  pub everyone_put : (P : ℕ → A → Type 0) (xs : List A) (nth : ℕ) (y : A) → Everyone P xs → P nth y
      → Everyone P (slice_set xs nth y)
  everyone_put P xs nth y all here = everyone_set P P xs nth y all (λ other x apart e is. is) here

  -- it is the new element, or another one that was there before
  pub someone_set : (P : ℕ → A → Type 0) (xs : List A) (nth : ℕ) (y : A) → Someone P (slice_set xs nth y)
      → P nth y ⊎ ((other : ℕ) × ((x : A) × ((other ≢ nth) × ((slice_get xs other ≡ Some x) × P other x))))
  someone_set P xs nth y (other, (x, (e, is))) =
      ⊎_elim (λ (t : (other ≡ nth) × (y ≡ x)). inl (subst (λ (z : ℕ × A). P z.0 z.1) (λ k. (t.0 k, sym t.1 k)) is))
      (λ (t : (other ≢ nth) × (slice_get xs other ≡ Some x)). inr (other, (x, (t.0, (t.1, is)))))
      (get_cases xs nth other y x e)

  -- 3. A function

  pub put_cases : (P : A → Type 0) (f : ℕ → A) (nth : ℕ) (x : A) (other : ℕ) → (other ≡ nth → P x)
      → (other ≢ nth → P (f other)) → P (put f nth x other)
  put_cases P f nth x other here beside =
      cond_both (other == nth) x (f other) P (λ e. here (eqb-true other nth e))
      (λ e. beside (eqb-false other nth e))

  pub put_here : (f : ℕ → A) (nth : ℕ) (x : A) → put f nth x nth ≡ x
  put_here f nth x = put_cases (λ y. y ≡ x) f nth x nth (λ e. refl) (λ apart. absurd (apart refl))

  pub put_beside : (f : ℕ → A) (nth : ℕ) (x : A) (other : ℕ) → other ≢ nth → put f nth x other ≡ f other
  put_beside f nth x other apart = put_cases (λ y. y ≡ f other) f nth x other (λ e. absurd (apart e)) (λ e. refl)
