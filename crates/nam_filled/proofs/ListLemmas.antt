-- Lists by their places, and their last elements.
use Rattle.std.proofs.Common.{List, Some, [], ap, arith, inl, inr, length, refl, slice_get, suc}
use Rattle.std.proofs.Common.{zero, ℕ, ⊎_elim, ◌++◌, ◌∷◌, ◌≡◌, ◌⊎◌}
use Rattle.std.proofs.lemmas.Option.{none-some, same_Some}
use Rattle.si_model.specs.Lists.{Listed, last_of}

module _ {A : Type 0} where
  pub get_front : (xs ys : List A) (n : ℕ) (x : A) → slice_get xs n ≡ Some x → slice_get (xs ++ ys) n ≡ Some x
  get_front [] ys n x e = absurd (none-some x e)
  get_front (z ∷ xs) ys zero x e = e
  get_front (z ∷ xs) ys (suc n) x e = get_front xs ys n x e

  pub get_end : (xs : List A) (y : A) → slice_get (xs ++ y ∷ []) (length xs) ≡ Some y
  get_end [] y = refl
  get_end (x ∷ xs) y = get_end xs y

  -- it is one of the list, or the last
  pub get_cases : (xs : List A) (y : A) (n : ℕ) (x : A) → slice_get (xs ++ y ∷ []) n ≡ Some x
      → (slice_get xs n ≡ Some x) ⊎ ((n ≡ length xs) × (y ≡ x))
  get_cases [] y zero x e = inr (refl, same_Some y x e)
  get_cases [] y (suc n) x e = absurd (none-some x e)
  get_cases (z ∷ xs) y zero x e = inl e
  get_cases (z ∷ xs) y (suc n) x e =
      ⊎_elim (λ (t : slice_get xs n ≡ Some x). inl t)
      (λ (t : (n ≡ length xs) × (y ≡ x)). inr (omega (arith, t.0), t.1))
      (get_cases xs y n x e)

  pub listed_get : (xs : List A) (x : A) → Listed x xs → (n : ℕ) × (slice_get xs n ≡ Some x)
  listed_get [] x listed = absurd listed
  listed_get (y ∷ xs) x listed =
      ⊎_elim (λ (e : y ≡ x). (0, ap Some e))
      (λ (l : Listed x xs). let t = listed_get xs x l in (suc t.0, t.1)) listed

  pub get_listed : (xs : List A) (n : ℕ) (x : A) → slice_get xs n ≡ Some x → Listed x xs
  get_listed [] n x e = absurd (none-some x e)
  get_listed (y ∷ xs) zero x e = inl (same_Some y x e)
  get_listed (y ∷ xs) (suc n) x e = inr (get_listed xs n x e)

  pub last_push : (xs : List A) (x : A) → last_of (xs ++ x ∷ []) ≡ Some x
  last_push [] x = refl
  last_push (y ∷ []) x = refl
  last_push (y ∷ z ∷ xs) x = last_push (z ∷ xs) x

  pub last_listed : (xs : List A) (x : A) → last_of xs ≡ Some x → Listed x xs
  last_listed [] x e = absurd (none-some x e)
  last_listed (y ∷ []) x e = inl (same_Some y x e)
  last_listed (y ∷ z ∷ xs) x e = inr (last_listed (z ∷ xs) x e)
