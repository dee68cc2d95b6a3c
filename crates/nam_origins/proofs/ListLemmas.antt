-- The last element of a list.
use Rattle.std.proofs.Common.{List, Some, [], arith, inl, inr, refl, suc, zero, ℕ, ◌++◌, ◌+◌, ◌∷◌, ◌≡◌}
use Rattle.std.proofs.lemmas.Option.{none-some, same_Some}
use Rattle.std.specs.Prelude.{length, slice_get}
use Rattle.si_model.specs.Lists.{Listed, last_of}

module _ {A : Type 0} where
  pub last_push : (xs : List A) (x : A) → last_of (xs ++ x ∷ []) ≡ Some x
  last_push [] x = refl
  last_push (a ∷ []) x = refl
  last_push (a ∷ b ∷ xs) x = last_push (b ∷ xs) x

  pub last_listed : (xs : List A) (x : A) → last_of xs ≡ Some x → Listed x xs
  last_listed [] x e = absurd (none-some x e)
  last_listed (a ∷ []) x e = inl (same_Some a x e)
  last_listed (a ∷ b ∷ xs) x e = inr (last_listed (b ∷ xs) x e)

  -- the last one is at the end
  pub last_got : (xs : List A) (x : A) (nth : ℕ) → last_of xs ≡ Some x → nth + 1 ≡ length xs → slice_get xs nth ≡ Some x
  last_got [] x nth e long = absurd (none-some x e)
  last_got (a ∷ []) x zero e long = e
  last_got (a ∷ []) x (suc nth) e long = absurd (omega arith)
  last_got (a ∷ b ∷ xs) x zero e long = absurd (omega arith)
  last_got (a ∷ b ∷ xs) x (suc nth) e long = last_got (b ∷ xs) x nth e (omega arith)
