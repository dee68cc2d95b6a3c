-- Lists by number, lists that get more elements at the end, and one in which an element was put.
use Rattle.std.proofs.Common.{List, Some, [], ap, inl, inr, refl, subst, suc, sym, zero, ℕ, ⊎_elim, ◌++◌, ◌∙◌, ◌∷◌, ◌≡◌}
use Rattle.std.proofs.Common.{◌≢◌, ◌⊎◌}
use Rattle.std.proofs.lemmas.Bool.{cases_eq}
use Rattle.std.proofs.lemmas.Option.{none-some, same_Some, slice_get-get_or}
use Rattle.std.specs.Prelude.{length, slice_get, slice_set}
use Rattle.nam_store.proofs.Lists.{get_beside, get_set}
use Rattle.nam_store.specs.Everyone.{Someone}
use Rattle.si_model.proofs.ListLemmas.{All-append, contains_listed, listed_append_left}
use Rattle.si_model.specs.Lists.{IsFront, Listed, Pairwise}

module _ {A : Type 0} where
  -- 1. Numbers and elements

  pub got_listed : (xs : List A) (nth : ℕ) (x : A) → slice_get xs nth ≡ Some x → Listed x xs
  got_listed [] nth x e = absurd (none-some x e)
  got_listed (a ∷ xs) zero x e = inl (same_Some a x e)
  got_listed (a ∷ xs) (suc nth) x e = inr (got_listed xs nth x e)

  pub listed_got : (xs : List A) (x : A) → Listed x xs → (place : ℕ) × (slice_get xs place ≡ Some x)
  listed_got xs x listed =
      let at = contains_listed xs x listed in (at.0, slice_get-get_or xs at.0 x at.1 ∙ ap Some at.2)

  -- 2. Longer lists

  pub got_front : (xs ys : List A) (place : ℕ) (x : A) → slice_get xs place ≡ Some x
      → slice_get (xs ++ ys) place ≡ Some x
  got_front [] ys place x e = absurd (none-some x e)
  got_front (a ∷ xs) ys zero x e = e
  got_front (a ∷ xs) ys (suc place) x e = got_front xs ys place x e

  pub got_end : (xs : List A) (x : A) → slice_get (xs ++ x ∷ []) (length xs) ≡ Some x
  got_end [] x = refl
  got_end (a ∷ xs) x = got_end xs x

  -- it is an earlier one, or the new one in its place
  pub got_push : (xs : List A) (x y : A) (nth : ℕ) → slice_get (xs ++ x ∷ []) nth ≡ Some y
      → (slice_get xs nth ≡ Some y) ⊎ ((nth ≡ length xs) × (x ≡ y))
  got_push [] x y zero e = inr (refl, same_Some x y e)
  got_push [] x y (suc nth) e = absurd (none-some y e)
  got_push (a ∷ xs) x y zero e = inl e
  got_push (a ∷ xs) x y (suc nth) e =
      ⊎_elim (λ old. inl old) (λ (new : (nth ≡ length xs) × (x ≡ y)). inr (ap suc new.0, new.1))
      (got_push xs x y nth e)

  -- each stands so to the new one
  pub pairs_push : (R : A → A → Type 0) (xs : List A) (y : A) → Pairwise R xs
      → ((n : ℕ) (x : A) → slice_get xs n ≡ Some x → R x y) → Pairwise R (xs ++ y ∷ [])
  pairs_push R [] y pairs last = (tt, tt)
  pairs_push R (x ∷ xs) y pairs last = (
    All-append (R x) xs (y ∷ []) pairs.0 (last zero x refl, tt),
    pairs_push R xs y pairs.1 (λ n z is. last (suc n) z is),
  )

  pub front_listed : (xs ys : List A) → IsFront xs ys → (x : A) → Listed x xs → Listed x ys
  front_listed xs ys front x is = subst (Listed x) front.1 (listed_append_left xs front.0 x is)

-- where one element is put, that is so wherever the one before it was
pub someone_stays : {A : Type 0} (P : ℕ → A → Type 0) (xs : List A) (nth : ℕ) (x y : A) → slice_get xs nth ≡ Some x
    → (P nth x → P nth y) → Someone P xs → Someone P (slice_set xs nth y)
someone_stays {A} P xs nth x y here becomes (other, (z, (there, is))) =
    ⊎_elim (λ (same : other ≡ nth).
    let one = same_Some z x (sym there ∙ ap (slice_get xs) same ∙ here) in
    (nth, (y, (get_set xs nth x y here, becomes (subst (λ (u : ℕ × A). P u.0 u.1) (λ t. (same t, one t)) is)))))
    (λ (apart : other ≢ nth). (other, (z, (get_beside xs nth other y apart ∙ there, is))))
    (cases_eq other nth)
