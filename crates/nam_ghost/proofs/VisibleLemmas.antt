-- Which stamps a snapshot sees: the loader's, and those that its entries have reached.
use Rattle.std.proofs.Common.{List, arith, eqb, inl, inr, leb, length, subst, true, ℕ, ⊎_elim, ◌&&◌, ◌+◌, ◌-◌, ◌<◌, ◌≡◌}
use Rattle.std.proofs.Common.{◌≤◌}
use Rattle.std.proofs.lemmas.Bool.{and_from, and_parts, cond_both, eq-eqb, eqb-false, eqb-true, false_from_ne_true}
use Rattle.std.proofs.lemmas.Bool.{le-leb, leb-true}
use Rattle.std.proofs.lemmas.Bool.Decides.{nat_tests}
use Rattle.std.specs.Prelude.{Bool, false, slice_index}
use Rattle.nam_ghost.specs.Moments.{AtMost}
use Rattle.nam_header.specs.Visible.{IsLoaders, IsReached, IsVisible, is_visible}
use Rattle.si_model.specs.declared.log.Stamp.{Stamp}

-- 1. The loader's stamp, and those of workers

module _ (stamp : Stamp) (seen : List ℕ) where
  abbrev within : Bool
  within = leb stamp.thread (length seen) && leb stamp.number (slice_index seen (stamp.thread - 1))

  pub visible_says : is_visible stamp seen ≡ true → IsVisible stamp seen
  visible_says =
      cond_both (eqb stamp.thread 0) (eqb stamp.number 0) within (λ b. b ≡ true → IsVisible stamp seen)
      (λ none is. inl (eqb-true stamp.thread 0 none, eqb-true stamp.number 0 is))
      (λ some is. let apart = eqb-false stamp.thread 0 some in
      let parts = and_parts (leb stamp.thread (length seen))
      (leb stamp.number (slice_index seen (stamp.thread - 1))) is in
      inr (
        omega arith,
        leb-true stamp.thread (length seen) parts.0,
        leb-true stamp.number (slice_index seen (stamp.thread - 1)) parts.1,
      ))

  pub loaders_visible : IsLoaders stamp → is_visible stamp seen ≡ true
  loaders_visible is =
      cond_both (eqb stamp.thread 0) (eqb stamp.number 0) within (λ b. b ≡ true)
      (λ none. eq-eqb stamp.number 0 is.1) (λ some. absurd (eqb-false stamp.thread 0 some is.0))

  pub reached_visible : IsReached stamp seen → is_visible stamp seen ≡ true
  reached_visible is =
      cond_both (eqb stamp.thread 0) (eqb stamp.number 0) within (λ b. b ≡ true)
      (λ none. let zero = eqb-true stamp.thread 0 none in let some = is.0 in absurd (omega arith))
      (λ some. and_from (leb stamp.thread (length seen)) (leb stamp.number (slice_index seen (stamp.thread - 1)))
      (le-leb stamp.thread (length seen) is.1) (le-leb stamp.number (slice_index seen (stamp.thread - 1)) is.2))

-- a later snapshot sees it too
pub visible_rises : (workers : ℕ) (stamp : Stamp) (s t : List ℕ) → length s ≡ workers → length t ≡ workers
    → AtMost workers s t → is_visible stamp s ≡ true → is_visible stamp t ≡ true
visible_rises workers stamp s t wide long most is =
    ⊎_elim (λ (loaders : IsLoaders stamp). loaders_visible stamp t loaders)
    (λ (reached : IsReached stamp s).
    let some = reached.0 in let few = reached.1 in let number = reached.2 in
    let entry = most (stamp.thread - 1) (omega arith) in
    reached_visible stamp t (some, omega arith, omega arith))
    (visible_says stamp s is)

-- 2. A stamp of a worker; workers count from 0

pub sees_says : (stamp : Stamp) (nth : ℕ) (seen : List ℕ) → stamp.thread ≡ nth + 1 → is_visible stamp seen ≡ true
    → (nth < length seen) × (stamp.number ≤ slice_index seen nth)
sees_says stamp nth seen thread sees =
    let entry : stamp.thread - 1 ≡ nth = omega arith in
    (grind (arith, nat_tests), subst (λ a. stamp.number ≤ slice_index seen a) entry (grind (arith, nat_tests)))

pub sees_by : (stamp : Stamp) (nth : ℕ) (seen : List ℕ) → stamp.thread ≡ nth + 1 → nth < length seen
    → stamp.number ≤ slice_index seen nth → is_visible stamp seen ≡ true
sees_by stamp nth seen thread less reached =
    let entry : nth ≡ stamp.thread - 1 = omega arith in
    let number = subst (λ a. stamp.number ≤ slice_index seen a) entry reached in grind (arith, nat_tests)

pub unreached_hidden : (nth : ℕ) (stamp : Stamp) (seen : List ℕ) → stamp.thread ≡ nth + 1
    → slice_index seen nth < stamp.number → is_visible stamp seen ≡ false
unreached_hidden nth stamp seen thread past =
    false_from_ne_true (is_visible stamp seen)
    (λ sees. let reached = (sees_says stamp nth seen thread sees).1 in omega arith)
