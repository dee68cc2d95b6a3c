-- Double collect: candidates stay ordered, where the vector doesn't fall and each of them was one or is new.
use Rattle.std.proofs.Common.{List, arith, inl, inr, ℕ, ◌<◌, ◌≤◌}
use Rattle.nam_ghost.proofs.ObserverLemmas.{unpassed_before}
use Rattle.nam_ghost.specs.Moments.{AreFound, AreMoments, AreOrdered, HasGrown, IsUnpassed}

module _ (start workers : ℕ) (V now : ℕ → ℕ) (Was Is : List ℕ → ℕ → Type 0)
    (rises : (a : ℕ) → a < workers → V a ≤ now a) where
  module _ (moments : AreMoments start workers V Was)
      (grown : (s : List ℕ) (confirmed : ℕ) → Is s confirmed → HasGrown start workers now Was s confirmed) where
    within_by : (s : List ℕ) (confirmed : ℕ) → HasGrown start workers now Was s confirmed
        → AreFound start now workers s
    within_by s confirmed (inl (before, was, agrees)) a less =
        let rose = rises a less in let found = moments.within s before was a less in (found.0, omega arith)
    within_by s confirmed (inr (none, found)) a less = found a less

    -- one that is new has found each entry as it is now, or was begun later than the other
    ordered_by : (s t : List ℕ) (k l : ℕ) → HasGrown start workers now Was s k → HasGrown start workers now Was t l
        → IsUnpassed workers now s k → IsUnpassed workers now t l → AreOrdered workers s t
    ordered_by s t k l (inl (j, was, agrees)) (inl (i, other, agree)) u v =
        moments.ordered s t j i was other (unpassed_before workers V now rises s j k agrees u)
        (unpassed_before workers V now rises t i l agree v)
    ordered_by s t k l (inl (j, was, agrees)) (inr (none, found)) u v =
        inl (λ a less. let at_most = v a (omega arith) less in
        let own = within_by s k (inl (j, was, agrees)) a less in let found = own.1 in omega arith)
    ordered_by s t k l (inr (none, found)) other u v =
        inr (λ a less. let at_most = u a (omega arith) less in
        let own = within_by t l other a less in let found = own.1 in omega arith)

    pub moments_keep : AreMoments start workers now Is
    moments_keep = record {
      within = λ s confirmed is. within_by s confirmed (grown s confirmed is);
      ordered = λ s t k l one two. ordered_by s t k l (grown s k one) (grown t l two);
    }
