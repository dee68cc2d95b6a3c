-- What follows of observers from what one client's step owes: entries rise, and each candidate was one or is new.
use Rattle.std.proofs.Common.{List, None, Option, Some, [], ap, arith, inl, inr, length, map, refl, subst, suc, sym}
use Rattle.std.proofs.Common.{zero, ℕ, ◌<◌, ◌∙◌, ◌∷◌, ◌≡◌, ◌≢◌, ◌≤◌, ◌⊎◌}
use Rattle.std.proofs.lemmas.Bool.{cases_eq, cases_lt}
use Rattle.std.proofs.lemmas.Option.{none-some, same_Some}
use Rattle.std.specs.Prelude.{slice_get, slice_index, slice_set}
use Rattle.nam_ghost.specs.Moments.{AreObservers, HasGrown, IsCandidate, IsCandidateOf, IsPassing, IsUnpassed, Observer}
use Rattle.nam_ghost.specs.Moments.{ObserverNext, ObserverOk, PassOk, observer_of}
use Rattle.nam_protocol.specs.declared.client.ClientState.{ClientState}
use Rattle.nam_store.proofs.Lists.{someone_set}
use Rattle.nam_vector.specs.declared.snap.SnapPoint.{SnapPoint}
use Rattle.nam_vector.specs.declared.snap.SnapPoint.TheVariants.{First, Second}

-- 1. Clients as observers

-- an observer in the list is some client
pub observed_client : (clients : List ClientState) (nth : ℕ) (observer : Observer)
    → slice_get (map observer_of clients) nth ≡ Some observer
    → (client : ClientState) × (slice_get clients nth ≡ Some client) × (observer_of client ≡ observer)
observed_client [] nth observer e = absurd (none-some observer e)
observed_client (c ∷ cs) zero observer e = (c, refl, same_Some (observer_of c) observer e)
observed_client (c ∷ cs) (suc nth) observer e = observed_client cs nth observer e

-- a snapshot in its second pass, and one that was taken, has an entry for each worker
passing_wide : (start workers : ℕ) (V : ℕ → ℕ) (snaps : List (List ℕ)) (pass : Option SnapPoint) (s : List ℕ)
    (confirmed : ℕ) → PassOk start workers V snaps pass → IsPassing pass s confirmed → length s ≡ workers
passing_wide start workers V snaps None s confirmed ok is = absurd is
passing_wide start workers V snaps (Some (First got)) s confirmed ok is = absurd is
passing_wide start workers V snaps (Some (Second seen at)) s confirmed ok is = ap length (sym is.0) ∙ ok.1

candidate_wide : (start workers : ℕ) (V : ℕ → ℕ) (nth : ℕ) (observer : Observer)
    → ObserverOk start workers V nth observer → (s : List ℕ) (confirmed : ℕ)
    → IsCandidateOf workers observer s confirmed → length s ≡ workers
candidate_wide start workers V nth observer ok s confirmed (inl passing) =
    passing_wide start workers V observer.snaps observer.pass s confirmed ok.pass passing
candidate_wide start workers V nth observer ok s confirmed (inr taken) = ok.wide s taken.1

-- 2. What one client's step owes, for all

-- where the entries that were confirmed since then are not passed
pub unpassed_before : (workers : ℕ) (V now : ℕ → ℕ) → ((a : ℕ) → a < workers → V a ≤ now a) → (s : List ℕ)
    (before confirmed : ℕ) → ((a : ℕ) → before ≤ a → a < confirmed → now a ≤ slice_index s a)
    → IsUnpassed workers now s confirmed → IsUnpassed workers V s before
unpassed_before workers V now rises s before confirmed agrees unpassed a from less = elim (cases_lt a confirmed) [
  | inl short ↦ let rose = rises a less in let at_most = agrees a from short in omega arith
  | inr past ↦ let rose = rises a less in let at_most = unpassed a past less in omega arith
]

module _ (start workers : ℕ) (V : ℕ → ℕ) (observers : List Observer) (ok : AreObservers start workers V observers)
    (nth : ℕ) (before : Observer) (here : slice_get observers nth ≡ Some before) (now : ℕ → ℕ) (after : Observer)
    (next : ObserverNext start workers V now nth before after) where
  -- the vector falls nowhere
  pub entries_rise : (a : ℕ) → a < workers → V a ≤ now a
  entries_rise a less = elim (cases_eq a nth) [
    | inl same ↦ subst (λ (x : ℕ). V x ≤ now x) (sym same) next.rises
    | inr apart ↦ let same = next.others a less apart in omega arith
  ]

  -- each candidate that there is now, whosever it is, was one or is new
  pub all_grown : (s : List ℕ) (confirmed : ℕ) → IsCandidate workers (slice_set observers nth after) s confirmed
      → HasGrown start workers now (IsCandidate workers observers) s confirmed
  all_grown s confirmed is =
      by_client (someone_set (λ _ observer. IsCandidateOf workers observer s confirmed) observers nth after is)
    where
      by_own : HasGrown start workers now (IsCandidateOf workers before) s confirmed
          → HasGrown start workers now (IsCandidate workers observers) s confirmed
      by_own (inl (earlier, was, agrees)) = inl (earlier, (nth, (before, (here, was))), agrees)
      by_own (inr new) = inr new

      by_client : (IsCandidateOf workers after s confirmed)
          ⊎ ((other : ℕ) × ((x : Observer) × ((other ≢ nth) × ((slice_get observers other ≡ Some x)
          × IsCandidateOf workers x s confirmed))))
          → HasGrown start workers now (IsCandidate workers observers) s confirmed
      by_client (inl own) = by_own (next.grown s confirmed own)
      by_client (inr (other, (x, (apart, (there, was))))) =
          inl (confirmed, (other, (x, (there, was))), λ a from less. absurd (omega arith))

  -- one whose unconfirmed entries the vector hasn't passed was such a one before; or it has all entries as they are
  -- now
  pub was_or_is : (s : List ℕ) (confirmed : ℕ) → IsCandidate workers (slice_set observers nth after) s confirmed
      → IsUnpassed workers now s confirmed
      → ((earlier : ℕ) × IsCandidate workers observers s earlier × IsUnpassed workers V s earlier)
      ⊎ ((a : ℕ) → a < workers → now a ≤ slice_index s a)
  was_or_is s confirmed is unpassed = elim (all_grown s confirmed is) [
    | inl (earlier, was, agrees) ↦
        inl (
          earlier,
          was,
          unpassed_before workers V now entries_rise s earlier confirmed agrees unpassed,
        )
    | inr (none, found) ↦ inr (λ a less. unpassed a (omega arith) less)
  ]

  -- and has an entry for each worker
  pub grown_wide : (s : List ℕ) (confirmed : ℕ) → IsCandidate workers (slice_set observers nth after) s confirmed
      → length s ≡ workers
  grown_wide s confirmed is =
      elim (someone_set (λ _ observer. IsCandidateOf workers observer s confirmed) observers nth after is) [
        | inl own ↦ candidate_wide start workers now nth after next.own s confirmed own
        | inr (other, (x, (apart, (there, was)))) ↦
            candidate_wide start workers V other x (ok.each other x there) s confirmed was
      ]
