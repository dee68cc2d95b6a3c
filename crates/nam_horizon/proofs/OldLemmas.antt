-- What showing that a snapshot is too old makes of the words that it finds.
use Rattle.std.proofs.Common.{◌≡◌, ◌⊎◌, inl, inr, ℕ, ◌+◌, ◌-◌, ◌<◌, ◌≤◌, List, [], ◌∷◌, ◌++◌, refl, sym, ap, subst}
use Rattle.std.proofs.Common.{arith, true, false}
use Rattle.std.specs.Prelude.{◌==◌, nat_lt, if◌then◌else◌, slice_index}
use Rattle.std.proofs.lemmas.Bool.{cases_lt}
use Rattle.std.proofs.lemmas.Bool.Decides.{nat_tests}
use Rattle.nam_verbs.specs.declared.now.Now.{Now}
use Rattle.nam_verbs.specs.declared.now.Now.TheVariants.{At, Over}
use Rattle.nam_verbs.specs.Steps.{Step, Ends, saw, Stretches, StopsAt}
use Rattle.nam_verbs.proofs.SearchLemmas.{search_ends, search_stops, search_misses}
use Rattle.nam_verbs.proofs.ReadingLemmas.{step_of}
use Rattle.nam_layout.specs.declared.field.Field.{Field}
use Rattle.nam_layout.specs.declared.field.Field.TheVariants as field
use Rattle.nam_calls.specs.declared.horizon.OldEnd.{OldEnd}
use Rattle.nam_calls.specs.declared.horizon.OldEnd.TheVariants.{TooOld, NotPassed}
use Rattle.nam_calls.specs.Horizon.{old_verb, old_after}
use Rattle.nam_horizon.specs.OldLaw.{NotAbove, IsAbove}

module _ (workers : ℕ) (some : 1 ≤ workers) (seen : List ℕ) where
  abbrev EndsFrom : Now ℕ OldEnd → List (Step Field) → OldEnd → Type 0
  EndsFrom now steps end = Ends old_verb (old_after workers seen) now steps end

  -- after so many workers and one more
  abbrev next : ℕ → Now ℕ OldEnd
  next nth = if nth + 1 == workers then Over NotPassed else At (nth + 1 + 1)

  -- the worker ends it so
  abbrev Stops : OldEnd → ℕ → List (Step Field) → Type 0
  Stops (TooOld worker entry horizon) nth steps = IsAbove seen worker entry horizon nth steps
  Stops NotPassed nth steps = ⊥

  abbrev Parts : ℕ → List (Step Field) → OldEnd → Type 0
  Parts nth steps end =
      Stops end nth steps
      ⊎ ((first rest : List (Step Field)) × (steps ≡ first ++ rest) × NotAbove seen nth first
      × EndsFrom (next nth) rest end)

  entry_is : (nth : ℕ) → slice_index seen (nth + 1 - 1) ≡ slice_index seen nth
  entry_is nth = let same : nth + 1 - 1 ≡ nth = omega arith in ap (slice_index seen) same

  -- what follows a word, by what it is
  above_goes : (nth found : ℕ) → slice_index seen nth < found
      → old_after workers seen (nth + 1) found ≡ Over (TooOld (nth + 1) (slice_index seen nth) found)
  above_goes nth found above =
      let test : nat_lt (slice_index seen nth) found ≡ true = grind (arith, nat_tests) in
      rw (entry_is nth, test) refl

  other_goes : (nth found : ℕ) → found ≤ slice_index seen nth → old_after workers seen (nth + 1) found ≡ next nth
  other_goes nth found least =
      let test : nat_lt (slice_index seen nth) found ≡ false = grind (arith, nat_tests) in
      rw (entry_is nth, test) refl

  above_stops : (nth found : ℕ) → slice_index seen nth < found → (steps : List (Step Field)) (end : OldEnd)
      → EndsFrom (Over (TooOld (nth + 1) (slice_index seen nth) found)) steps end
      → Stops end nth (saw (field.Horizon (nth + 1)) found ∷ steps)
  above_stops nth found above [] (TooOld worker entry horizon) ends =
      let worker_is : worker ≡ nth + 1 = cc in
      let entry_is : entry ≡ slice_index seen nth = cc in
      let found_is : horizon ≡ found = cc in
      record { worker_is = worker_is; entry_is = entry_is; above = omega arith; steps_are = rw found_is refl }
  above_stops nth found above [] NotPassed ends = absurd (cc)
  above_stops nth found above (step ∷ steps) end ends = absurd ends

  -- a worker ends it, or its entry is not above
  part : (nth : ℕ) (steps : List (Step Field)) (end : OldEnd) → EndsFrom (At (nth + 1)) steps end → Parts nth steps end
  part nth [] end ends = absurd ends
  part nth (step ∷ steps) end ends =
      let found = step.found in
      let is : step ≡ saw (field.Horizon (nth + 1)) found = step_of _ step ends.0 in
      let goes = λ (now : Now ℕ OldEnd) (same : old_after workers seen (nth + 1) found ≡ now). subst
      (λ now. EndsFrom now steps end) same ends.1 in
      elim (cases_lt (slice_index seen nth) found) [
        | inl above ↦ inl (rw is (above_stops nth found above steps end (goes _ (above_goes nth found above))))
        | inr least ↦
            inr (
              step ∷ [],
              steps,
              refl,
              record { found = found; not_above = least; steps_are = rw (← is) refl },
              goes
                  _ (other_goes nth found least),
            )
      ]

  -- The other way round.

  passed : (nth : ℕ) (first rest : List (Step Field)) (end : OldEnd) → NotAbove seen nth first
      → EndsFrom (next nth) rest end
      → EndsFrom (At (nth + 1)) (first ++ rest) end
  passed nth first rest end is ends =
      rw is.steps_are (refl, subst (λ now. EndsFrom now rest end) (sym (other_goes nth is.found is.not_above)) ends)

  stopped : (nth : ℕ) (steps : List (Step Field)) (end : OldEnd) → Stops end nth steps
      → EndsFrom (At (nth + 1)) steps end
  stopped nth steps NotPassed stops = absurd stops
  stopped nth steps (TooOld worker entry horizon) is =
      let above : slice_index seen nth < horizon = subst (λ e. e < horizon) is.entry_is is.above in
      rw (is.steps_are, is.worker_is, is.entry_is) (
        refl,
        subst (λ now. EndsFrom now [] (TooOld (nth + 1) (slice_index seen nth) horizon))
            (sym (above_goes nth horizon above)) refl,
      )

  -- worker after worker
  goes_on : (nth : ℕ) → nth + 1 < workers → next nth ≡ At (nth + 1 + 1)
  goes_on nth more = let test : (nth + 1 == workers) ≡ false = grind (arith, nat_tests) in rw test refl

  misses : (nth : ℕ) → nth + 1 ≡ workers → next nth ≡ Over NotPassed
  misses nth last = let test : (nth + 1 == workers) ≡ true = grind (arith, nat_tests) in rw test refl

  ended : (steps : List (Step Field)) (end : OldEnd) → EndsFrom (At 1) steps end
      → StopsAt (NotAbove seen) (Stops end) workers steps
      ⊎ (Stretches (NotAbove seen) 0 workers steps × (NotPassed ≡ end))
  ended = search_ends old_verb (old_after workers seen) (λ nth. nth + 1) next workers NotPassed goes_on misses
      (NotAbove seen) Stops (λ nth within. part nth) some

  pub too_old_by : (steps : List (Step Field)) (worker entry horizon : ℕ)
      → EndsFrom (At 1) steps (TooOld worker entry horizon)
      → StopsAt (NotAbove seen) (IsAbove seen worker entry horizon) workers steps
  too_old_by steps worker entry horizon ends = elim (ended steps (TooOld worker entry horizon) ends) [
    | inl stop ↦ stop
    | inr missed ↦ let none = missed.1 in absurd (cc)
  ]

  pub is_too_old : (steps : List (Step Field)) (worker entry horizon : ℕ)
      → StopsAt (NotAbove seen) (IsAbove seen worker entry horizon) workers steps
      → EndsFrom (At 1) steps (TooOld worker entry horizon)
  is_too_old steps worker entry horizon =
      search_stops old_verb (old_after workers seen) (λ nth. nth + 1) next workers NotPassed goes_on misses
      (NotAbove seen) Stops (λ nth within. passed nth) (λ nth within. stopped nth) steps
      (TooOld worker entry horizon)

  pub not_passed_by : (steps : List (Step Field)) → EndsFrom (At 1) steps NotPassed
      → Stretches (NotAbove seen) 0 workers steps
  not_passed_by steps ends = elim (ended steps NotPassed ends) [
    | inl stop ↦ absurd stop.stops
    | inr missed ↦ missed.0
  ]

  pub is_not_passed : (steps : List (Step Field)) → Stretches (NotAbove seen) 0 workers steps
      → EndsFrom (At 1) steps NotPassed
  is_not_passed =
      search_misses old_verb (old_after workers seen) (λ nth. nth + 1) next workers NotPassed goes_on misses
      (NotAbove seen) Stops (λ nth within. passed nth) some
