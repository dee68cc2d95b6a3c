-- what a search for a key makes of the words that it finds.
use Rattle.std.proofs.Common.{◌≡◌, ◌≢◌, ◌⊎◌, inl, inr, ℕ, ◌+◌, ◌<◌, ◌≤◌, List, [], ◌∷◌, ◌++◌, refl, sym, ◌∙◌, ap}
use Rattle.std.proofs.Common.{subst, arith, true, false}
use Rattle.std.specs.Prelude.{◌==◌, if◌then◌else◌, ◌↔◌}
use Rattle.std.proofs.lemmas.Bool.{cases_eq}
use Rattle.std.proofs.lemmas.Bool.Decides.{nat_tests}
use Rattle.nam_verbs.specs.declared.now.Now.{Now}
use Rattle.nam_verbs.specs.Steps.{Step, Ends, saw, Stretches, StopsAt}
use Rattle.nam_verbs.proofs.SearchLemmas.{search_ends, search_stops, search_misses}
use Rattle.nam_verbs.proofs.ReadingLemmas.{step_of}
use Rattle.nam_verbs.specs.declared.now.Now.TheVariants as now
use Rattle.nam_layout.specs.declared.field.Field.{Field}
use Rattle.nam_calls.specs.declared.index.FindEnd.{FindEnd}
use Rattle.nam_calls.specs.declared.index.FindEnd.TheVariants.{At, Absent}
use Rattle.nam_calls.specs.declared.index.Path.{Path}
use Rattle.nam_calls.specs.Words.{key_word}
use Rattle.nam_calls.specs.Index.{nth_position, nth_key, find_verb, find_after}
use Rattle.nam_index.specs.FindLaw.{BearsOther, BearsKey, BearsNone}

module _ (path : Path) (some : 1 ≤ path.capacity) where
  abbrev EndsFrom : Now ℕ FindEnd → List (Step Field) → FindEnd → Type 0
  EndsFrom now steps end = Ends (find_verb path) (find_after path) now steps end

  -- after a position that bears another key
  abbrev next : ℕ → Now ℕ FindEnd
  next nth = if nth + 1 == path.capacity then now.Over Absent else now.At (nth + 1)

  -- the position ends the search so
  abbrev Stops : FindEnd → ℕ → List (Step Field) → Type 0
  Stops (At position) nth steps = BearsKey path position nth steps
  Stops Absent nth steps = BearsNone path nth steps

  abbrev Parts : ℕ → List (Step Field) → FindEnd → Type 0
  Parts nth steps end =
      Stops end nth steps
      ⊎ ((first rest : List (Step Field)) × (steps ≡ first ++ rest) × BearsOther path nth first
      × EndsFrom (next nth) rest end)

  -- what follows a word, by what it is
  key_goes : (nth word : ℕ) → word ≡ key_word path.key
      → find_after path nth word ≡ now.Over (At (nth_position path nth))
  key_goes nth word same = let test : (word == key_word path.key) ≡ true = grind (arith, nat_tests) in rw test refl

  none_goes : (nth : ℕ) → find_after path nth 0 ≡ now.Over Absent
  none_goes nth = let test : (0 == key_word path.key) ≡ false = grind (arith, nat_tests) in rw test refl

  other_goes : (nth word : ℕ) → word ≢ 0 → word ≢ key_word path.key → find_after path nth word ≡ next nth
  other_goes nth word not_free other =
      let test : (word == key_word path.key) ≡ false = grind (arith, nat_tests) in
      let free : (word == 0) ≡ false = grind (arith, nat_tests) in
      rw (test, free) refl

  key_stops : (nth : ℕ) (steps : List (Step Field)) (end : FindEnd)
      → EndsFrom (now.Over (At (nth_position path nth))) steps end
      → Stops end nth (saw (nth_key path nth) (key_word path.key) ∷ steps)
  key_stops nth [] (At position) ends = record { position_is = cc; steps_are = refl }
  key_stops nth [] Absent ends = absurd (cc)
  key_stops nth (step ∷ steps) end ends = absurd ends

  none_stops : (nth : ℕ) (steps : List (Step Field)) (end : FindEnd) → EndsFrom (now.Over Absent) steps end
      → Stops end nth (saw (nth_key path nth) 0 ∷ steps)
  none_stops nth [] (At position) ends = absurd (cc)
  none_stops nth [] Absent ends = refl
  none_stops nth (step ∷ steps) end ends = absurd ends

  -- a position stops the search, or bears another key
  part : (nth : ℕ) (steps : List (Step Field)) (end : FindEnd) → EndsFrom (now.At nth) steps end → Parts nth steps end
  part nth [] end ends = absurd ends
  part nth (step ∷ steps) end ends =
      let word = step.found in
      let is : step ≡ saw (nth_key path nth) word = step_of _ step ends.0 in
      let goes = λ (now : Now ℕ FindEnd) (same : find_after path nth word ≡ now). subst
      (λ now. EndsFrom now steps end) same ends.1 in
      elim (cases_eq word (key_word path.key)) [
        | inl same ↦ inl (rw (is, same) (key_stops nth steps end (goes _ (key_goes nth word same))))
        | inr other ↦ elim (cases_eq word 0) [
          | inl free ↦ inl
              (rw (is, free)
              (none_stops nth steps end (goes _ (ap (find_after path nth) free ∙ none_goes nth))))
          | inr not_free ↦
              inr (
                step ∷ [],
                steps,
                refl,
                record { word = word; not_free = not_free; other = other; steps_are = rw (← is) refl },
                goes _ (other_goes nth word not_free other),
              )
        ]
      ]

  -- The other way round.

  passed : (nth : ℕ) (first rest : List (Step Field)) (end : FindEnd) → BearsOther path nth first
      → EndsFrom (next nth) rest end
      → EndsFrom (now.At nth) (first ++ rest) end
  passed nth first rest end bears ends =
      rw bears.steps_are
      (refl, subst (λ now. EndsFrom now rest end) (sym (other_goes nth bears.word bears.not_free bears.other)) ends)

  stopped : (nth : ℕ) (steps : List (Step Field)) (end : FindEnd) → Stops end nth steps
      → EndsFrom (now.At nth) steps end
  stopped nth steps (At position) bears =
      rw (bears.steps_are, bears.position_is) (
        refl,
        subst (λ now. EndsFrom now [] (At (nth_position path nth))) (sym (key_goes nth (key_word path.key) refl))
            refl,
      )
  stopped nth steps Absent bears = rw bears (refl, subst (λ now. EndsFrom now [] Absent) (sym (none_goes nth)) refl)

  -- position after position
  goes_on : (nth : ℕ) → nth + 1 < path.capacity → next nth ≡ now.At (nth + 1)
  goes_on nth more = let test : (nth + 1 == path.capacity) ≡ false = grind (arith, nat_tests) in rw test refl

  misses : (nth : ℕ) → nth + 1 ≡ path.capacity → next nth ≡ now.Over Absent
  misses nth last = let test : (nth + 1 == path.capacity) ≡ true = grind (arith, nat_tests) in rw test refl

  abbrev AllOther : List (Step Field) → Type 0
  AllOther steps = Stretches (BearsOther path) 0 path.capacity steps

  ended : (steps : List (Step Field)) (end : FindEnd) → EndsFrom (now.At 0) steps end
      → StopsAt (BearsOther path) (Stops end) path.capacity steps ⊎ (AllOther steps × (Absent ≡ end))
  ended = search_ends (find_verb path) (find_after path) (λ nth. nth) next path.capacity Absent
      goes_on misses
      (BearsOther path) Stops (λ nth within. part nth) some

  stops : (steps : List (Step Field)) (end : FindEnd) → StopsAt (BearsOther path) (Stops end) path.capacity steps
      → EndsFrom (now.At 0) steps end
  stops = search_stops (find_verb path) (find_after path) (λ nth. nth) next path.capacity Absent
      goes_on misses
      (BearsOther path) Stops (λ nth within. passed nth) (λ nth within. stopped nth)

  all_miss : (steps : List (Step Field)) → AllOther steps → EndsFrom (now.At 0) steps Absent
  all_miss = search_misses (find_verb path) (find_after path) (λ nth. nth) next path.capacity Absent goes_on misses
      (BearsOther path) Stops (λ nth within. passed nth) some

  pub found : (steps : List (Step Field)) (position : ℕ) → EndsFrom (now.At 0) steps (At position)
      ↔ StopsAt (BearsOther path) (BearsKey path position) path.capacity steps
  found steps position = (
    λ ends. elim (ended steps (At position) ends) [
      | inl stop ↦ stop
      | inr missed ↦ let none = missed.1 in absurd (cc)
    ],
    stops steps (At position),
  )

  pub absent : (steps : List (Step Field)) → EndsFrom (now.At 0) steps Absent
      ↔ (StopsAt (BearsOther path) (BearsNone path) path.capacity steps ⊎ AllOther steps)
  absent steps = (
    λ ends. elim (ended steps Absent ends) [ inl stop ↦ inl stop | inr missed ↦ inr missed.0 ],
    λ none. elim none [ inl stop ↦ stops steps Absent stop | inr all ↦ all_miss steps all ],
  )
