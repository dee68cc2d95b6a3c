-- what a claim of a position for a key makes of the words that it finds.
use Rattle.std.proofs.Common.{◌≡◌, ◌≢◌, ◌⊎◌, inl, inr, ℕ, ◌+◌, ◌<◌, ◌≤◌, List, [], ◌∷◌, ◌++◌, refl, sym, subst, arith}
use Rattle.std.proofs.Common.{true, false, ◌||◌}
use Rattle.std.specs.Prelude.{◌==◌, ◌↔◌}
use Rattle.std.proofs.lemmas.Bool.{cases_eq}
use Rattle.std.proofs.lemmas.List.{append-nil}
use Rattle.std.proofs.lemmas.Bool.Decides.{nat_tests}
use Rattle.nam_verbs.specs.declared.now.Now.{Now}
use Rattle.nam_verbs.specs.Steps.{Step, Ends, saw, tried, Stretches, StopsAt}
use Rattle.nam_verbs.proofs.SearchLemmas.{search_ends, search_stops, search_misses}
use Rattle.nam_verbs.proofs.ReadingLemmas.{step_of}
use Rattle.nam_verbs.specs.declared.now.Now.TheVariants as now
use Rattle.nam_layout.specs.declared.field.Field.{Field}
use Rattle.nam_calls.specs.declared.index.ClaimKeyPoint.{ClaimKeyPoint}
use Rattle.nam_calls.specs.declared.index.ClaimKeyPoint.TheVariants.{KeyLook, KeyTake}
use Rattle.nam_calls.specs.declared.index.ClaimKeyEnd.{ClaimKeyEnd}
use Rattle.nam_calls.specs.declared.index.ClaimKeyEnd.TheVariants.{At, NoSpace}
use Rattle.nam_calls.specs.declared.index.Path.{Path}
use Rattle.nam_calls.specs.Words.{key_word}
use Rattle.nam_calls.specs.Index.{nth_position, nth_key, claim_key_verb, claim_key_after, claim_key_next}
use Rattle.nam_index.specs.ClaimLaw.{exchange_steps, OtherHas, by_look, by_loss, KeyHas, was_there, is_claimed}
use Rattle.nam_index.specs.ClaimLaw.{was_claimed}

module _ (path : Path) (some : 1 ≤ path.capacity) where
  abbrev after : ClaimKeyPoint → ℕ → Now ClaimKeyPoint ClaimKeyEnd
  after = claim_key_after path

  abbrev EndsFrom : Now ClaimKeyPoint ClaimKeyEnd → List (Step Field) → ClaimKeyEnd → Type 0
  EndsFrom now steps end = Ends (claim_key_verb path) after now steps end

  -- after a position that bears another key
  abbrev next : ℕ → Now ClaimKeyPoint ClaimKeyEnd
  next = claim_key_next path

  -- the claim ends at the position after so many
  abbrev there : ℕ → Now ClaimKeyPoint ClaimKeyEnd
  there nth = now.Over (At (nth_position path nth))

  -- the position ends the claim so
  abbrev Stops : ClaimKeyEnd → ℕ → List (Step Field) → Type 0
  Stops (At position) nth steps = KeyHas path position nth steps
  Stops NoSpace nth steps = ⊥

  abbrev Parts : ℕ → List (Step Field) → ClaimKeyEnd → Type 0
  Parts nth steps end =
      Stops end nth steps
      ⊎ ((first rest : List (Step Field)) × (steps ≡ first ++ rest) × OtherHas path nth first
      × EndsFrom (next nth) rest end)

  -- what follows a word, by what it is
  key_goes : (nth word : ℕ) → word ≡ key_word path.key → after (KeyLook nth) word ≡ there nth
  key_goes nth word same = let test : (word == key_word path.key) ≡ true = grind (arith, nat_tests) in rw test refl

  free_goes : (nth word : ℕ) → word ≡ 0 → after (KeyLook nth) word ≡ now.At (KeyTake nth)
  free_goes nth word free =
      let test : (word == key_word path.key) ≡ false = grind (arith, nat_tests) in
      let none : (word == 0) ≡ true = grind (arith, nat_tests) in
      rw (test, none) refl

  other_goes : (nth word : ℕ) → word ≢ 0 → word ≢ key_word path.key → after (KeyLook nth) word ≡ next nth
  other_goes nth word not_free other =
      let test : (word == key_word path.key) ≡ false = grind (arith, nat_tests) in
      let none : (word == 0) ≡ false = grind (arith, nat_tests) in
      rw (test, none) refl

  taken_goes : (nth word : ℕ) → (word ≡ 0) ⊎ (word ≡ key_word path.key) → after (KeyTake nth) word ≡ there nth
  taken_goes nth word why =
      let test : ((word == 0) || (word == key_word path.key)) ≡ true = grind (arith, nat_tests) in rw test refl

  lost_goes : (nth word : ℕ) → word ≢ 0 → word ≢ key_word path.key → after (KeyTake nth) word ≡ next nth
  lost_goes nth word not_free other =
      let test : ((word == 0) || (word == key_word path.key)) ≡ false = grind (arith, nat_tests) in rw test refl

  -- the end at a position, by what was found there
  there_stops : (nth : ℕ) (done : List (Step Field))
      → ((position : ℕ) → position ≡ nth_position path nth → KeyHas path position nth done)
      → (steps : List (Step Field)) (end : ClaimKeyEnd) → EndsFrom (there nth) steps end → Stops end nth (done ++ steps)
  there_stops nth done has [] (At position) ends = rw append-nil (has position (cc))
  there_stops nth done has [] NoSpace ends = absurd (cc)
  there_stops nth done has (step ∷ steps) end ends = absurd ends

  -- the exchange of a free position
  part_take : (nth : ℕ) (steps : List (Step Field)) (end : ClaimKeyEnd) → EndsFrom (now.At (KeyTake nth)) steps end
      → Parts nth (saw (nth_key path nth) 0 ∷ steps) end
  part_take nth [] end ends = absurd ends
  part_take nth (step ∷ steps) end ends =
      let word = step.found in
      let is : step ≡ tried (nth_key path nth) 0 (key_word path.key) word = step_of _ step ends.0 in
      let goes = λ (now : Now ClaimKeyPoint ClaimKeyEnd) (same : after (KeyTake nth) word ≡ now). subst
      (λ now. EndsFrom now steps end) same ends.1 in
      elim (cases_eq word 0) [
        | inl free ↦
            inl (rw (is, free)
            (there_stops nth (exchange_steps path nth 0) (λ position here. is_claimed here refl) steps end
            (goes _ (taken_goes nth word (inl free)))))
        | inr not_free ↦ elim (cases_eq word (key_word path.key)) [
          | inl same ↦
              inl (rw (is, same)
              (there_stops nth (exchange_steps path nth (key_word path.key))
              (λ position here. was_claimed here refl) steps end
              (goes _ (taken_goes nth word (inr same)))))
          | inr other ↦
              inr (
                saw (nth_key path nth) 0 ∷ step ∷ [],
                steps,
                refl,
                by_loss word not_free other (rw (← is) refl),
                goes _ (lost_goes nth word not_free other),
              )
        ]
      ]

  -- a position ends the claim, or bears another key
  part : (nth : ℕ) (steps : List (Step Field)) (end : ClaimKeyEnd) → EndsFrom (now.At (KeyLook nth)) steps end
      → Parts nth steps end
  part nth [] end ends = absurd ends
  part nth (step ∷ steps) end ends =
      let word = step.found in
      let is : step ≡ saw (nth_key path nth) word = step_of _ step ends.0 in
      let goes = λ (now : Now ClaimKeyPoint ClaimKeyEnd) (same : after (KeyLook nth) word ≡ now). subst
      (λ now. EndsFrom now steps end) same ends.1 in
      elim (cases_eq word (key_word path.key)) [
        | inl same ↦
            inl (rw (is, same)
            (there_stops nth (saw (nth_key path nth) (key_word path.key) ∷ [])
            (λ position here. was_there here refl) steps end
            (goes _ (key_goes nth word same))))
        | inr other ↦ elim (cases_eq word 0) [
          | inl free ↦ rw (is, free) (part_take nth steps end (goes _ (free_goes nth word free)))
          | inr not_free ↦
              inr (
                step ∷ [],
                steps,
                refl,
                by_look word not_free other (rw (← is) refl),
                goes _
                    (other_goes nth word not_free other),
              )
        ]
      ]

  -- The other way round.

  goes_back : (at : ClaimKeyPoint) (word : ℕ) (now : Now ClaimKeyPoint ClaimKeyEnd) (steps : List (Step Field))
      (end : ClaimKeyEnd) → after at word ≡ now
      → EndsFrom now steps end → EndsFrom (after at word) steps end
  goes_back at word now steps end same ends = subst (λ now. EndsFrom now steps end) (sym same) ends

  passed : (nth : ℕ) (first rest : List (Step Field)) (end : ClaimKeyEnd) → OtherHas path nth first
      → EndsFrom (next nth) rest end
      → EndsFrom (now.At (KeyLook nth)) (first ++ rest) end
  passed nth first rest end (by_look word not_free other is) ends =
      rw is (refl, goes_back (KeyLook nth) word (next nth) rest end (other_goes nth word not_free other) ends)
  passed nth first rest end (by_loss word not_free other is) ends =
      rw is (
        refl,
        goes_back (KeyLook nth) 0 (now.At (KeyTake nth))
            (tried (nth_key path nth) 0 (key_word path.key) word ∷ rest) end (free_goes nth 0 refl)
            (refl, goes_back (KeyTake nth) word (next nth) rest end (lost_goes nth word not_free other) ends),
      )

  exchange_stops : (nth word : ℕ) → (word ≡ 0) ⊎ (word ≡ key_word path.key)
      → EndsFrom (now.At (KeyLook nth)) (exchange_steps path nth word) (At (nth_position path nth))
  exchange_stops nth word why =
      let end = At (nth_position path nth) in (
        refl,
        goes_back (KeyLook nth) 0 (now.At (KeyTake nth))
            (tried (nth_key path nth) 0 (key_word path.key) word ∷ []) end (free_goes nth 0 refl)
            (refl, goes_back (KeyTake nth) word (there nth) [] end (taken_goes nth word why) refl),
      )

  stopped : (nth : ℕ) (steps : List (Step Field)) (end : ClaimKeyEnd) → Stops end nth steps
      → EndsFrom (now.At (KeyLook nth)) steps end
  stopped nth steps NoSpace stops = absurd stops
  stopped nth steps (At position) (was_there here is) =
      rw (is, here) (
        refl,
        goes_back (KeyLook nth) (key_word path.key) (there nth) [] (At (nth_position path nth))
            (key_goes nth (key_word path.key) refl) refl,
      )
  stopped nth steps (At position) (is_claimed here is) = rw (is, here) (exchange_stops nth 0 (inl refl))
  stopped nth steps (At position) (was_claimed here is) =
      rw (is, here) (exchange_stops nth (key_word path.key) (inr refl))

  -- position after position
  goes_on : (nth : ℕ) → nth + 1 < path.capacity → next nth ≡ now.At (KeyLook (nth + 1))
  goes_on nth more = let test : (nth + 1 == path.capacity) ≡ false = grind (arith, nat_tests) in rw test refl

  misses : (nth : ℕ) → nth + 1 ≡ path.capacity → next nth ≡ now.Over NoSpace
  misses nth last = let test : (nth + 1 == path.capacity) ≡ true = grind (arith, nat_tests) in rw test refl

  abbrev AllOther : List (Step Field) → Type 0
  AllOther steps = Stretches (OtherHas path) 0 path.capacity steps

  ended : (steps : List (Step Field)) (end : ClaimKeyEnd) → EndsFrom (now.At (KeyLook 0)) steps end
      → StopsAt (OtherHas path) (Stops end) path.capacity steps ⊎ (AllOther steps × (NoSpace ≡ end))
  ended = search_ends (claim_key_verb path) after KeyLook next path.capacity NoSpace goes_on misses
      (OtherHas path) Stops (λ nth within. part nth) some

  pub claimed : (steps : List (Step Field)) (position : ℕ) → EndsFrom (now.At (KeyLook 0)) steps (At position)
      ↔ StopsAt (OtherHas path) (KeyHas path position) path.capacity steps
  claimed steps position = (
    λ ends. elim (ended steps (At position) ends) [
      | inl stop ↦ stop
      | inr missed ↦ let none = missed.1 in absurd (cc)
    ],
    search_stops (claim_key_verb path) after KeyLook next path.capacity NoSpace goes_on misses (OtherHas path) Stops
        (λ nth within. passed nth) (λ nth within. stopped nth) steps (At position),
  )

  pub no_space : (steps : List (Step Field)) → EndsFrom (now.At (KeyLook 0)) steps NoSpace ↔ AllOther steps
  no_space steps = (
    λ ends. elim (ended steps NoSpace ends) [ inl stop ↦ absurd stop.stops | inr missed ↦ missed.0 ],
    search_misses (claim_key_verb path) after KeyLook next path.capacity NoSpace goes_on misses (OtherHas path) Stops
        (λ nth within. passed nth) some steps,
  )
