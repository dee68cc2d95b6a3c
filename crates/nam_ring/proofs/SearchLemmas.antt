-- What a search of a ring makes of the words that it finds.
use Rattle.std.proofs.Common.{◌≡◌, ◌≢◌, ◌⊎◌, inl, inr, ℕ, ◌+◌, ◌<◌, List, [], ◌∷◌, ◌++◌, length, refl, sym, subst}
use Rattle.std.proofs.Common.{arith, Bool, true, false, not, ◌&&◌, ◌||◌, Option, Some, None}
use Rattle.std.specs.Prelude.{◌==◌, if◌then◌else◌}
use Rattle.std.proofs.lemmas.Bool.Decides.{nat_tests}
use Rattle.std.proofs.lemmas.List.{append_assoc}
use Rattle.nam_verbs.specs.declared.now.Now.{Now}
use Rattle.nam_verbs.specs.declared.now.Now.TheVariants.{At, Over}
use Rattle.nam_verbs.specs.Steps.{Step, Ends, saw_words, Stretches, StopsAt}
use Rattle.nam_verbs.proofs.TestLemmas.{by_test, if_in}
use Rattle.nam_verbs.proofs.SearchLemmas.{search_ends, search_stops, search_misses}
use Rattle.nam_verbs.proofs.ReadingLemmas.{step_of, words_read, reads_words}
use Rattle.nam_header.specs.Stamp.{is_deleted, same_stamp, sees, mark}
use Rattle.nam_layout.specs.declared.field.Place.{Place}
use Rattle.nam_layout.specs.PlaceFits.{FitsPlace}
use Rattle.nam_layout.specs.declared.field.Field.{Field}
use Rattle.nam_layout.specs.declared.field.Field.TheVariants as field
use Rattle.nam_calls.specs.declared.ring.RingPoint.{RingPoint}
use Rattle.nam_calls.specs.declared.ring.RingPoint.TheVariants.{SlotHead, SlotEnding, SlotWords, SlotAgain}
use Rattle.nam_calls.specs.declared.ring.SearchEnd.{SearchEnd}
use Rattle.nam_calls.specs.declared.ring.SearchEnd.TheVariants.{Found, NotThere}
use Rattle.nam_calls.specs.Ring.{ring_verb, ring_after, next_slot}
use Rattle.nam_ring.specs.SearchLaw.{saw_header, saw_end, HasSeen, look_steps, SlotEnded, SlotGives}
use Rattle.nam_ring.specs.SearchLaw.{by_header, by_end, by_change}

module _ (place : Place) (fits : FitsPlace place) (seen : List ℕ) where
  abbrev EndsFrom : Now RingPoint SearchEnd → List (Step Field) → SearchEnd → Type 0
  EndsFrom now steps end = Ends (ring_verb place) (ring_after place seen) now steps end

  -- the slot ends the search so
  abbrev Stops : SearchEnd → ℕ → List (Step Field) → Type 0
  Stops (Found value) slot steps = SlotGives place seen value slot steps
  Stops NotThere slot steps = ⊥

  -- the slot stops the search, or was ended by its first steps
  abbrev Parts : ℕ → List (Step Field) → SearchEnd → Type 0
  Parts slot steps end =
      Stops end slot steps ⊎
      ((first rest : List (Step Field)) × (steps ≡ first ++ rest) × SlotEnded place seen slot first
      × EndsFrom (next_slot place slot) rest end)

  abbrev value_of : ℕ → List ℕ → Option (List ℕ)
  value_of header words = if is_deleted place.form header then None else Some words

  -- the end of a search that found something
  gives : (slot header ending : ℕ) (words : List ℕ) (again : ℕ) → HasSeen place seen header
      → sees place.form seen ending ≡ false → length words ≡ place.width
      → same_stamp place.form again header ≡ true → again ≢ mark
      → (steps : List (Step Field)) (end : SearchEnd) → EndsFrom (Over (Found (value_of header words))) steps end
      → Stops end slot (look_steps place seen slot header ending words ++ saw_header place slot again ∷ steps)
  gives slot header ending words again shows newest whole same still [] NotThere ends = absurd (cc)
  gives slot header ending words again shows newest whole same still [] (Found value) ends = record {
    header = header;
    ending = ending;
    words = words;
    again = again;
    shows = shows;
    newest = newest;
    whole = whole;
    same = same;
    still = still;
    value_is = cc;
    steps_are = refl;
  }
  gives slot header ending words again shows newest whole same still (step ∷ steps) end ends = absurd ends

  -- the header read again, after the words
  part_again : (slot header ending : ℕ) (words : List ℕ) → HasSeen place seen header
      → sees place.form seen ending ≡ false → length words ≡ place.width
      → (steps : List (Step Field)) (end : SearchEnd) → EndsFrom (At (SlotAgain slot header words)) steps end
      → Parts slot (look_steps place seen slot header ending words ++ steps) end
  part_again slot header ending words shows newest whole [] end ends = absurd ends
  part_again slot header ending words shows newest whole (step ∷ steps) end ends =
      let again = step.found in
      let is : step ≡ saw_header place slot again = step_of _ step ends.0 in
      let before = look_steps place seen slot header ending words in
      let ended : (same_stamp place.form again header ≡ false) ⊎ (again ≡ mark)
      → EndsFrom (next_slot place slot) steps end → Parts slot (before ++ step ∷ steps) end =
      λ why goes. inr (
        before ++ step ∷ [],
        steps,
        sym
            (append_assoc before (step ∷ []) steps),
        by_change header ending words again shows newest whole why
            (rw (← is) refl),
        goes,
      ) in
      by_test (λ now. EndsFrom now steps end → Parts slot (before ++ step ∷ steps) end)
      (same_stamp place.form again header && not (again == mark))
      (Over (Found (value_of header words))) (next_slot place slot)
      (λ test goes. inl (rw is (gives slot header ending words again shows newest whole (grind (arith, nat_tests))
      (grind (arith, nat_tests)) steps end goes)))
      (λ test. ended (grind (arith, nat_tests)))
      ends.1

  -- the slot's words, after its end
  part_words : (slot header ending : ℕ) → HasSeen place seen header → sees place.form seen ending ≡ false
      → (steps : List (Step Field)) (end : SearchEnd)
      → EndsFrom (At (SlotWords slot header [])) steps end
      → Parts slot (saw_header place slot header ∷ saw_end place slot ending ∷ steps) end
  part_words slot header ending shows newest steps end ends =
      let all = words_read (ring_verb place) (ring_after place seen) (field.SlotWord place.row slot) place.width
      (SlotWords slot header)
      (λ words. At (SlotAgain slot header words)) (λ got. refl)
      (λ got word. if_in At _ _ _) fits.least_width steps end ends in
      rw all.2 (part_again slot header ending all.0 shows newest all.3 all.1 end all.4)

  -- the slot's end, after its header
  part_end : (slot header : ℕ) → HasSeen place seen header → (steps : List (Step Field)) (end : SearchEnd)
      → EndsFrom (At (SlotEnding slot header)) steps end
      → Parts slot (saw_header place slot header ∷ steps) end
  part_end slot header shows [] end ends = absurd ends
  part_end slot header shows (step ∷ steps) end ends =
      let ending = step.found in
      let first = saw_header place slot header in
      let is : step ≡ saw_end place slot ending = step_of _ step ends.0 in
      by_test (λ now. EndsFrom now steps end → Parts slot (first ∷ step ∷ steps) end) (sees place.form seen ending)
      (next_slot place slot) (At (SlotWords slot header []))
      (λ test goes. inr (first ∷ step ∷ [], steps, refl, by_end header ending shows test (rw (← is) refl), goes))
      (λ test goes. rw is (part_words slot header ending shows test steps end goes))
      ends.1

  -- a slot stops the search, or is ended
  part_slot : (slot : ℕ) (steps : List (Step Field)) (end : SearchEnd) → EndsFrom (At (SlotHead slot)) steps end
      → Parts slot steps end
  part_slot slot [] end ends = absurd ends
  part_slot slot (step ∷ steps) end ends =
      let header = step.found in
      let is : step ≡ saw_header place slot header = step_of _ step ends.0 in
      by_test (λ now. EndsFrom now steps end → Parts slot (step ∷ steps) end)
      ((header == mark) || not (sees place.form seen header))
      (next_slot place slot) (At (SlotEnding slot header))
      (λ test goes. inr (step ∷ [], steps, refl, by_header header (grind (arith, nat_tests)) (rw (← is) refl), goes))
      (λ test goes. rw is (part_end slot header (record
      { version = grind (arith, nat_tests); visible = grind (arith, nat_tests) }) steps end goes))
      ends.1

  -- The other way round: what each test says, put together.

  chosen : (test : Bool) (is : Bool) (a b : Now RingPoint SearchEnd) (steps : List (Step Field)) (end : SearchEnd)
      → test ≡ is → EndsFrom (if is then a else b) steps end
      → EndsFrom (if test then a else b) steps end
  chosen test is a b steps end same ends = rw same ends

  from_head : (slot header : ℕ) (steps : List (Step Field)) (end : SearchEnd) → HasSeen place seen header
      → EndsFrom (At (SlotEnding slot header)) steps end
      → EndsFrom (At (SlotHead slot)) (saw_header place slot header ∷ steps) end
  from_head slot header steps end shows ends =
      let version = shows.version in let visible = shows.visible in (
        refl,
        chosen ((header == mark) || not (sees place.form seen header)) false (next_slot place slot)
            (At (SlotEnding slot header)) steps end (grind (arith, nat_tests)) ends,
      )

  from_words : (slot header ending : ℕ) (words : List ℕ) (steps : List (Step Field)) (end : SearchEnd)
      → HasSeen place seen header → sees place.form seen ending ≡ false
      → length words ≡ place.width → EndsFrom (At (SlotAgain slot header words)) steps end
      → EndsFrom (At (SlotHead slot)) (look_steps place seen slot header ending words ++ steps) end
  from_words slot header ending words steps end shows newest whole ends =
      from_head slot header (saw_end place slot ending ∷ saw_words
      (field.SlotWord place.row slot) words ++ steps) end shows (
        refl,
        chosen (sees place.form seen ending) false (next_slot place slot) (At (SlotWords slot header []))
            (saw_words (field.SlotWord place.row slot) words ++ steps) end newest
            (reads_words (ring_verb place) (ring_after place seen) (field.SlotWord place.row slot) place.width
            (SlotWords slot header)
            (λ words. At (SlotAgain slot header words)) (λ got. refl)
            (λ got word. if_in At _ _ _) words fits.least_width whole steps end ends),
      )

  passed_slot : (slot : ℕ) (first rest : List (Step Field)) (end : SearchEnd) → SlotEnded place seen slot first
      → EndsFrom (next_slot place slot) rest end
      → EndsFrom (At (SlotHead slot)) (first ++ rest) end
  passed_slot slot first rest end (by_header header why is) ends =
      rw is (
        refl,
        chosen ((header == mark) || not (sees place.form seen header)) true (next_slot place slot)
            (At (SlotEnding slot header)) rest end (grind (arith, nat_tests)) ends,
      )
  passed_slot slot first rest end (by_end header ending shows ended is) ends =
      rw is (from_head slot header (saw_end place slot ending ∷ rest) end shows (
        refl,
        chosen (sees place.form seen ending) true (next_slot place slot)
            (At (SlotWords slot header [])) rest end ended ends,
      ))
  passed_slot slot first rest end (by_change header ending words again shows newest whole why is) ends =
      rw is (subst (λ steps. EndsFrom (At (SlotHead slot)) steps end)
      (sym (append_assoc (look_steps place seen slot header ending words) (saw_header place slot again ∷ []) rest))
      (from_words slot header ending words (saw_header place slot again ∷ rest) end shows newest whole (
        refl,
        chosen (same_stamp place.form again header && not (again == mark)) false
            (Over (Found (value_of header words))) (next_slot place slot) rest end (grind (arith, nat_tests)) ends,
      )))

  stopped_slot : (slot : ℕ) (steps : List (Step Field)) (end : SearchEnd) → Stops end slot steps
      → EndsFrom (At (SlotHead slot)) steps end
  stopped_slot slot steps NotThere stops = absurd stops
  stopped_slot slot steps (Found value) g =
      let same = g.same in let still = g.still in
      rw (g.steps_are, g.value_is) (from_words slot g.header g.ending g.words (saw_header place slot g.again ∷ [])
      (Found (value_of g.header g.words)) g.shows g.newest g.whole (
        refl,
        chosen (same_stamp place.form g.again g.header && not (g.again == mark)) true
            (Over (Found (value_of g.header g.words))) (next_slot place slot) [] (Found (value_of g.header g.words))
            (grind (arith, nat_tests)) refl,
      ))

  -- slot after slot
  goes_on : (slot : ℕ) → slot + 1 < place.ring → next_slot place slot ≡ At (SlotHead (slot + 1))
  goes_on slot more = let test : (slot + 1 == place.ring) ≡ false = grind (arith, nat_tests) in rw test refl

  misses : (slot : ℕ) → slot + 1 ≡ place.ring → next_slot place slot ≡ Over NotThere
  misses slot last = let test : (slot + 1 == place.ring) ≡ true = grind (arith, nat_tests) in rw test refl

  pub found_by : (steps : List (Step Field)) (value : Option (List ℕ)) → EndsFrom (At (SlotHead 0)) steps (Found value)
      → StopsAt (SlotEnded place seen) (SlotGives place seen value) place.ring steps
  found_by steps value ends =
      elim (search_ends (ring_verb place) (ring_after place seen) SlotHead
      (next_slot place) place.ring NotThere goes_on misses (SlotEnded place seen) Stops
      (λ slot within. part_slot slot) fits.least_ring steps (Found value) ends) [
        | inl stops ↦ stops
        | inr missed ↦ let none = missed.1 in absurd (cc)
      ]

  pub finds_by : (steps : List (Step Field)) (value : Option (List ℕ))
      → StopsAt (SlotEnded place seen) (SlotGives place seen value) place.ring steps
      → EndsFrom (At (SlotHead 0)) steps (Found value)
  finds_by steps value stops =
      search_stops (ring_verb place) (ring_after place seen) SlotHead
      (next_slot place) place.ring NotThere goes_on misses (SlotEnded place seen) Stops
      (λ slot within. passed_slot slot) (λ slot within. stopped_slot slot) steps (Found value) stops

  pub missed_by : (steps : List (Step Field)) → EndsFrom (At (SlotHead 0)) steps NotThere
      → Stretches (SlotEnded place seen) 0 place.ring steps
  missed_by steps ends =
      elim (search_ends (ring_verb place) (ring_after place seen) SlotHead
      (next_slot place) place.ring NotThere goes_on misses (SlotEnded place seen) Stops
      (λ slot within. part_slot slot) fits.least_ring steps NotThere ends) [
        | inl stops ↦ absurd stops.stops
        | inr missed ↦ missed.0
      ]

  pub misses_by : (steps : List (Step Field)) → Stretches (SlotEnded place seen) 0 place.ring steps
      → EndsFrom (At (SlotHead 0)) steps NotThere
  misses_by steps passed =
      search_misses (ring_verb place) (ring_after place seen) SlotHead
      (next_slot place) place.ring NotThere goes_on misses (SlotEnded place seen) Stops
      (λ slot within. passed_slot slot) fits.least_ring steps passed
