-- What a search of a bucket's cells makes of the words that it finds.
use Rattle.std.proofs.Common.{◌≡◌, ◌⊎◌, inl, inr, ℕ, ◌+◌, ◌<◌, List, [], ◌∷◌, ◌++◌, length, refl, sym}
use Rattle.std.proofs.Common.{subst, arith, Bool, true, false, Option, Some, None}
use Rattle.std.specs.Prelude.{◌==◌, if◌then◌else◌}
use Rattle.std.proofs.lemmas.Bool.Decides.{nat_tests}
use Rattle.std.proofs.lemmas.List.{append_assoc}
use Rattle.nam_verbs.specs.declared.now.Now.{Now}
use Rattle.nam_verbs.specs.declared.now.Now.TheVariants.{At, Over}
use Rattle.nam_verbs.specs.Steps.{Step, Ends, saw, saw_words, Stretches, StopsAt}
use Rattle.nam_verbs.proofs.TestLemmas.{by_test, by_equal, if_in}
use Rattle.nam_verbs.proofs.SearchLemmas.{search_ends, search_stops, search_misses}
use Rattle.nam_verbs.proofs.ReadingLemmas.{step_of, words_read, reads_words}
use Rattle.nam_header.specs.Stamp.{is_deleted, sees}
use Rattle.nam_header.specs.Tag.{is_full}
use Rattle.nam_layout.specs.declared.field.Place.{Place}
use Rattle.nam_layout.specs.declared.field.Cells.{Cells}
use Rattle.nam_layout.specs.PlaceFits.{FitsPlace, FitsCells}
use Rattle.nam_layout.specs.declared.field.Field.{Field}
use Rattle.nam_layout.specs.declared.field.Field.TheVariants as field
use Rattle.nam_calls.specs.declared.overflow.CellPoint.{CellPoint}
use Rattle.nam_calls.specs.declared.overflow.CellPoint.TheVariants.{CellTag, CellOwner, CellBegin, CellEnding}
use Rattle.nam_calls.specs.declared.overflow.CellPoint.TheVariants.{CellWords, CellAgain}
use Rattle.nam_calls.specs.declared.ring.SearchEnd.{SearchEnd}
use Rattle.nam_calls.specs.declared.ring.SearchEnd.TheVariants.{Found, NotThere}
use Rattle.nam_calls.specs.Overflow.{cell_verb, cell_after, next_cell}
use Rattle.nam_overflow.specs.SearchLaw.{HasSeen, owner_steps, end_steps, look_steps, CellEnded, by_tag, by_owner, by_header}
use Rattle.nam_overflow.specs.SearchLaw.{by_end, by_change, CellGives}

module _ (cells : Cells) (place : Place) (room : FitsCells cells) (fits : FitsPlace place) (seen : List ℕ) where
  abbrev EndsFrom : Now CellPoint SearchEnd → List (Step Field) → SearchEnd → Type 0
  EndsFrom now steps end = Ends (cell_verb cells) (cell_after cells place seen) now steps end

  -- the cell ends the search so
  abbrev Stops : SearchEnd → ℕ → List (Step Field) → Type 0
  Stops (Found value) cell steps = CellGives cells place seen value cell steps
  Stops NotThere cell steps = ⊥

  -- the cell stops the search, or was ended by its first steps
  abbrev Parts : ℕ → List (Step Field) → SearchEnd → Type 0
  Parts cell steps end =
      Stops end cell steps
      ⊎ ((first rest : List (Step Field)) × (steps ≡ first ++ rest) × CellEnded cells place seen cell first
      × EndsFrom (next_cell cells cell) rest end)

  abbrev value_of : ℕ → List ℕ → Option (List ℕ)
  value_of header words = if is_deleted place.form header then None else Some words

  -- the end of a search that found something
  gives : (cell tag header ending : ℕ) (words : List ℕ) → HasSeen cells place seen tag header
      → sees place.form seen ending ≡ false
      → length words ≡ place.width → (steps : List (Step Field)) (end : SearchEnd)
      → EndsFrom (Over (Found (value_of header words))) steps end
      → Stops end cell
      (look_steps cells place seen cell tag header ending words ++ saw (field.Tag cells.bucket cell) tag ∷ steps)
  gives cell tag header ending words shows newest whole [] NotThere ends = absurd (cc)
  gives cell tag header ending words shows newest whole [] (Found value) ends = record {
    tag = tag;
    header = header;
    ending = ending;
    words = words;
    shows = shows;
    newest = newest;
    whole = whole;
    value_is = cc;
    steps_are = refl;
  }
  gives cell tag header ending words shows newest whole (step ∷ steps) end ends = absurd ends

  -- the tag read again, after the words
  part_again : (cell tag header ending : ℕ) (words : List ℕ) → HasSeen cells place seen tag header
      → sees place.form seen ending ≡ false
      → length words ≡ place.width → (steps : List (Step Field)) (end : SearchEnd)
      → EndsFrom (At (CellAgain cell tag header words)) steps end
      → Parts cell (look_steps cells place seen cell tag header ending words ++ steps) end
  part_again cell tag header ending words shows newest whole [] end ends = absurd ends
  part_again cell tag header ending words shows newest whole (step ∷ steps) end ends =
      let again = step.found in
      let is : step ≡ saw (field.Tag cells.bucket cell) again = step_of _ step ends.0 in
      let before = look_steps cells place seen cell tag header ending words in
      by_equal (λ now. EndsFrom now steps end → Parts cell (before ++ step ∷ steps) end) again tag
      (Over (Found (value_of header words)))
      (next_cell cells cell)
      (λ same goes. inl (rw (is, same) (gives cell tag header ending words shows newest whole steps end goes)))
      (λ other goes. inr (
        before ++ step ∷ [],
        steps,
        sym (append_assoc before (step ∷ []) steps),
        by_change tag header ending words again shows newest whole other (rw (← is) refl),
        goes,
      ))
      ends.1

  -- the cell's words, after its end
  part_words : (cell tag header ending : ℕ) → HasSeen cells place seen tag header
      → sees place.form seen ending ≡ false → (steps : List (Step Field))
      (end : SearchEnd) → EndsFrom (At (CellWords cell tag header [])) steps end
      → Parts cell (end_steps cells place seen cell tag header ending ++ steps) end
  part_words cell tag header ending shows newest steps end ends =
      let all =
      words_read (cell_verb cells) (cell_after cells place seen) (field.CellWord cells.bucket cell) place.width
      (CellWords cell tag header)
      (λ words. At (CellAgain cell tag header words)) (λ got. refl) (λ got word. if_in At _ _ _) fits.least_width
      steps end ends in
      rw all.2 (part_again cell tag header ending all.0 shows newest all.3 all.1 end all.4)

  -- the cell's end, after its header
  part_end : (cell tag header : ℕ) → HasSeen cells place seen tag header → (steps : List (Step Field)) (end : SearchEnd)
      → EndsFrom (At (CellEnding cell tag header)) steps end
      → Parts cell (owner_steps cells place seen cell tag ++ saw (field.Begin cells.bucket cell) header ∷ steps) end
  part_end cell tag header shows [] end ends = absurd ends
  part_end cell tag header shows (step ∷ steps) end ends =
      let ending = step.found in
      let is : step ≡ saw (field.End cells.bucket cell) ending = step_of _ step ends.0 in
      let before = owner_steps cells place seen cell tag ++ saw (field.Begin cells.bucket cell) header ∷ [] in
      by_test (λ now. EndsFrom now steps end → Parts cell (before ++ step ∷ steps) end) (sees place.form seen ending)
      (next_cell cells cell) (At (CellWords cell tag header []))
      (λ test goes. inr (before ++ step ∷ [], steps, refl, by_end tag header ending shows test (rw (← is) refl), goes))
      (λ test goes. rw is (part_words cell tag header ending shows test steps end goes))
      ends.1

  -- the cell's header, after its owner
  part_header : (cell tag : ℕ) → is_full tag ≡ true → (steps : List (Step Field)) (end : SearchEnd)
      → EndsFrom (At (CellBegin cell tag)) steps end
      → Parts cell (owner_steps cells place seen cell tag ++ steps) end
  part_header cell tag full [] end ends = absurd ends
  part_header cell tag full (step ∷ steps) end ends =
      let header = step.found in
      let is : step ≡ saw (field.Begin cells.bucket cell) header = step_of _ step ends.0 in
      let before = owner_steps cells place seen cell tag in
      by_test (λ now. EndsFrom now steps end → Parts cell (before ++ step ∷ steps) end) (sees place.form seen header)
      (At (CellEnding cell tag header)) (next_cell cells cell)
      (λ test goes. rw is (part_end cell tag header (record { full = full; visible = test }) steps end goes))
      (λ test goes. inr (before ++ step ∷ [], steps, refl, by_header tag header full test (rw (← is) refl), goes))
      ends.1

  -- the cell's owner, after its tag
  part_owner : (cell tag : ℕ) → is_full tag ≡ true → (steps : List (Step Field)) (end : SearchEnd)
      → EndsFrom (At (CellOwner cell tag)) steps end
      → Parts cell (saw (field.Tag cells.bucket cell) tag ∷ steps) end
  part_owner cell tag full [] end ends = absurd ends
  part_owner cell tag full (step ∷ steps) end ends =
      let owner = step.found in
      let first = saw (field.Tag cells.bucket cell) tag in
      let is : step ≡ saw (field.Owner cells.bucket cell) owner = step_of _ step ends.0 in
      by_equal (λ now. EndsFrom now steps end → Parts cell (first ∷ step ∷ steps) end) owner place.row
      (At (CellBegin cell tag)) (next_cell cells cell)
      (λ same goes. rw (is, same) (part_header cell tag full steps end goes))
      (λ other goes. inr (first ∷ step ∷ [], steps, refl, by_owner tag owner full other (rw (← is) refl), goes))
      ends.1

  -- a cell stops the search, or is ended
  part_cell : (cell : ℕ) (steps : List (Step Field)) (end : SearchEnd) → EndsFrom (At (CellTag cell)) steps end
      → Parts cell steps end
  part_cell cell [] end ends = absurd ends
  part_cell cell (step ∷ steps) end ends =
      let tag = step.found in
      let is : step ≡ saw (field.Tag cells.bucket cell) tag = step_of _ step ends.0 in
      by_test (λ now. EndsFrom now steps end → Parts cell (step ∷ steps) end) (is_full tag) (At (CellOwner cell tag))
      (next_cell cells cell)
      (λ test goes. rw is (part_owner cell tag test steps end goes))
      (λ test goes. inr (step ∷ [], steps, refl, by_tag tag test (rw (← is) refl), goes))
      ends.1

  -- The other way round: what each test says, put together.

  chosen : (test : Bool) (is : Bool) (a b : Now CellPoint SearchEnd) (steps : List (Step Field)) (end : SearchEnd)
      → test ≡ is
      → EndsFrom (if is then a else b) steps end → EndsFrom (if test then a else b) steps end
  chosen test is a b steps end same ends = rw same ends

  from_tag : (cell tag : ℕ) (steps : List (Step Field)) (end : SearchEnd) → is_full tag ≡ true
      → EndsFrom (At (CellOwner cell tag)) steps end
      → EndsFrom (At (CellTag cell)) (saw (field.Tag cells.bucket cell) tag ∷ steps) end
  from_tag cell tag steps end full ends = (
    refl,
    chosen (is_full tag) true (At (CellOwner cell tag))
        (next_cell cells cell) steps end full ends,
  )

  from_owner : (cell tag : ℕ) (steps : List (Step Field)) (end : SearchEnd) → is_full tag ≡ true
      → EndsFrom (At (CellBegin cell tag)) steps end
      → EndsFrom (At (CellTag cell)) (owner_steps cells place seen cell tag ++ steps) end
  from_owner cell tag steps end full ends =
      from_tag cell tag (saw (field.Owner cells.bucket cell) place.row ∷ steps) end full (
        refl,
        chosen (place.row == place.row) true (At (CellBegin cell tag)) (next_cell cells cell) steps end
            (grind (arith, nat_tests)) ends,
      )

  from_header : (cell tag header : ℕ) (steps : List (Step Field)) (end : SearchEnd)
      → HasSeen cells place seen tag header
      → EndsFrom (At (CellEnding cell tag header)) steps end
      → EndsFrom (At (CellTag cell))
      (owner_steps cells place seen cell tag ++ saw (field.Begin cells.bucket cell) header ∷ steps) end
  from_header cell tag header steps end shows ends =
      from_owner cell tag (saw (field.Begin cells.bucket cell) header ∷ steps) end shows.full (
        refl,
        chosen (sees place.form seen header) true (At (CellEnding cell tag header)) (next_cell cells cell) steps
            end shows.visible ends,
      )

  from_words : (cell tag header ending : ℕ) (words : List ℕ) (steps : List (Step Field)) (end : SearchEnd)
      → HasSeen cells place seen tag header
      → sees place.form seen ending ≡ false → length words ≡ place.width
      → EndsFrom (At (CellAgain cell tag header words)) steps end
      → EndsFrom (At (CellTag cell)) (look_steps cells place seen cell tag header ending words ++ steps) end
  from_words cell tag header ending words steps end shows newest whole ends =
      from_header cell tag header
      (saw (field.End cells.bucket cell) ending ∷ saw_words (field.CellWord cells.bucket cell) words
      ++ steps) end shows (
        refl,
        chosen (sees place.form seen ending) false (next_cell cells cell) (At (CellWords cell tag header []))
            (saw_words (field.CellWord cells.bucket cell) words ++ steps) end newest
            (reads_words (cell_verb cells) (cell_after cells place seen) (field.CellWord cells.bucket cell) place.width
            (CellWords cell tag header)
            (λ words. At (CellAgain cell tag header words)) (λ got. refl) (λ got word. if_in At _ _ _) words
            fits.least_width whole steps end ends),
      )

  passed_cell : (cell : ℕ) (first rest : List (Step Field)) (end : SearchEnd) → CellEnded cells place seen cell first
      → EndsFrom (next_cell cells cell) rest end
      → EndsFrom (At (CellTag cell)) (first ++ rest) end
  passed_cell cell first rest end (by_tag tag test is) ends =
      rw is (refl, chosen (is_full tag) false (At (CellOwner cell tag)) (next_cell cells cell) rest end test ends)
  passed_cell cell first rest end (by_owner tag owner full other is) ends =
      rw is (from_tag cell tag (saw (field.Owner cells.bucket cell) owner ∷ rest) end full (
        refl,
        chosen (owner == place.row) false (At (CellBegin cell tag)) (next_cell cells cell) rest end
            (grind (arith, nat_tests)) ends,
      ))
  passed_cell cell first rest end (by_header tag header full test is) ends =
      rw is (from_owner cell tag (saw (field.Begin cells.bucket cell) header ∷ rest) end full (
        refl,
        chosen (sees place.form seen header) false (At (CellEnding cell tag header)) (next_cell cells cell) rest
            end test ends,
      ))
  passed_cell cell first rest end (by_end tag header ending shows test is) ends =
      rw is (from_header cell tag header (saw (field.End cells.bucket cell) ending ∷ rest) end shows (
        refl,
        chosen (sees place.form seen ending) true (next_cell cells cell) (At (CellWords cell tag header [])) rest
            end test ends,
      ))
  passed_cell cell first rest end (by_change tag header ending words again shows newest whole other is) ends =
      let before = look_steps cells place seen cell tag header ending words in
      let last = saw (field.Tag cells.bucket cell) again in
      rw is (subst (λ steps. EndsFrom (At (CellTag cell)) steps end) (sym (append_assoc before (last ∷ []) rest))
      (from_words cell tag header ending words (last ∷ rest) end shows newest whole (
        refl,
        chosen (again == tag) false (Over (Found (value_of header words))) (next_cell cells cell) rest end
            (grind (arith, nat_tests)) ends,
      )))

  stopped_cell : (cell : ℕ) (steps : List (Step Field)) (end : SearchEnd) → Stops end cell steps
      → EndsFrom (At (CellTag cell)) steps end
  stopped_cell cell steps NotThere stops = absurd stops
  stopped_cell cell steps (Found value) g =
      rw (g.steps_are, g.value_is) (from_words cell g.tag g.header g.ending g.words
      (saw (field.Tag cells.bucket cell) g.tag ∷ []) (Found (value_of g.header g.words)) g.shows g.newest g.whole (
        refl,
        chosen (g.tag == g.tag) true (Over (Found (value_of g.header g.words))) (next_cell cells cell) []
            (Found (value_of g.header g.words)) (grind (arith, nat_tests)) refl,
      ))

  -- cell after cell
  goes_on : (cell : ℕ) → cell + 1 < cells.cells → next_cell cells cell ≡ At (CellTag (cell + 1))
  goes_on cell more = let test : (cell + 1 == cells.cells) ≡ false = grind (arith, nat_tests) in rw test refl

  misses : (cell : ℕ) → cell + 1 ≡ cells.cells → next_cell cells cell ≡ Over NotThere
  misses cell last = let test : (cell + 1 == cells.cells) ≡ true = grind (arith, nat_tests) in rw test refl

  pub found_by : (steps : List (Step Field)) (value : Option (List ℕ)) → EndsFrom (At (CellTag 0)) steps (Found value)
      → StopsAt (CellEnded cells place seen) (CellGives cells place seen value) cells.cells steps
  found_by steps value ends =
      elim (search_ends (cell_verb cells) (cell_after cells place seen) CellTag (next_cell cells) cells.cells NotThere
      goes_on misses
      (CellEnded cells place seen) Stops (λ cell within. part_cell cell) room.least_cells steps (Found value) ends) [
        | inl stops ↦ stops
        | inr missed ↦ let none = missed.1 in absurd (cc)
      ]

  pub finds_by : (steps : List (Step Field)) (value : Option (List ℕ))
      → StopsAt (CellEnded cells place seen) (CellGives cells place seen value) cells.cells steps
      → EndsFrom (At (CellTag 0)) steps (Found value)
  finds_by steps value stops =
      search_stops (cell_verb cells) (cell_after cells place seen) CellTag (next_cell cells) cells.cells NotThere
      goes_on misses
      (CellEnded cells place seen) Stops (λ cell within. passed_cell cell) (λ cell within. stopped_cell cell) steps
      (Found value) stops

  pub missed_by : (steps : List (Step Field)) → EndsFrom (At (CellTag 0)) steps NotThere
      → Stretches (CellEnded cells place seen) 0 cells.cells steps
  missed_by steps ends =
      elim (search_ends (cell_verb cells) (cell_after cells place seen) CellTag (next_cell cells) cells.cells NotThere
      goes_on misses
      (CellEnded cells place seen) Stops (λ cell within. part_cell cell) room.least_cells steps NotThere ends) [
        | inl stops ↦ absurd stops.stops
        | inr missed ↦ missed.0
      ]

  pub misses_by : (steps : List (Step Field)) → Stretches (CellEnded cells place seen) 0 cells.cells steps
      → EndsFrom (At (CellTag 0)) steps NotThere
  misses_by steps passed =
      search_misses (cell_verb cells) (cell_after cells place seen) CellTag (next_cell cells) cells.cells NotThere
      goes_on misses
      (CellEnded cells place seen) Stops (λ cell within. passed_cell cell) room.least_cells steps passed
