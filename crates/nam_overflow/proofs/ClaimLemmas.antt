-- What the claim of a cell makes of the words that it finds.
use Rattle.std.proofs.Common.{◌≡◌, ◌⊎◌, inl, inr, ℕ, ◌+◌, ◌<◌, List, [], ◌∷◌, ◌++◌, refl, arith, Bool, true, false}
use Rattle.std.specs.Prelude.{◌==◌, if◌then◌else◌}
use Rattle.std.proofs.lemmas.Bool.Decides.{nat_tests}
use Rattle.nam_verbs.specs.declared.now.Now.{Now}
use Rattle.nam_verbs.specs.declared.now.Now.TheVariants.{At, Over}
use Rattle.nam_verbs.specs.Steps.{Step, Ends, saw, tried, Stretches, StopsAt}
use Rattle.nam_verbs.proofs.TestLemmas.{by_test, by_equal}
use Rattle.nam_verbs.proofs.SearchLemmas.{search_ends, search_stops, search_misses}
use Rattle.nam_verbs.proofs.ReadingLemmas.{step_of}
use Rattle.nam_header.specs.Tag.{is_free, written}
use Rattle.nam_layout.specs.declared.field.Cells.{Cells}
use Rattle.nam_layout.specs.declared.field.Field.{Field}
use Rattle.nam_layout.specs.declared.field.Field.TheVariants as field
use Rattle.nam_calls.specs.declared.overflow.ClaimPoint.{ClaimPoint}
use Rattle.nam_calls.specs.declared.overflow.ClaimPoint.TheVariants.{ClaimLook, ClaimTake}
use Rattle.nam_calls.specs.declared.overflow.ClaimEnd.{ClaimEnd}
use Rattle.nam_calls.specs.declared.overflow.ClaimEnd.TheVariants.{Claimed, NoRoom}
use Rattle.nam_calls.specs.Overflow.{claim_verb, claim_after, claim_next}
use Rattle.nam_overflow.specs.ClaimLaw.{CellLost, not_free, exchange_lost, CellTaken}

module _ (cells : Cells) (some : 0 < cells.cells) where
  abbrev EndsFrom : Now ClaimPoint ClaimEnd → List (Step Field) → ClaimEnd → Type 0
  EndsFrom now steps end = Ends (claim_verb cells) (claim_after cells) now steps end

  -- the cell ends the claim so
  abbrev Stops : ClaimEnd → ℕ → List (Step Field) → Type 0
  Stops (Claimed taken now) cell steps = CellTaken cells taken now cell steps
  Stops NoRoom cell steps = ⊥

  -- the cell stops the claim, or was lost by its first steps
  abbrev Parts : ℕ → List (Step Field) → ClaimEnd → Type 0
  Parts cell steps end =
      Stops end cell steps ⊎ ((first rest : List (Step Field)) × (steps ≡ first ++ rest) × CellLost cells cell first
      × EndsFrom (claim_next cells cell) rest end)

  -- the end of a claim that took a cell
  takes : (cell tag : ℕ) → is_free tag ≡ true → (steps : List (Step Field)) (end : ClaimEnd)
      → EndsFrom (Over (Claimed cell (written tag))) steps end
      → Stops end cell
      (saw (field.Tag cells.bucket cell) tag ∷ tried (field.Tag cells.bucket cell) tag (written tag) tag ∷ steps)
  takes cell tag free [] NoRoom ends = absurd (cc)
  takes cell tag free [] (Claimed taken now) ends = record
      { tag = tag; free = free; cell_is = cc; now_is = cc; steps_are = refl }
  takes cell tag free (step ∷ steps) end ends = absurd ends

  -- the exchange of a free tag
  part_exchange : (cell tag : ℕ) → is_free tag ≡ true → (steps : List (Step Field)) (end : ClaimEnd)
      → EndsFrom (At (ClaimTake cell tag)) steps end
      → Parts cell (saw (field.Tag cells.bucket cell) tag ∷ steps) end
  part_exchange cell tag free [] end ends = absurd ends
  part_exchange cell tag free (step ∷ steps) end ends =
      let other = step.found in
      let first = saw (field.Tag cells.bucket cell) tag in
      let is : step ≡ tried (field.Tag cells.bucket cell) tag (written tag) other = step_of _ step ends.0 in
      by_equal (λ now. EndsFrom now steps end → Parts cell (first ∷ step ∷ steps) end) other tag
      (Over (Claimed cell (written tag)))
      (claim_next cells cell)
      (λ same goes. inl (rw (is, same) (takes cell tag free steps end goes)))
      (λ lost goes. inr (first ∷ step ∷ [], steps, refl, exchange_lost tag other free lost (rw (← is) refl), goes))
      ends.1

  -- a cell stops the claim, or is lost
  part_cell : (cell : ℕ) (steps : List (Step Field)) (end : ClaimEnd) → EndsFrom (At (ClaimLook cell)) steps end
      → Parts cell steps end
  part_cell cell [] end ends = absurd ends
  part_cell cell (step ∷ steps) end ends =
      let tag = step.found in
      let is : step ≡ saw (field.Tag cells.bucket cell) tag = step_of _ step ends.0 in
      by_test (λ now. EndsFrom now steps end → Parts cell (step ∷ steps) end) (is_free tag) (At (ClaimTake cell tag))
      (claim_next cells cell)
      (λ test goes. rw is (part_exchange cell tag test steps end goes))
      (λ test goes. inr (step ∷ [], steps, refl, not_free tag test (rw (← is) refl), goes))
      ends.1

  -- The other way round: what each test says, put together.

  chosen : (test : Bool) (is : Bool) (a b : Now ClaimPoint ClaimEnd) (steps : List (Step Field)) (end : ClaimEnd)
      → test ≡ is
      → EndsFrom (if is then a else b) steps end → EndsFrom (if test then a else b) steps end
  chosen test is a b steps end same ends = rw same ends

  from_tag : (cell tag : ℕ) (steps : List (Step Field)) (end : ClaimEnd) → is_free tag ≡ true
      → EndsFrom (At (ClaimTake cell tag)) steps end
      → EndsFrom (At (ClaimLook cell)) (saw (field.Tag cells.bucket cell) tag ∷ steps) end
  from_tag cell tag steps end free ends = (
    refl,
    chosen (is_free tag) true (At (ClaimTake cell tag))
        (claim_next cells cell) steps end free ends,
  )

  passed_cell : (cell : ℕ) (first rest : List (Step Field)) (end : ClaimEnd) → CellLost cells cell first
      → EndsFrom (claim_next cells cell) rest end
      → EndsFrom (At (ClaimLook cell)) (first ++ rest) end
  passed_cell cell first rest end (not_free tag test is) ends =
      rw is (refl, chosen (is_free tag) false (At (ClaimTake cell tag)) (claim_next cells cell) rest end test ends)
  passed_cell cell first rest end (exchange_lost tag other free lost is) ends =
      rw is (from_tag cell tag (tried (field.Tag cells.bucket cell) tag (written tag) other ∷ rest) end free (
        refl,
        chosen (other == tag) false (Over (Claimed cell (written tag))) (claim_next cells cell) rest end
            (grind (arith, nat_tests)) ends,
      ))

  stopped_cell : (cell : ℕ) (steps : List (Step Field)) (end : ClaimEnd) → Stops end cell steps
      → EndsFrom (At (ClaimLook cell)) steps end
  stopped_cell cell steps NoRoom stops = absurd stops
  stopped_cell cell steps (Claimed taken now) t =
      rw (t.steps_are, t.cell_is, t.now_is)
      (from_tag cell t.tag (tried (field.Tag cells.bucket cell) t.tag (written t.tag) t.tag ∷ [])
      (Claimed cell (written t.tag))
      t.free (
        refl,
        chosen (t.tag == t.tag) true (Over (Claimed cell (written t.tag))) (claim_next cells cell) []
            (Claimed cell (written t.tag)) (grind (arith, nat_tests)) refl,
      ))

  -- cell after cell
  goes_on : (cell : ℕ) → cell + 1 < cells.cells → claim_next cells cell ≡ At (ClaimLook (cell + 1))
  goes_on cell more = let test : (cell + 1 == cells.cells) ≡ false = grind (arith, nat_tests) in rw test refl

  misses : (cell : ℕ) → cell + 1 ≡ cells.cells → claim_next cells cell ≡ Over NoRoom
  misses cell last = let test : (cell + 1 == cells.cells) ≡ true = grind (arith, nat_tests) in rw test refl

  pub claimed_by : (steps : List (Step Field)) (cell tag : ℕ) → EndsFrom (At (ClaimLook 0)) steps (Claimed cell tag)
      → StopsAt (CellLost cells) (CellTaken cells cell tag) cells.cells steps
  claimed_by steps cell tag ends =
      elim (search_ends (claim_verb cells) (claim_after cells) ClaimLook (claim_next cells) cells.cells NoRoom goes_on
      misses (CellLost cells) Stops
      (λ cell within. part_cell cell) some steps (Claimed cell tag) ends) [
        | inl stops ↦ stops
        | inr lost ↦ let none = lost.1 in absurd (cc)
      ]

  pub claims_by : (steps : List (Step Field)) (cell tag : ℕ)
      → StopsAt (CellLost cells) (CellTaken cells cell tag) cells.cells steps
      → EndsFrom (At (ClaimLook 0)) steps (Claimed cell tag)
  claims_by steps cell tag stops =
      search_stops (claim_verb cells) (claim_after cells) ClaimLook (claim_next cells) cells.cells NoRoom goes_on
      misses (CellLost cells) Stops
      (λ cell within. passed_cell cell) (λ cell within. stopped_cell cell) steps (Claimed cell tag) stops

  pub lost_by : (steps : List (Step Field)) → EndsFrom (At (ClaimLook 0)) steps NoRoom
      → Stretches (CellLost cells) 0 cells.cells steps
  lost_by steps ends =
      elim (search_ends (claim_verb cells) (claim_after cells) ClaimLook (claim_next cells) cells.cells NoRoom goes_on
      misses (CellLost cells) Stops
      (λ cell within. part_cell cell) some steps NoRoom ends) [
        | inl stops ↦ absurd stops.stops
        | inr lost ↦ lost.0
      ]

  pub loses_by : (steps : List (Step Field)) → Stretches (CellLost cells) 0 cells.cells steps
      → EndsFrom (At (ClaimLook 0)) steps NoRoom
  loses_by steps lost =
      search_misses (claim_verb cells) (claim_after cells) ClaimLook (claim_next cells) cells.cells NoRoom goes_on
      misses (CellLost cells) Stops
      (λ cell within. passed_cell cell) some steps lost
