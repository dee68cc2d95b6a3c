-- How the look at a slot ends.
use Rattle.std.proofs.Common.{◌≡◌, ℕ, List, [], ◌∷◌, refl, sym, ◌∙◌, ap, subst, true, false}
use Rattle.nam_verbs.specs.declared.now.Now.{Now}
use Rattle.nam_verbs.specs.declared.now.Now.TheVariants.{At, Over}
use Rattle.nam_verbs.specs.Steps.{Step, Ends, saw}
use Rattle.nam_verbs.proofs.TestLemmas.{by_test}
use Rattle.nam_verbs.proofs.ReadingLemmas.{step_of}
use Rattle.nam_header.specs.Stamp.{is_moved}
use Rattle.nam_layout.specs.declared.field.Place.{Place}
use Rattle.nam_layout.specs.Place.{slot_of}
use Rattle.nam_layout.specs.declared.field.Field.{Field}
use Rattle.nam_layout.specs.declared.field.Field.TheVariants as field
use Rattle.nam_calls.specs.declared.ring.SlotPoint.{SlotPoint}
use Rattle.nam_calls.specs.declared.ring.SlotPoint.TheVariants.{CheckCount}
use Rattle.nam_calls.specs.declared.ring.SlotEnd.{SlotEnd}
use Rattle.nam_calls.specs.declared.ring.SlotEnd.TheVariants.{Free, NotMoved}
use Rattle.nam_calls.specs.Ring.{slot_verb, slot_after}
use Rattle.nam_ring.specs.CheckLaw.{check_steps}

module _ (place : Place) where
  abbrev EndsFrom : Now SlotPoint SlotEnd → List (Step Field) → SlotEnd → Type 0
  EndsFrom now steps end = Ends (slot_verb place) (slot_after place) now steps end

  -- what the number and the header say
  abbrev Says : ℕ → ℕ → SlotEnd → Type 0
  Says count header (Free n) = (n ≡ count) × (is_moved place.form header ≡ true)
  Says count header (NotMoved slot found) = (slot ≡ slot_of place count) × (found ≡ header) ×
      (is_moved place.form header ≡ false)

  over_says : (over end : SlotEnd) (steps : List (Step Field)) → EndsFrom (Over over) steps end
      → (steps ≡ []) × (over ≡ end)
  over_says over end [] ends = (refl, ends)
  over_says over end (step ∷ steps) ends = absurd ends

  free_says : (count n header : ℕ) (end : SlotEnd) → is_moved place.form header ≡ true → Free count ≡ end
      → Says count header end
  free_says count n header (Free m) moved same = (cc, moved)
  free_says count n header (NotMoved slot found) moved same = absurd (cc)

  not_moved_says : (count header : ℕ) (end : SlotEnd) → is_moved place.form header ≡ false
      → NotMoved (slot_of place count) header ≡ end → Says count header end
  not_moved_says count header (Free m) moved same = absurd (cc)
  not_moved_says count header (NotMoved slot found) moved same = (cc, cc, moved)

  check_ends : (steps : List (Step Field)) (end : SlotEnd) → EndsFrom (At CheckCount) steps end
      → (count header : ℕ) × Says count header end × (steps ≡ check_steps place count header)
  check_ends [] end ends = absurd ends
  check_ends (step ∷ []) end ends = absurd ends.1
  check_ends (step ∷ next ∷ steps) end ends =
      let count = step.found in let header = next.found in
      let is : step ≡ saw (field.Count place.row) count = step_of _ step ends.0 in
      let is' : next ≡ saw (field.SlotHeader place.row (slot_of place count)) header = step_of _ next ends.1.0 in
      by_test (λ now. EndsFrom now steps end → (count header : ℕ) × Says count header end
      × (step ∷ next ∷ steps ≡ check_steps place count header))
      (is_moved place.form header) (Over (Free count)) (Over (NotMoved (slot_of place count) header))
      (λ test over. let o = over_says (Free count) end steps over in
      (count, header, free_says count 0 header end test o.1, rw (← is, ← is', o.0) refl))
      (λ test over. let o = over_says (NotMoved (slot_of place count) header) end steps over in
      (count, header, not_moved_says count header end test o.1, rw (← is, ← is', o.0) refl))
      ends.1.1

  ends_check : (count header : ℕ) (end : SlotEnd) → Says count header end
      → EndsFrom (At CheckCount) (check_steps place count header) end
  ends_check count header (Free n) says = (refl, (refl, rw says.1 (ap Free (sym says.0))))
  ends_check count header (NotMoved slot found) says =
      (refl, (refl, rw says.2 (ap (λ s. NotMoved s header) (sym says.0) ∙ ap (NotMoved slot) (sym says.1))))

  pub free_by : (steps : List (Step Field)) (count : ℕ) → EndsFrom (At CheckCount) steps (Free count)
      → (header : ℕ) × (is_moved place.form header ≡ true) × (steps ≡ check_steps place count header)
  free_by steps count ends =
      let is = check_ends steps (Free count) ends in (
        is.1,
        is.2.1,
        subst (λ n. steps ≡ check_steps place n is.1)
            (sym is.2.0) is.3,
      )

  pub by_free : (steps : List (Step Field)) (count header : ℕ) → is_moved place.form header ≡ true
      → steps ≡ check_steps place count header
      → EndsFrom (At CheckCount) steps (Free count)
  by_free steps count header moved is = subst (λ steps. EndsFrom (At CheckCount) steps (Free count)) (sym is)
      (ends_check count header (Free count) (refl, moved))

  pub not_moved_by : (steps : List (Step Field)) (slot header : ℕ)
      → EndsFrom (At CheckCount) steps (NotMoved slot header)
      → (count : ℕ) × (slot ≡ slot_of place count) × (is_moved place.form header ≡ false)
      × (steps ≡ check_steps place count header)
  not_moved_by steps slot header ends =
      let is = check_ends steps (NotMoved slot header) ends in (
        is.0,
        is.2.0,
        subst (λ h. is_moved place.form h ≡ false) (sym is.2.1) is.2.2,
        subst (λ h. steps ≡ check_steps place is.0 h) (sym is.2.1) is.3,
      )

  pub by_not_moved : (steps : List (Step Field)) (count slot header : ℕ) → slot ≡ slot_of place count
      → is_moved place.form header ≡ false
      → steps ≡ check_steps place count header → EndsFrom (At CheckCount) steps (NotMoved slot header)
  by_not_moved steps count slot header here moved is =
      subst (λ steps. EndsFrom (At CheckCount) steps (NotMoved slot header)) (sym is)
      (ends_check count header (NotMoved slot header) (here, refl, moved))
