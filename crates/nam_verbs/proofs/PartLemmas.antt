-- a call that does the steps of a part, and goes on after the part's end
use Rattle.std.proofs.Common.{◌≡◌, ℕ, List, [], ◌∷◌, ◌++◌, refl, sym, ◌∙◌, ap, subst}
use Rattle.nam_verbs.specs.declared.now.Now.{Now}
use Rattle.nam_verbs.specs.declared.now.Now.TheVariants.{At, Over}
use Rattle.nam_verbs.specs.VerbAt.{VerbAt}
use Rattle.nam_verbs.specs.Steps.{Step, Ends}

-- the part's points stand inside the call's, and `on` says what follows what the part has come to
module _ {W P E Q F : Type 0} (verb : P → VerbAt W) (after : P → ℕ → Now P E)
    (part_verb : Q → VerbAt W) (part_after : Q → ℕ → Now Q F) (inside : Q → P)
    (on : Now Q F → Now P E) (stands : (at : Q) → on (At at) ≡ At (inside at))
    (same_verb : (at : Q) → verb (inside at) ≡ part_verb at)
    (goes : (at : Q) (found : ℕ) → after (inside at) found ≡ on (part_after at found)) where
  -- the part's steps and its end, and the steps after it
  abbrev Parted : Now Q F → List (Step W) → E → Type 0
  Parted now steps end =
      (first rest : List (Step W)) × (over : F) × (steps ≡ first ++ rest) × Ends part_verb part_after now first over
      × Ends verb after (on (Over over)) rest end

  pub part_ends : (now : Now Q F) (steps : List (Step W)) (end : E) → Ends verb after (on now) steps end
      → Parted now steps end
  part_ends (Over over) steps end ends = ([], steps, over, refl, refl, ends)
  part_ends (At at) [] end ends =
      let none : Ends verb after (At (inside at)) [] end = subst (λ now. Ends verb after now [] end) (stands at) ends in
      absurd none
  part_ends (At at) (step ∷ steps) end ends =
      let here : Ends verb after (At (inside at)) (step ∷ steps) end =
      subst (λ now. Ends verb after now (step ∷ steps) end) (stands at) ends in
      let later = part_ends (part_after at step.found) steps end
      (subst (λ now. Ends verb after now steps end) (goes at step.found) here.1) in (
        step ∷ later.0,
        later.1,
        later.2,
        ap (λ all. step ∷ all) later.3,
        (sym (same_verb at) ∙ here.0, later.4),
        later.5,
      )

  pub ends_with_part : (now : Now Q F) (first rest : List (Step W)) (over : F) (end : E)
      → Ends part_verb part_after now first over
      → Ends verb after (on (Over over)) rest end → Ends verb after (on now) (first ++ rest) end
  ends_with_part (Over other) [] rest over end is ends = rw is ends
  ends_with_part (Over other) (step ∷ first) rest over end is ends = absurd is
  ends_with_part (At at) [] rest over end is ends = absurd is
  ends_with_part (At at) (step ∷ first) rest over end is ends =
      let later = ends_with_part (part_after at step.found) first rest over end is.1 ends in
      let here : Ends verb after (At (inside at)) (step ∷ (first ++ rest)) end =
      (same_verb at ∙ is.0, subst (λ now. Ends verb after now (first ++ rest) end) (sym (goes at step.found)) later) in
      subst (λ now. Ends verb after now (step ∷ (first ++ rest)) end) (sym (stands at)) here
