-- steps of a call, and where it stands after words
use Rattle.std.proofs.Common.{◌≡◌, ℕ, List, [], ◌∷◌, Some, refl, ap}
use Rattle.nam_verbs.specs.declared.now.Now.{Now}
use Rattle.nam_verbs.specs.declared.now.Now.TheVariants.{At, Over}
use Rattle.nam_verbs.specs.VerbAt.{VerbAt}
use Rattle.nam_verbs.specs.Now.{FitsNow, after_now}
use Rattle.nam_verbs.specs.Running.{Running, after_found}
use Rattle.nam_verbs.specs.Machine.{EndsBy, Always}
use Rattle.nam_verbs.specs.Steps.{Step, Ends, Does, StepsLaw, VerbsLaw, verbs_of, words_of}

module _ {W P E : Type 0} (verb : P → VerbAt W) (after : P → ℕ → Now P E) where
  -- 1. Ends by words, and ends with steps

  module _ (address : W → ℕ) (reach : ℕ) (left : P → ℕ) where
    abbrev call : Now P E → Running W P E
    call now = record { address = address; reach = reach; verb = verb; after = after; left = left; state = now }

    pub steps_by : (now : Now P E) (words : List ℕ) (end : E) → EndsBy (call now) words end
        → (steps : List (Step W)) × (words_of steps ≡ words) × Ends verb after now steps end
    steps_by (Over over) [] end ends = let same = ends.1 in ([], refl, cc)
    steps_by (Over over) (word ∷ words) end ends = let none = ends.0.0 in absurd (cc)
    steps_by (At place) [] end ends = let none = ends.1 in absurd (cc)
    steps_by (At place) (word ∷ words) end ends =
        let later = steps_by (after place word) words end (ends.0.1, ends.1) in
        (record { verb = verb place; found = word } ∷ later.0, ap (λ ws. word ∷ ws) later.1, (refl, later.2))

    pub words_by : (now : Now P E) (steps : List (Step W)) (end : E) → Ends verb after now steps end
        → EndsBy (call now) (words_of steps) end
    words_by (Over over) [] end ends = (tt, ap Some ends)
    words_by (Over over) (step ∷ steps) end ends = absurd ends
    words_by (At place) [] end ends = absurd ends
    words_by (At place) (step ∷ steps) end ends =
        let later = words_by (after place step.found) steps end ends.1 in ((refl, later.0), later.1)

  -- 2. Verbs that are done whatever is found

  pub verbs_are : (now : Now P E) (verbs : List (VerbAt W)) (end : E) → Does verb after now verbs end
      → (steps : List (Step W)) (other : E) → Ends verb after now steps other → (verbs_of steps ≡ verbs) × (other ≡ end)
  verbs_are (Over over) [] end does [] other ends = (refl, cc)
  verbs_are (Over over) [] end does (step ∷ steps) other ends = absurd ends
  verbs_are (Over over) (next ∷ verbs) end does steps other ends = absurd does
  verbs_are (At place) [] end does steps other ends = absurd (cc)
  verbs_are (At place) (next ∷ verbs) end does [] other ends = absurd ends
  verbs_are (At place) (next ∷ verbs) end does (step ∷ steps) other ends =
      let later = verbs_are (after place step.found) verbs end (does.1 step.found) steps other ends.1 in
      let here = does.0 in let done = ends.0 in let rest = later.0 in (cc, later.1)

  pub does_verbs : (now : Now P E) (verbs : List (VerbAt W)) (end : E) → Does verb after now verbs end
      → (steps : List (Step W)) (other : E) → verbs_of steps ≡ verbs → other ≡ end → Ends verb after now steps other
  does_verbs (Over over) [] end does [] other is same = cc
  does_verbs (Over over) [] end does (step ∷ steps) other is same = absurd (cc)
  does_verbs (Over over) (next ∷ verbs) end does steps other is same = absurd does
  does_verbs (At place) [] end does steps other is same = absurd (cc)
  does_verbs (At place) (next ∷ verbs) end does [] other is same = absurd (cc)
  does_verbs (At place) (next ∷ verbs) end does (step ∷ steps) other is same =
      let here = does.0 in
      let first : step.verb ≡ next = cc in let rest : verbs_of steps ≡ verbs = cc in
      (cc, does_verbs (after place step.found) verbs end (does.1 step.found) steps other rest same)

-- 3. What holds at each point that a call comes to

module _ {P E : Type 0} (Holds : P → Type 0) where
  -- what a point keeps, the call keeps
  fits_after : (after : P → ℕ → Now P E) → ((place : P) → Holds place → (found : ℕ) → FitsNow Holds (after place found))
      → (now : Now P E) → FitsNow Holds now → (found : ℕ) → FitsNow Holds (after_now after now found)
  fits_after after keeps (At place) fits found = keeps place fits found
  fits_after after keeps (Over end) fits found = tt

  pub always : {W : Type 0} (call : Running W P E)
      → ((place : P) → Holds place → (found : ℕ) → FitsNow Holds (call.after place found))
      → FitsNow Holds call.state → Always Holds call
  always call keeps fits [] = fits
  always call keeps fits (word ∷ words) =
      always (after_found call word) keeps (fits_after call.after keeps call.state fits word) words

  -- and what follows from it
  also_fits : (Also : P → Type 0) → ((place : P) → Holds place → Also place) → (now : Now P E) → FitsNow Holds now
      → FitsNow Also now
  also_fits Also follows (At place) fits = follows place fits
  also_fits Also follows (Over end) fits = tt

  pub always_also : (Also : P → Type 0) → ((place : P) → Holds place → Also place)
      → {W : Type 0} (call : Running W P E) → Always Holds call
      → Always Also call
  always_also Also follows call holds words = also_fits Also follows _ (holds words)

-- 4. The laws

pub law_of_steps : (W P E : Type 0) → StepsLaw W P E
law_of_steps W P E call words end = (
  steps_by call.verb call.after call.address call.reach call.left call.state words end,
  λ steps. rw (← steps.1)
      (words_by call.verb call.after call.address call.reach call.left call.state steps.0 end steps.2),
)

pub law_of_verbs : (W P E : Type 0) → VerbsLaw W P E
law_of_verbs W P E call verbs end does steps other = (
  verbs_are call.verb call.after call.state verbs end does steps other,
  λ both. does_verbs call.verb call.after call.state verbs end does steps other both.0 both.1,
)
