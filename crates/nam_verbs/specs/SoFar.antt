-- what a call has done so far, whatever words were found, and what it does next
use Rattle.std.specs.Prelude.{ℕ, List, [], ◌∷◌, Option, Some, None}
use Rattle.nam_verbs.specs.declared.now.Now.{Now}
use Rattle.nam_verbs.specs.declared.now.Now.TheVariants.{At, Over}
use Rattle.nam_verbs.specs.VerbAt.{VerbAt}
use Rattle.nam_verbs.specs.Running.{Running}
use Rattle.nam_verbs.specs.Steps.{Step}

-- the steps by which a call takes these words, up to its end
module _ {W P E : Type 0} (verb : P → VerbAt W) (after : P → ℕ → Now P E) where
  abbrev pub steps_from : Now P E → List ℕ → List (Step W)
  steps_from now [] = []
  steps_from (Over end) (word ∷ words) = []
  steps_from (At place) (word ∷ words) =
      record { verb = verb place; found = word } ∷ steps_from (after place word) words

module _ {W P E : Type 0} where
  abbrev pub steps_by : Running W P E → List ℕ → List (Step W)
  steps_by call words = steps_from call.verb call.after call.state words

  -- the verb that stands, at a word by its name
  abbrev pub verb_at : (P → VerbAt W) → Now P E → Option (VerbAt W)
  verb_at verb (At place) = Some (verb place)
  verb_at verb (Over end) = None

  abbrev pub next_at : Running W P E → Option (VerbAt W)
  next_at call = verb_at call.verb call.state
