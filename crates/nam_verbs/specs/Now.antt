-- a call that is at a point or over, as a machine
use Rattle.std.specs.Prelude.{ℕ, Option, Some, None, IsNone, IsSome, ◌↔◌}
use Rattle.std.proofs.Common.{refl, sym}
use Rattle.nam_verbs.specs.declared.verb.Verb.{Verb}
use Rattle.nam_verbs.specs.declared.now.Now.{Now}
use Rattle.nam_verbs.specs.declared.now.Now.TheVariants.{At, Over}

module _ {P E : Type 0} where
  -- the verb that stands
  abbrev pub verb_now : (P → Verb) → Now P E → Option Verb
  verb_now verb (At place) = Some (verb place)
  verb_now verb (Over end) = None

  -- where the call stands after a found word
  abbrev pub after_now : (P → ℕ → Now P E) → Now P E → ℕ → Now P E
  after_now after (At place) found = after place found
  after_now after (Over end) found = Over end

  -- how the call ended
  abbrev pub end_now : Now P E → Option E
  end_now (At place) = None
  end_now (Over end) = Some end

  -- how many verbs are to come at the most
  abbrev pub left_now : (P → ℕ) → Now P E → ℕ
  left_now left (At place) = left place
  left_now left (Over end) = 0

  -- what holds of the point, where the call is not over
  abbrev pub FitsNow : (P → Type 0) → Now P E → Type 0
  FitsNow Fits (At place) = Fits place
  FitsNow Fits (Over end) = Unit {0}

  -- a verb stands exactly until the call is over
  pub stands_until_over : (verb : P → Verb) (now : Now P E) → IsNone (verb_now verb now) ↔ IsSome (end_now now)
  stands_until_over verb (At place) = (sym, sym)
  stands_until_over verb (Over end) = (λ none. refl, λ some. refl)
