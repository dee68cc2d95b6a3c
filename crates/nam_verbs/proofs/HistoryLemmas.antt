-- the steps that led a call to where it stands, whatever words it found
use Rattle.std.proofs.Common.{◌≡◌, ℕ, List, [], ◌∷◌, ◌++◌, refl, sym, ap}
use Rattle.std.proofs.lemmas.List.{append_assoc, append-nil}
use Rattle.nam_verbs.specs.declared.now.Now.{Now}
use Rattle.nam_verbs.specs.declared.now.Now.TheVariants.{At, Over}
use Rattle.nam_verbs.specs.VerbAt.{VerbAt}
use Rattle.nam_verbs.specs.Running.{Running}
use Rattle.nam_verbs.specs.Machine.{after_words}
use Rattle.nam_verbs.specs.Steps.{Step, Ends}
use Rattle.nam_verbs.specs.SoFar.{steps_from, verb_at, next_at}
use Rattle.nam_verbs.proofs.MachineLemmas.{only_state}

-- words change where a call stands, and not its points' verbs
pub next_after : {W P E : Type 0} (call : Running W P E) (words : List ℕ)
    → next_at (after_words call words) ≡ verb_at call.verb (after_words call words).state
next_after call words = ap next_at (only_state call words)

module _ {W P E : Type 0} (verb : P → VerbAt W) (after : P → ℕ → Now P E) where
  abbrev pub step_at : P → ℕ → Step W
  step_at place found = record { verb = verb place; found = found }

  -- from where it stands, the call does these steps, and stands there then
  abbrev pub Leads : Now P E → List (Step W) → Now P E → Type 0
  Leads now [] there = now ≡ there
  Leads (Over end) (step ∷ steps) there = ⊥
  Leads (At place) (step ∷ steps) there = (verb place ≡ step.verb) × Leads (after place step.found) steps there

  pub one_more : (now : Now P E) (steps : List (Step W)) (place : P) (found : ℕ) → Leads now steps (At place)
      → Leads now (steps ++ step_at place found ∷ []) (after place found)
  one_more now [] place found is = rw is (refl, refl)
  one_more (Over end) (step ∷ steps) place found leads = absurd leads
  one_more (At here) (step ∷ steps) place found leads =
      (leads.0, one_more (after here step.found) steps place found leads.1)

  pub leads_to_end : (now : Now P E) (steps : List (Step W)) (end : E) → Leads now steps (Over end)
      → Ends verb after now steps end
  leads_to_end now [] end is = rw is refl
  leads_to_end (Over other) (step ∷ steps) end leads = absurd leads
  leads_to_end (At here) (step ∷ steps) end leads = (leads.0, leads_to_end (after here step.found) steps end leads.1)

  -- what a call did by its end leads to no point
  pub ended_before : (now : Now P E) (first rest : List (Step W)) (end : E) (place : P) → Ends verb after now first end
      → Leads now (first ++ rest) (At place) → ⊥
  ended_before (Over other) [] [] end place ends leads = cc
  ended_before (Over other) [] (step ∷ rest) end place ends leads = leads
  ended_before (Over other) (step ∷ first) rest end place ends leads = absurd ends
  ended_before (At here) [] rest end place ends leads = absurd ends
  ended_before (At here) (step ∷ first) rest end place ends leads =
      ended_before (after here step.found) first rest end place ends.1 leads.1

  -- what holds of a point and the steps up to it
  module _ (address : W → ℕ) (reach : ℕ) (left : P → ℕ) (Holds : P → List (Step W) → Type 0) where
    abbrev call : Now P E → Running W P E
    call now = record { address = address; reach = reach; verb = verb; after = after; left = left; state = now }

    abbrev pub HoldsNow : Now P E → List (Step W) → Type 0
    HoldsNow (At place) steps = Holds place steps
    HoldsNow (Over end) steps = Unit {0}

    stays_over : (end : E) (words : List ℕ) → (after_words (call (Over end)) words).state ≡ Over end
    stays_over end [] = refl
    stays_over end (word ∷ words) = stays_over end words

    pub history : ((place : P) (before : List (Step W)) → Holds place before → (found : ℕ)
        → HoldsNow (after place found) (before ++ step_at place found ∷ []))
        → (now : Now P E) (before : List (Step W)) → HoldsNow now before → (words : List ℕ)
        → HoldsNow (after_words (call now) words).state (before ++ steps_from verb after now words)
    history keeps (Over end) before holds words = rw (stays_over end words) tt
    history keeps (At place) before holds [] = rw append-nil holds
    history keeps (At place) before holds (word ∷ words) =
        rw (← append_assoc before (step_at place word ∷ []) (steps_from verb after (after place word) words))
        (history keeps (after place word) (before ++ step_at place word ∷ []) (keeps place before holds word) words)

    -- the steps by which a call takes words lead there
    pub leads_by : (now : Now P E) (words : List ℕ)
        → Leads now (steps_from verb after now words) (after_words (call now) words).state
    leads_by (Over end) [] = refl
    leads_by (At place) [] = refl
    leads_by (Over end) (word ∷ words) = sym (stays_over end words)
    leads_by (At place) (word ∷ words) = (refl, leads_by (after place word) words)
