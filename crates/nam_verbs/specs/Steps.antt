-- what a call did: verb after verb, each with the word that it found
use Rattle.std.specs.Prelude.{◌≡◌, ℕ, ◌+◌, ◌<◌, zero, suc, ◌↔◌, List, [], ◌∷◌, ◌++◌, map}
use Rattle.nam_verbs.specs.declared.now.Now.{Now}
use Rattle.nam_verbs.specs.declared.now.Now.TheVariants.{At, Over}
use Rattle.nam_verbs.specs.VerbAt.{VerbAt, ReadAt, WriteAt, ExchangeAt}
use Rattle.nam_verbs.specs.Running.{Running}
use Rattle.nam_verbs.specs.Machine.{EndsBy}

-- a verb that was done, and the word that it found
pub record Step (W : Type 0) : Type 0 where
  pub verb : VerbAt W
  pub found : ℕ

module _ {W : Type 0} where
  -- 1. Steps of reads, exchanges and writes

  abbrev pub saw : W → ℕ → Step W
  saw at found = record { verb = ReadAt at; found = found }

  -- an exchange of a word for another, and the word that it found
  abbrev pub tried : W → ℕ → ℕ → ℕ → Step W
  tried at expected new found = record { verb = ExchangeAt at expected new; found = found }

  -- words that were read one after another, of which the nth is this one
  abbrev pub saw_from : (ℕ → W) → ℕ → List ℕ → List (Step W)
  saw_from at nth [] = []
  saw_from at nth (word ∷ words) = saw (at nth) word ∷ saw_from at (nth + 1) words

  abbrev pub saw_words : (ℕ → W) → List ℕ → List (Step W)
  saw_words at words = saw_from at 0 words

  -- the writes of words one after another
  abbrev pub writes_from : (ℕ → W) → ℕ → List ℕ → List (VerbAt W)
  writes_from at nth [] = []
  writes_from at nth (word ∷ words) = WriteAt (at nth) word ∷ writes_from at (nth + 1) words

  abbrev pub writes_of : (ℕ → W) → List ℕ → List (VerbAt W)
  writes_of at words = writes_from at 0 words

  abbrev pub verbs_of : List (Step W) → List (VerbAt W)
  verbs_of steps = map (λ (step : Step W). step.verb) steps

  abbrev pub words_of : List (Step W) → List ℕ
  words_of steps = map (λ (step : Step W). step.found) steps

-- 2. The end of a call

module _ {W P E : Type 0} where
  -- from where it stands, the call does these steps, and ends so with the last of them
  abbrev pub Ends : (P → VerbAt W) → (P → ℕ → Now P E) → Now P E → List (Step W) → E → Type 0
  Ends verb after (Over over) [] end = over ≡ end
  Ends verb after (Over over) (step ∷ steps) end = ⊥
  Ends verb after (At place) [] end = ⊥
  Ends verb after (At place) (step ∷ steps) end =
      (verb place ≡ step.verb) × Ends verb after (after place step.found) steps end

  abbrev pub EndsWith : Running W P E → List (Step W) → E → Type 0
  EndsWith call steps end = Ends call.verb call.after call.state steps end

  -- whatever words it finds, the call does these verbs, and ends so
  abbrev pub Does : (P → VerbAt W) → (P → ℕ → Now P E) → Now P E → List (VerbAt W) → E → Type 0
  Does verb after now [] end = now ≡ Over end
  Does verb after (Over over) (next ∷ verbs) end = ⊥
  Does verb after (At place) (next ∷ verbs) end =
      (verb place ≡ next) × ((found : ℕ) → Does verb after (after place found) verbs end)

  abbrev pub EndsAfter : Running W P E → List (VerbAt W) → E → Type 0
  EndsAfter call verbs end = Does call.verb call.after call.state verbs end

-- a call ends by words exactly where it ends with steps that found them
abbrev pub StepsLaw : Type 0 → Type 0 → Type 0 → Type 0
StepsLaw W P E = (call : Running W P E) (words : List ℕ) (end : E)
    → EndsBy call words end ↔ ((steps : List (Step W)) × (words_of steps ≡ words) × EndsWith call steps end)

-- a call that does verbs whatever it finds ends with the steps of these verbs, and with no others
abbrev pub VerbsLaw : Type 0 → Type 0 → Type 0 → Type 0
VerbsLaw W P E = (call : Running W P E) (verbs : List (VerbAt W)) (end : E) → EndsAfter call verbs end
    → (steps : List (Step W)) (other : E) → EndsWith call steps other ↔ ((verbs_of steps ≡ verbs) × (other ≡ end))

-- 3. Stretches of steps one after another, the first of them for this number and so many in all

module _ {W : Type 0} where
  abbrev pub Stretches : (ℕ → List (Step W) → Type 0) → ℕ → ℕ → List (Step W) → Type 0
  Stretches Passed from zero steps = steps ≡ []
  Stretches Passed from (suc count) steps =
      (first rest : List (Step W)) × (steps ≡ first ++ rest) × Passed from first
      × Stretches Passed (from + 1) count rest

  -- one of so many numbered items stops a search, after each before it was passed
  pub record StopsAt (Passed Stops : ℕ → List (Step W) → Type 0) (count : ℕ) (steps : List (Step W)) : Type 0 where
    pub nth : ℕ
    pub within : nth < count
    pub before : List (Step W)
    pub last : List (Step W)
    pub steps_are : steps ≡ before ++ last
    pub passed : Stretches Passed 0 nth before
    pub stops : Stops nth last
