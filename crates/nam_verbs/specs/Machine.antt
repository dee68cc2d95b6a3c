-- running calls and the words that their verbs found
use Rattle.std.specs.Prelude.{◌≡◌, ℕ, zero, suc, List, [], ◌∷◌, Some, None, IsSome}
use Rattle.nam_verbs.specs.Now.{FitsNow}
use Rattle.nam_verbs.specs.Verb.{found_by, after_verb}
use Rattle.nam_verbs.specs.Running.{Running, next_verb, after_found, end_of, verbs_left}

module _ {W P E : Type 0} where
  -- the call after these found words
  abbrev pub after_words : Running W P E → List ℕ → Running W P E
  after_words call [] = call
  after_words call (word ∷ words) = after_words (after_found call word) words

  -- the call takes these found words: a verb stands for each of them
  abbrev pub Takes : Running W P E → List ℕ → Type 0
  Takes call [] = Unit {0}
  Takes call (word ∷ words) = IsSome (next_verb call) × Takes (after_found call word) words

  -- the call takes some found words and is then the other one
  abbrev pub LeadsTo : Running W P E → Running W P E → Type 0
  LeadsTo call later = (words : List ℕ) × Takes call words × (later ≡ after_words call words)

  -- the call ends so with the last of these found words
  abbrev pub EndsBy : Running W P E → List ℕ → E → Type 0
  EndsBy call words end = Takes call words × (end_of (after_words call words) ≡ Some end)

  -- whatever words are found, the call stands at such a point, until it has ended
  abbrev pub Always : (P → Type 0) → Running W P E → Type 0
  Always Holds call = (words : List ℕ) → FitsNow Holds (after_words call words).state

  -- the call and the words after at most so many verbs, where nobody else changes the words
  abbrev pub driven : ℕ → Running W P E → List ℕ → Running W P E × List ℕ
  driven zero call words = (call, words)
  driven (suc n) call words = elim (next_verb call) [
    | None ↦ (call, words)
    | Some verb ↦ driven n (after_found call (found_by words verb)) (after_verb words verb)
  ]

  -- and after as many verbs as are to come
  abbrev pub driven_out : Running W P E → List ℕ → Running W P E × List ℕ
  driven_out call words = driven (verbs_left call) call words
