-- The words of a shape as a function of its fields, and what verbs at fields do to it.
use Rattle.std.specs.Prelude.{◌≡◌, ◌≢◌, ℕ, List, length, slice_index, slice_set}
use Rattle.nam_verbs.specs.declared.verb.Verb.{Verb}
use Rattle.nam_verbs.specs.Verb.{found_by, after_verb}
use Rattle.nam_verbs.specs.VerbAt.{VerbAt, target, verb_by, found_at, left_at}
use Rattle.nam_catalog.specs.declared.shape.Shape.{Shape}
use Rattle.nam_catalog.specs.Words.{words_of}
use Rattle.nam_layout.specs.declared.field.Field.{Field}
use Rattle.nam_layout.specs.Address.{IsField, address}

module _ (shape : Shape) where
  -- the word of a field
  abbrev pub memory : List ℕ → Field → ℕ
  memory words field = slice_index words (address shape field)

  -- the words with another word of a field
  abbrev pub with_word : List ℕ → Field → ℕ → List ℕ
  with_word words field word = slice_set words (address shape field) word

  -- the verb of a field, at its address
  abbrev pub verb_there : VerbAt Field → Verb
  verb_there verb = verb_by (address shape) verb

  -- a field has this word now, and every other one the word that it had; there are as many words as there were
  pub record Changes (before after : List ℕ) (changed : Field) (word : ℕ) : Type 0 where
    pub here : memory after changed ≡ word
    pub others : (field : Field) → IsField shape field → field ≢ changed → memory after field ≡ memory before field
    pub whole : length after ≡ length before

-- a store of a word at a field changes that field and no other
abbrev pub StoreLaw : Type 0
StoreLaw = (shape : Shape) (words : List ℕ) (field : Field) (word : ℕ) → length words ≡ words_of shape
    → IsField shape field → Changes shape words (with_word shape words field word) field word

-- a verb finds the word of its target's field, changes that field to what it leaves there, and no other
abbrev pub MemoryLaw : Type 0
MemoryLaw = (shape : Shape) (words : List ℕ) (verb : VerbAt Field) → length words ≡ words_of shape
    → IsField shape (target verb)
    → (found_by words (verb_there shape verb) ≡ found_at (memory shape words) verb)
    × Changes shape words (after_verb words (verb_there shape verb)) (target verb)
    (left_at (memory shape words) verb)
