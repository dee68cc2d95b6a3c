-- verbs at words that have names: what they reach, find and leave
use Rattle.std.specs.Prelude.{ℕ, ◌==◌, if◌then◌else◌}
use Rattle.nam_verbs.specs.declared.verb.Verb.{Verb}
use Rattle.nam_verbs.specs.declared.verb.Verb.TheVariants.{Read, Write, Exchange}

-- a verb at the word of this name
pub data VerbAt (W : Type 0) : Type 0 where
  ReadAt : W → VerbAt W
  WriteAt : W → ℕ → VerbAt W
  ExchangeAt : W → ℕ → ℕ → VerbAt W

module _ {W : Type 0} where
  -- the word that it reaches
  abbrev pub target : VerbAt W → W
  target (ReadAt at) = at
  target (WriteAt at word) = at
  target (ExchangeAt at expect word) = at

  -- the same verb, where words have these addresses
  abbrev pub verb_by : (W → ℕ) → VerbAt W → Verb
  verb_by address (ReadAt at) = Read (address at)
  verb_by address (WriteAt at word) = Write (address at) word
  verb_by address (ExchangeAt at expect word) = Exchange (address at) expect word

  -- what it finds, over words by their names, and 0 for a write
  abbrev pub found_at : (W → ℕ) → VerbAt W → ℕ
  found_at words (ReadAt at) = words at
  found_at words (WriteAt at word) = 0
  found_at words (ExchangeAt at expect word) = words at

  -- the word at its target after it
  abbrev pub left_at : (W → ℕ) → VerbAt W → ℕ
  left_at words (ReadAt at) = words at
  left_at words (WriteAt at word) = word
  left_at words (ExchangeAt at expect word) = if words at == expect then word else words at
