-- The reading of a record's data words as a machine.
use Rattle.std.specs.Prelude.{ℕ, List}
use Rattle.nam_verbs.specs.declared.now.Now.{Now}
use Rattle.nam_verbs.specs.declared.now.Now.TheVariants.{At}
use Rattle.nam_verbs.specs.Running.{Running}
use Rattle.nam_layout.specs.declared.field.Place.{Place}
use Rattle.nam_layout.specs.Place.{position_address, place_end}
use Rattle.nam_layout.specs.declared.field.Field.{Field}
use Rattle.nam_calls.specs.Record.{words_begin, words_verb, words_after, words_left}

-- a record whose data words are read, and the words got so far, or all
pub record WordsReading : Type 0 where
  pub place : Place
  pub state : Now (List ℕ) (List ℕ)

-- a new reading
abbrev pub reading_words : Place → WordsReading
reading_words place = record { place = place; state = At words_begin }

-- the same as a running call
abbrev pub running : WordsReading → Running Field (List ℕ) (List ℕ)
running a = record {
  address = position_address a.place;
  reach = place_end a.place;
  verb = words_verb a.place;
  after = words_after a.place;
  left = words_left a.place;
  state = a.state;
}
