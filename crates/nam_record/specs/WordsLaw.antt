-- What the reading of the data words ends with.
use Rattle.std.specs.Prelude.{◌≡◌, ◌↔◌, ℕ, List, length}
use Rattle.nam_verbs.specs.Steps.{Step, EndsWith, saw_words}
use Rattle.nam_verbs.specs.Machine.{Always}
use Rattle.nam_verbs.specs.VerbAt.{target}
use Rattle.nam_layout.specs.declared.field.Place.{Place}
use Rattle.nam_layout.specs.PlaceFits.{FitsPlace}
use Rattle.nam_layout.specs.Known.{IsOfPlace}
use Rattle.nam_layout.specs.declared.field.Field.{Field}
use Rattle.nam_layout.specs.declared.field.Field.TheVariants as field
use Rattle.nam_calls.specs.Record.{words_verb}
use Rattle.nam_record.specs.ReadWords.{reading_words, running}

-- all data words were read in order, and were these
pub record SawData (place : Place) (steps : List (Step Field)) (value : List ℕ) : Type 0 where
  pub whole : length value ≡ place.width
  pub steps_are : steps ≡ saw_words (field.Word place.row) value

-- the reading ends with a value exactly where its words were read
abbrev pub WordsLaw : Type 0
WordsLaw = (place : Place) → FitsPlace place → (steps : List (Step Field)) (value : List ℕ)
    → EndsWith (running (reading_words place)) steps value ↔ SawData place steps value

-- whatever words are found, each verb reads a field of the position
abbrev pub WordsFieldLaw : Type 0
WordsFieldLaw = (place : Place) → FitsPlace place
    → Always (λ got. IsOfPlace place (target (words_verb place got))) (running (reading_words place))
