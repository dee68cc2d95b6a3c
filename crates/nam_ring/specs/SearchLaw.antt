-- When a search of a ring finds a version, and when it finds none.
use Rattle.std.specs.Prelude.{◌≡◌, ◌≢◌, ◌⊎◌, ℕ, true, false, List, [], ◌∷◌, ◌++◌, length, Option, Some, None}
use Rattle.std.specs.Prelude.{if◌then◌else◌, ◌↔◌}
use Rattle.nam_verbs.specs.Steps.{Step, saw, saw_words, EndsWith, Stretches, StopsAt}
use Rattle.nam_verbs.specs.Machine.{Always}
use Rattle.nam_verbs.specs.VerbAt.{target}
use Rattle.nam_header.specs.Stamp.{is_deleted, same_stamp, sees, mark}
use Rattle.nam_layout.specs.declared.field.Place.{Place}
use Rattle.nam_layout.specs.PlaceFits.{FitsPlace}
use Rattle.nam_layout.specs.Known.{IsOfPlace}
use Rattle.nam_layout.specs.declared.field.Field.{Field}
use Rattle.nam_layout.specs.declared.field.Field.TheVariants as field
use Rattle.nam_calls.specs.declared.ring.SearchEnd.TheVariants.{Found, NotThere}
use Rattle.nam_calls.specs.Ring.{ring_verb}
use Rattle.nam_ring.specs.Search.{searching, running}

-- a slot's header was read, and its end
abbrev pub saw_header : Place → ℕ → ℕ → Step Field
saw_header place slot header = saw (field.SlotHeader place.row slot) header

abbrev pub saw_end : Place → ℕ → ℕ → Step Field
saw_end place slot ending = saw (field.SlotEnd place.row slot) ending

module _ (place : Place) (seen : List ℕ) where
  -- a slot with this header has a version that the snapshot sees
  pub record HasSeen (header : ℕ) : Type 0 where
    pub version : header ≢ mark
    pub visible : sees place.form seen header ≡ true

  -- the slot's header, its end and its words were read
  abbrev pub look_steps : ℕ → ℕ → ℕ → List ℕ → List (Step Field)
  look_steps slot header ending words =
      saw_header place slot header ∷ saw_end place slot ending ∷ saw_words (field.SlotWord place.row slot) words

  -- a slot was ended by a word found: by its header, by its end, or by its header read again
  pub data SlotEnded (slot : ℕ) (steps : List (Step Field)) : Type 0 where
    by_header : (header : ℕ) → (header ≡ mark) ⊎ (sees place.form seen header ≡ false)
        → steps ≡ saw_header place slot header ∷ [] → SlotEnded slot steps
    by_end : (header ending : ℕ) → HasSeen header → sees place.form seen ending ≡ true
        → steps ≡ saw_header place slot header ∷ saw_end place slot ending ∷ [] → SlotEnded slot steps
    by_change : (header ending : ℕ) (words : List ℕ) (again : ℕ) → HasSeen header
        → sees place.form seen ending ≡ false → length words ≡ place.width
        → (same_stamp place.form again header ≡ false) ⊎ (again ≡ mark)
        → steps ≡ look_steps slot header ending words ++ saw_header place slot again ∷ [] → SlotEnded slot steps

  -- A slot has what the snapshot sees: its header is visible and isn't the mark, its end isn't visible, and its header,
  -- read again after the words, bears the same stamp and isn't the mark. The value is those words, and absent where it
  -- was deleted.
  pub record SlotGives (value : Option (List ℕ)) (slot : ℕ) (steps : List (Step Field)) : Type 0 where
    pub header : ℕ
    pub ending : ℕ
    pub words : List ℕ
    pub again : ℕ
    pub shows : HasSeen header
    pub newest : sees place.form seen ending ≡ false
    pub whole : length words ≡ place.width
    pub same : same_stamp place.form again header ≡ true
    pub still : again ≢ mark
    pub value_is : value ≡ (if is_deleted place.form header then None else Some words)
    pub steps_are : steps ≡ look_steps slot header ending words ++ saw_header place slot again ∷ []

-- found exactly where a slot has it, after each slot before it was ended by a word found
abbrev pub FoundLaw : Type 0
FoundLaw = (place : Place) → FitsPlace place → (seen : List ℕ) (steps : List (Step Field)) (value : Option (List ℕ))
    → EndsWith (running (searching place seen)) steps (Found value) ↔ StopsAt (SlotEnded place seen)
    (SlotGives place seen value) place.ring steps

-- not there exactly where each slot was ended by a word found
abbrev pub NotThereLaw : Type 0
NotThereLaw = (place : Place) → FitsPlace place → (seen : List ℕ) (steps : List (Step Field))
    → EndsWith (running (searching place seen)) steps NotThere ↔ Stretches (SlotEnded place seen) 0 place.ring steps

-- whatever words are found, each verb reads a field of the position
abbrev pub SearchFieldLaw : Type 0
SearchFieldLaw = (place : Place) → FitsPlace place → (seen : List ℕ)
    → Always (λ at. IsOfPlace place (target (ring_verb place at))) (running (searching place seen))
