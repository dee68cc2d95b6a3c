-- How the look at a slot ends.
use Rattle.std.specs.Prelude.{◌≡◌, ℕ, ◌↔◌, true, false, [], ◌∷◌, List}
use Rattle.nam_verbs.specs.Steps.{Step, saw, EndsWith}
use Rattle.nam_verbs.specs.Machine.{Always}
use Rattle.nam_verbs.specs.VerbAt.{target}
use Rattle.nam_header.specs.Stamp.{is_moved}
use Rattle.nam_layout.specs.declared.field.Place.{Place}
use Rattle.nam_layout.specs.Place.{slot_of}
use Rattle.nam_layout.specs.PlaceFits.{FitsPlace}
use Rattle.nam_layout.specs.Known.{IsOfPlace}
use Rattle.nam_layout.specs.declared.field.Field.{Field}
use Rattle.nam_layout.specs.declared.field.Field.TheVariants as field
use Rattle.nam_calls.specs.declared.ring.SlotEnd.TheVariants.{Free, NotMoved}
use Rattle.nam_calls.specs.Ring.{slot_verb}
use Rattle.nam_ring.specs.Check.{checking, running}

-- the number of the current version was read, and the header of the slot of that number
abbrev pub check_steps : Place → ℕ → ℕ → List (Step Field)
check_steps place count header =
    saw (field.Count place.row) count ∷ saw (field.SlotHeader place.row (slot_of place count)) header ∷ []

-- free for the current version exactly where the header found has the moved flag
abbrev pub FreeLaw : Type 0
FreeLaw = (place : Place) (steps : List (Step Field)) (count : ℕ)
    → EndsWith (running (checking place)) steps (Free count) ↔ ((header : ℕ) × (is_moved place.form header ≡ true)
    × (steps ≡ check_steps place count header))

-- not moved exactly where it has none
abbrev pub NotMovedLaw : Type 0
NotMovedLaw = (place : Place) (steps : List (Step Field)) (slot header : ℕ)
    → EndsWith (running (checking place)) steps (NotMoved slot header)
    ↔ ((count : ℕ) × (slot ≡ slot_of place count) × (is_moved place.form header ≡ false)
    × (steps ≡ check_steps place count header))

-- whatever words are found, the verbs read fields of the position
abbrev pub CheckFieldLaw : Type 0
CheckFieldLaw = (place : Place) → FitsPlace place
    → Always (λ at. IsOfPlace place (target (slot_verb place at))) (running (checking place))
