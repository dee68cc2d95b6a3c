-- What a copy writes.
use Rattle.std.specs.Prelude.{◌≡◌, ℕ, List, [], ◌∷◌, ◌++◌, length}
use Rattle.si_model.specs.declared.log.Stamp.{Stamp}
use Rattle.nam_verbs.specs.Steps.{EndsAfter, writes_of}
use Rattle.nam_verbs.specs.Machine.{Always}
use Rattle.nam_verbs.specs.VerbAt.{VerbAt, WriteAt, target}
use Rattle.nam_header.specs.Stamp.{stamp_word, mark}
use Rattle.nam_layout.specs.declared.field.Place.{Place}
use Rattle.nam_layout.specs.PlaceFits.{FitsPlace}
use Rattle.nam_layout.specs.Place.{slot_of}
use Rattle.nam_layout.specs.Known.{IsOfPlace}
use Rattle.nam_layout.specs.declared.field.Field.{Field}
use Rattle.nam_layout.specs.declared.field.Field.TheVariants as field
use Rattle.nam_calls.specs.Ring.{copy_verb}
use Rattle.nam_ring.specs.Copy.{copying, running}

-- to a slot: the mark, the successor's stamp, the words, and then the header
abbrev pub copy_into : Place → ℕ → ℕ → List ℕ → Stamp → List (VerbAt Field)
copy_into place slot header old ending =
    WriteAt (field.SlotHeader place.row slot) mark
    ∷ WriteAt (field.SlotEnd place.row slot) (stamp_word place.form ending)
    ∷ writes_of (field.SlotWord place.row slot) old ++ WriteAt (field.SlotHeader place.row slot) header ∷ []

-- whatever is found, these are written, and nothing else
abbrev pub CopyLaw : Type 0
CopyLaw = (place : Place) → FitsPlace place → (count header : ℕ) (old : List ℕ) → length old ≡ place.width
    → (ending : Stamp)
    → EndsAfter (running (copying place count header old ending))
    (copy_into place (slot_of place count) header old ending) tt

-- and each verb writes a field of the position
abbrev pub CopyFieldLaw : Type 0
CopyFieldLaw = (place : Place) → FitsPlace place → (count header : ℕ) (old : List ℕ) (ending : Stamp)
    → Always (λ at. IsOfPlace place (target (copy_verb place count header old ending at)))
    (running (copying place count header old ending))
