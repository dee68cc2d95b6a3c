-- What an install writes.
use Rattle.std.specs.Prelude.{ℕ, ◌+◌, ◌↔◌, ◌≡◌, List, [], ◌∷◌, ◌++◌, Option, Some, None}
use Rattle.nam_verbs.specs.Steps.{Step, EndsWith, EndsAfter, verbs_of, writes_of}
use Rattle.nam_verbs.specs.Machine.{Always}
use Rattle.nam_verbs.specs.VerbAt.{VerbAt, WriteAt, target}
use Rattle.nam_layout.specs.declared.field.Place.{Place}
use Rattle.nam_layout.specs.PlaceFits.{FitsPlace}
use Rattle.nam_layout.specs.Known.{IsOfPlace}
use Rattle.nam_layout.specs.declared.field.Field.{Field}
use Rattle.nam_layout.specs.declared.field.Field.TheVariants as field
use Rattle.nam_calls.specs.Record.{install_verb}
use Rattle.nam_calls.specs.Fits.{HasWidth}
use Rattle.nam_calls.specs.Words.{wrapped}
use Rattle.nam_record.specs.Install.{installing, running}

-- the words of a value in order, and none of a deletion
abbrev pub data_writes : Place → Option (List ℕ) → List (VerbAt Field)
data_writes place None = []
data_writes place (Some words) = writes_of (field.Word place.row) words

-- the data words, then the number after that of the version before, then the header
abbrev pub version_writes : Place → Option (List ℕ) → ℕ → ℕ → List (VerbAt Field)
version_writes place value count header =
    data_writes place value ++ WriteAt (field.Count place.row) (wrapped (count + 1))
    ∷ WriteAt (field.Header place.row) header ∷ []

-- an install does these writes in order, and ends with the last of them
abbrev pub InstallLaw : Type 0
InstallLaw = (place : Place) → FitsPlace place → (value : Option (List ℕ)) → HasWidth place.width value
    → (count header : ℕ)
    → EndsAfter (running (installing place value count header)) (version_writes place value count header) tt

-- and it does nothing else
abbrev pub OnlyWritesLaw : Type 0
OnlyWritesLaw = (place : Place) → FitsPlace place → (value : Option (List ℕ)) → HasWidth place.width value
    → (count header : ℕ) (steps : List (Step Field))
    → EndsWith (running (installing place value count header)) steps tt
    ↔ (verbs_of steps ≡ version_writes place value count header)

-- each verb writes a field of the position
abbrev pub InstallFieldLaw : Type 0
InstallFieldLaw = (place : Place) → FitsPlace place → (value : Option (List ℕ)) (count header : ℕ)
    → Always (λ at. IsOfPlace place (target (install_verb place value count header at)))
    (running (installing place value count header))
