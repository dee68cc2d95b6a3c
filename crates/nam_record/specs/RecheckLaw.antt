-- What one more look at a header says.
use Rattle.std.specs.Prelude.{◌≡◌, ◌↔◌, ℕ, Bool, List, [], ◌∷◌}
use Rattle.nam_verbs.specs.Steps.{Step, EndsWith, saw}
use Rattle.nam_verbs.specs.Machine.{Always}
use Rattle.nam_verbs.specs.VerbAt.{target}
use Rattle.nam_header.specs.Stamp.{same_stamp}
use Rattle.nam_layout.specs.declared.field.Place.{Place}
use Rattle.nam_layout.specs.Known.{IsOfPlace}
use Rattle.nam_layout.specs.declared.field.Field.{Field}
use Rattle.nam_layout.specs.declared.field.Field.TheVariants as field
use Rattle.nam_calls.specs.Record.{recheck_verb}
use Rattle.nam_record.specs.Recheck.{rechecking, running}

-- the header was read once, and its stamp is that of the former header or it is not
pub record SawOnceMore (place : Place) (header : ℕ) (steps : List (Step Field)) (same : Bool) : Type 0 where
  pub found : ℕ
  pub steps_are : steps ≡ saw (field.Header place.row) found ∷ []
  pub answer : same ≡ same_stamp place.form found header

-- the answer is yes exactly where the one word found bears the stamp, and no exactly where it bears another
abbrev pub RecheckLaw : Type 0
RecheckLaw = (place : Place) (header : ℕ) (steps : List (Step Field)) (same : Bool)
    → EndsWith (running (rechecking place header)) steps same ↔ SawOnceMore place header steps same

-- the verb reads a field of the position
abbrev pub RecheckFieldLaw : Type 0
RecheckFieldLaw = (place : Place) (header : ℕ)
    → Always (λ at. IsOfPlace place (target (recheck_verb place))) (running (rechecking place header))
