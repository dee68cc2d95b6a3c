-- How the reading of a current version ends, by what it saw.
use Rattle.std.specs.Prelude.{◌≡◌, ◌⊎◌, ◌↔◌, ℕ, IsTrue, IsFalse, List, [], ◌∷◌, ◌++◌, length, Some, None}
use Rattle.nam_verbs.specs.Steps.{Step, EndsWith, saw, saw_words}
use Rattle.nam_verbs.specs.Machine.{Always}
use Rattle.nam_verbs.specs.VerbAt.{target}
use Rattle.nam_header.specs.Stamp.{is_locked, is_deleted, same_stamp, sees}
use Rattle.nam_layout.specs.declared.field.Place.{Place}
use Rattle.nam_layout.specs.PlaceFits.{FitsPlace}
use Rattle.nam_layout.specs.Known.{IsOfPlace}
use Rattle.nam_layout.specs.declared.field.Field.{Field}
use Rattle.nam_layout.specs.declared.field.Field.TheVariants as field
use Rattle.nam_calls.specs.declared.record.CurrentEnd.{CurrentEnd}
use Rattle.nam_calls.specs.declared.record.CurrentEnd.TheVariants.{Found, Unsure, GoOld}
use Rattle.nam_calls.specs.Record.{current_verb}
use Rattle.nam_record.specs.Current.{reading_current, running}

-- the reading does these steps, and ends so with the last of them
abbrev pub CurrentEndsWith : Place → List ℕ → List (Step Field) → CurrentEnd → Type 0
CurrentEndsWith place seen steps end = EndsWith (running (reading_current place seen)) steps end

-- 1. After one look at the header

-- the snapshot does not see the header
pub record SawUnseen (place : Place) (seen : List ℕ) (steps : List (Step Field)) : Type 0 where
  pub header : ℕ
  pub steps_are : steps ≡ saw (field.Header place.row) header ∷ []
  pub unseen : IsFalse (sees place.form seen header)

-- the snapshot sees it, and it is that of a deletion
pub record SawDeletion (place : Place) (seen : List ℕ) (steps : List (Step Field)) : Type 0 where
  pub header : ℕ
  pub steps_are : steps ≡ saw (field.Header place.row) header ∷ []
  pub visible : IsTrue (sees place.form seen header)
  pub deleted : IsTrue (is_deleted place.form header)

-- 2. After two looks

-- the header, the data words in order, and the header again
abbrev pub looks_around : Place → ℕ → List ℕ → ℕ → List (Step Field)
looks_around place first value again =
    saw (field.Header place.row) first ∷ saw_words (field.Word place.row) value
    ++ saw (field.Header place.row) again ∷ []

-- the first look found a version that the snapshot sees and that is no deletion, and all data words were read
pub record SawTwice (place : Place) (seen : List ℕ) (steps : List (Step Field)) (value : List ℕ) (first again : ℕ)
    : Type 0 where
  pub whole : length value ≡ place.width
  pub steps_are : steps ≡ looks_around place first value again
  pub visible : IsTrue (sees place.form seen first)
  pub present : IsFalse (is_deleted place.form first)

-- both headers bear one stamp, and neither is locked
pub record SawWhole (place : Place) (seen : List ℕ) (steps : List (Step Field)) (value : List ℕ) : Type 0 where
  pub first : ℕ
  pub again : ℕ
  pub looks : SawTwice place seen steps value first again
  pub same : IsTrue (same_stamp place.form again first)
  pub unlocked : IsFalse (is_locked place.form first)
  pub still_unlocked : IsFalse (is_locked place.form again)

-- both bear one stamp, and one of them is locked
pub record SawLocked (place : Place) (seen : List ℕ) (steps : List (Step Field)) (value : List ℕ)
    (first : ℕ) : Type 0 where
  pub again : ℕ
  pub looks : SawTwice place seen steps value first again
  pub same : IsTrue (same_stamp place.form again first)
  pub locked : IsTrue (is_locked place.form first) ⊎ IsTrue (is_locked place.form again)

-- the second bears another stamp
pub record SawAnother (place : Place) (seen : List ℕ) (steps : List (Step Field)) : Type 0 where
  pub value : List ℕ
  pub first : ℕ
  pub again : ℕ
  pub looks : SawTwice place seen steps value first again
  pub other : IsFalse (same_stamp place.form again first)

-- 3. The ends

-- found to be deleted exactly by a deletion's header that the snapshot sees
abbrev pub DeletedLaw : Type 0
DeletedLaw = (place : Place) → FitsPlace place → (seen : List ℕ) (steps : List (Step Field))
    → CurrentEndsWith place seen steps (Found None) ↔ SawDeletion place seen steps

-- found with a value exactly by two headers of one stamp, neither of them locked, with the value between them
abbrev pub FoundLaw : Type 0
FoundLaw = (place : Place) → FitsPlace place → (seen : List ℕ) (steps : List (Step Field)) (value : List ℕ)
    → CurrentEndsWith place seen steps (Found (Some value)) ↔ SawWhole place seen steps value

-- unsure exactly by two headers of one stamp, of which one is locked; the end has the words between them and the first
abbrev pub UnsureLaw : Type 0
UnsureLaw = (place : Place) → FitsPlace place
    → (seen : List ℕ) (steps : List (Step Field)) (value : List ℕ) (header : ℕ)
    → CurrentEndsWith place seen steps (Unsure value header) ↔ SawLocked place seen steps value header

-- older versions are to be searched exactly where the snapshot does not see the first header, or the second bears
-- another stamp
abbrev pub OldLaw : Type 0
OldLaw = (place : Place) → FitsPlace place → (seen : List ℕ) (steps : List (Step Field))
    → CurrentEndsWith place seen steps GoOld ↔ (SawUnseen place seen steps ⊎ SawAnother place seen steps)

-- 4. Whatever words are found, each verb reads a field of the position

abbrev pub CurrentFieldLaw : Type 0
CurrentFieldLaw = (place : Place) → FitsPlace place → (seen : List ℕ)
    → Always (λ at. IsOfPlace place (target (current_verb place at))) (running (reading_current place seen))
