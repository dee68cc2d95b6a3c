-- when a search finds a key, and when it doesn't
use Rattle.std.specs.Prelude.{◌≡◌, ◌≢◌, ◌⊎◌, ◌↔◌, ℕ, List, [], ◌∷◌}
use Rattle.nam_verbs.specs.Steps.{Step, saw, EndsWith, Stretches, StopsAt}
use Rattle.nam_catalog.specs.declared.shape.Shape.{Shape}
use Rattle.nam_catalog.specs.Fits.{FitsLimits}
use Rattle.nam_layout.specs.declared.field.Field.{Field}
use Rattle.nam_calls.specs.declared.index.FindEnd.TheVariants.{At, Absent}
use Rattle.nam_calls.specs.declared.index.Path.{Path}
use Rattle.nam_calls.specs.Words.{key_word, path_of}
use Rattle.nam_calls.specs.Index.{nth_position, nth_key}
use Rattle.nam_calls.specs.Fits.{IsTableOf}
use Rattle.nam_index.specs.Find.{finding, running}

module _ (path : Path) where
  -- a position of the path was found to bear another key
  pub record BearsOther (nth : ℕ) (steps : List (Step Field)) : Type 0 where
    pub word : ℕ
    pub not_free : word ≢ 0
    pub other : word ≢ key_word path.key
    pub steps_are : steps ≡ saw (nth_key path nth) word ∷ []

  -- it was found to bear the key
  pub record BearsKey (position nth : ℕ) (steps : List (Step Field)) : Type 0 where
    pub position_is : position ≡ nth_position path nth
    pub steps_are : steps ≡ saw (nth_key path nth) (key_word path.key) ∷ []

  -- it was found to bear no key
  abbrev pub BearsNone : ℕ → List (Step Field) → Type 0
  BearsNone nth steps = steps ≡ saw (nth_key path nth) 0 ∷ []

-- found exactly where a position was found to bear the key, after each before it on the path was found to bear another
abbrev pub FoundLaw : Type 0
FoundLaw = (shape : Shape) → FitsLimits shape → (table : ℕ) → IsTableOf shape table
    → (key : ℕ) (steps : List (Step Field)) (position : ℕ) → let path = path_of shape table key in
    EndsWith (running (finding shape table key)) steps (At position)
    ↔ StopsAt (BearsOther path) (BearsKey path position) path.capacity steps

-- absent exactly where a position was found to bear none, after others, or where all were found to bear others
abbrev pub AbsentLaw : Type 0
AbsentLaw = (shape : Shape) → FitsLimits shape → (table : ℕ) → IsTableOf shape table
    → (key : ℕ) (steps : List (Step Field)) → let path = path_of shape table key in
    EndsWith (running (finding shape table key)) steps Absent
    ↔ (StopsAt (BearsOther path) (BearsNone path) path.capacity steps
    ⊎ Stretches (BearsOther path) 0 path.capacity steps)
