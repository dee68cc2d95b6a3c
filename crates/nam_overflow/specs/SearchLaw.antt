-- When a search of a bucket's cells finds a version, and when it finds none.
use Rattle.std.specs.Prelude.{◌≡◌, ◌≢◌, ℕ, true, false, List, [], ◌∷◌, ◌++◌, length, Option, Some, None}
use Rattle.std.specs.Prelude.{if◌then◌else◌, ◌↔◌}
use Rattle.nam_verbs.specs.Steps.{Step, saw, saw_words, EndsWith, Stretches, StopsAt}
use Rattle.nam_verbs.specs.Machine.{Always}
use Rattle.nam_verbs.specs.VerbAt.{target}
use Rattle.nam_header.specs.Stamp.{is_deleted, sees}
use Rattle.nam_header.specs.Tag.{is_full}
use Rattle.nam_layout.specs.declared.field.Place.{Place}
use Rattle.nam_layout.specs.declared.field.Cells.{Cells}
use Rattle.nam_layout.specs.PlaceFits.{FitsPlace, FitsCells}
use Rattle.nam_layout.specs.Known.{IsOfCells}
use Rattle.nam_layout.specs.declared.field.Field.{Field}
use Rattle.nam_layout.specs.declared.field.Field.TheVariants as field
use Rattle.nam_calls.specs.declared.ring.SearchEnd.TheVariants.{Found, NotThere}
use Rattle.nam_calls.specs.Overflow.{cell_verb}
use Rattle.nam_overflow.specs.Search.{searching, running}

module _ (cells : Cells) (place : Place) (seen : List ℕ) where
  -- a full cell of the row has a version with this header that the snapshot sees
  pub record HasSeen (tag header : ℕ) : Type 0 where
    pub full : is_full tag ≡ true
    pub visible : sees place.form seen header ≡ true

  -- the cell's tag was read, and that the row owns it
  abbrev pub owner_steps : ℕ → ℕ → List (Step Field)
  owner_steps cell tag = saw (field.Tag cells.bucket cell) tag ∷ saw (field.Owner cells.bucket cell) place.row ∷ []

  -- after these the version's header and its end
  abbrev pub end_steps : ℕ → ℕ → ℕ → ℕ → List (Step Field)
  end_steps cell tag header ending =
      owner_steps cell tag ++ saw (field.Begin cells.bucket cell) header ∷ saw (field.End cells.bucket cell) ending ∷ []

  -- and after these its words
  abbrev pub look_steps : ℕ → ℕ → ℕ → ℕ → List ℕ → List (Step Field)
  look_steps cell tag header ending words =
      end_steps cell tag header ending ++ saw_words (field.CellWord cells.bucket cell) words

  -- a cell was ended by a word found: by its tag, its owner, its header, its end, or by its tag read again
  pub data CellEnded (cell : ℕ) (steps : List (Step Field)) : Type 0 where
    by_tag : (tag : ℕ) → is_full tag ≡ false → steps ≡ saw (field.Tag cells.bucket cell) tag ∷ [] → CellEnded cell steps
    by_owner : (tag owner : ℕ) → is_full tag ≡ true → owner ≢ place.row
        → steps ≡ saw (field.Tag cells.bucket cell) tag ∷ saw (field.Owner cells.bucket cell) owner ∷ []
        → CellEnded cell steps
    by_header : (tag header : ℕ) → is_full tag ≡ true → sees place.form seen header ≡ false
        → steps ≡ owner_steps cell tag ++ saw (field.Begin cells.bucket cell) header ∷ [] → CellEnded cell steps
    by_end : (tag header ending : ℕ) → HasSeen tag header → sees place.form seen ending ≡ true
        → steps ≡ end_steps cell tag header ending → CellEnded cell steps
    by_change : (tag header ending : ℕ) (words : List ℕ) (again : ℕ) → HasSeen tag header
        → sees place.form seen ending ≡ false → length words ≡ place.width → again ≢ tag
        → steps ≡ look_steps cell tag header ending words ++ saw (field.Tag cells.bucket cell) again ∷ []
        → CellEnded cell steps

  -- A cell has what the snapshot sees: its tag says that it is full, the row owns it, its header is visible, its end
  -- isn't, and the same tag was found again after the words. The value is those words, and absent where the header is
  -- a deletion's.
  pub record CellGives (value : Option (List ℕ)) (cell : ℕ) (steps : List (Step Field)) : Type 0 where
    pub tag : ℕ
    pub header : ℕ
    pub ending : ℕ
    pub words : List ℕ
    pub shows : HasSeen tag header
    pub newest : sees place.form seen ending ≡ false
    pub whole : length words ≡ place.width
    pub value_is : value ≡ (if is_deleted place.form header then None else Some words)
    pub steps_are : steps ≡ look_steps cell tag header ending words ++ saw (field.Tag cells.bucket cell) tag ∷ []

-- found exactly where a cell has it, after each cell before it was ended by a word found
abbrev pub FoundLaw : Type 0
FoundLaw =
    (cells : Cells) (place : Place) → FitsCells cells → FitsPlace place
    → (seen : List ℕ) (steps : List (Step Field)) (value : Option (List ℕ))
    → EndsWith (running (searching cells place seen)) steps (Found value)
    ↔ StopsAt (CellEnded cells place seen) (CellGives cells place seen value) cells.cells steps

-- not there exactly where each cell was ended by a word found
abbrev pub NotThereLaw : Type 0
NotThereLaw =
    (cells : Cells) (place : Place) → FitsCells cells → FitsPlace place → (seen : List ℕ) (steps : List (Step Field))
    → EndsWith (running (searching cells place seen)) steps NotThere
    ↔ Stretches (CellEnded cells place seen) 0 cells.cells steps

-- whatever words are found, each verb reads a field of the bucket's cells
abbrev pub SearchFieldLaw : Type 0
SearchFieldLaw = (cells : Cells) (place : Place) → FitsCells cells → FitsPlace place → (seen : List ℕ)
    → Always (λ at. IsOfCells cells (target (cell_verb cells at))) (running (searching cells place seen))
