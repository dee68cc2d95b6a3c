-- How a move ends, and what it did.
use Rattle.std.specs.Prelude.{◌≡◌, ◌≢◌, ℕ, true, false, List, [], ◌∷◌, ◌++◌, length, ◌↔◌}
use Rattle.si_model.specs.declared.log.Stamp.{Stamp}
use Rattle.nam_verbs.specs.Steps.{Step, saw, saw_words, verbs_of, EndsWith, Stretches, StopsAt}
use Rattle.nam_verbs.specs.Machine.{Always}
use Rattle.nam_verbs.specs.VerbAt.{VerbAt, WriteAt, ExchangeAt, target}
use Rattle.nam_header.specs.Stamp.{stamp_in, is_moved, with_moved, without_moved}
use Rattle.nam_header.specs.Tag.{full, freed}
use Rattle.nam_layout.specs.declared.field.Place.{Place}
use Rattle.nam_layout.specs.declared.field.Cells.{Cells}
use Rattle.nam_layout.specs.PlaceFits.{FitsPlace, FitsCells}
use Rattle.nam_layout.specs.Known.{IsKnown}
use Rattle.nam_layout.specs.Place.{slot_of}
use Rattle.nam_layout.specs.declared.field.Field.{Field}
use Rattle.nam_layout.specs.declared.field.Field.TheVariants as field
use Rattle.nam_calls.specs.declared.mover.MoveAnswer.TheVariants.{Moved, Back, Nothing, NoRoom}
use Rattle.nam_calls.specs.Mover.{move_verb}
use Rattle.nam_overflow.specs.ClaimLaw.{CellLost, CellTaken}
use Rattle.nam_overflow.specs.FillLaw.{fill_verbs}
use Rattle.nam_mover.specs.Move.{moving, running}

module _ (place : Place) (cells : Cells) where
  -- the number of the record's current version was read, and the header of the slot that its next version needs
  abbrev pub look_steps : ℕ → ℕ → List (Step Field)
  look_steps count header =
      saw (field.Count place.row) count ∷ saw (field.SlotHeader place.row (slot_of place count)) header ∷ []

  -- and after these the slot's end
  abbrev pub end_steps : ℕ → ℕ → ℕ → List (Step Field)
  end_steps count header ending = look_steps count header ++ saw (field.SlotEnd place.row (slot_of place count)) ending ∷ []

  -- and after these the claims of a cell, the slot's words, and the writes of the cell
  abbrev pub copy_steps : ℕ → ℕ → ℕ → List (Step Field) → List ℕ → List (Step Field) → List (Step Field)
  copy_steps count header ending claims words writes =
      end_steps count header ending ++ claims ++ saw_words (field.SlotWord place.row (slot_of place count)) words ++ writes

  -- the try to set the slot's moved flag
  abbrev pub try_flag : ℕ → ℕ → VerbAt Field
  try_flag count header =
      ExchangeAt (field.SlotHeader place.row (slot_of place count)) header (with_moved place.form header)

  -- the version in the slot was moved before
  pub record WasMoved (steps : List (Step Field)) : Type 0 where
    pub count : ℕ
    pub header : ℕ
    pub moved : is_moved place.form header ≡ true
    pub steps_are : steps ≡ look_steps count header

  -- the version wasn't moved, and each cell was found not free, or was lost
  pub record NoCell (steps : List (Step Field)) : Type 0 where
    pub count : ℕ
    pub header : ℕ
    pub ending : ℕ
    pub claims : List (Step Field)
    pub unmoved : is_moved place.form header ≡ false
    pub lost : Stretches (CellLost cells) 0 cells.cells claims
    pub steps_are : steps ≡ end_steps count header ending ++ claims

  -- A version that wasn't moved was copied from its slot into a cell that was claimed for it: the slot's words were
  -- read; the row, the version's header, its end and these words were written into the cell; and then the slot's
  -- header was read again.
  pub record Copied (count header cell tag again : ℕ) (steps : List (Step Field)) : Type 0 where
    pub ending : ℕ
    pub claims : List (Step Field)
    pub words : List ℕ
    pub writes : List (Step Field)
    pub unmoved : is_moved place.form header ≡ false
    pub claimed : StopsAt (CellLost cells) (CellTaken cells cell tag) cells.cells claims
    pub whole : length words ≡ place.width
    pub filled : verbs_of writes ≡ fill_verbs cells cell place.row (without_moved place.form header) ending words
    pub steps_are : steps ≡ copy_steps count header ending claims words writes
        ++ saw (field.SlotHeader place.row (slot_of place count)) again ∷ []

  -- the slot bore the same header after the copy; the cell's tag was made full, and only then the slot's moved flag
  -- was tried
  pub record WasCopied (stamp : Stamp) (steps : List (Step Field)) : Type 0 where
    pub count : ℕ
    pub header : ℕ
    pub cell : ℕ
    pub tag : ℕ
    pub copy : List (Step Field)
    pub last : List (Step Field)
    pub copied : Copied count header cell tag header copy
    pub shown : verbs_of last ≡ WriteAt (field.Tag cells.bucket cell) (full tag) ∷ try_flag count header ∷ []
    pub stamp_is : stamp ≡ stamp_in place.form header
    pub steps_are : steps ≡ copy ++ last

  -- the slot bore another header after the copy, and the cell was set free for the next generation, if there is one
  pub record WasGivenBack (stamp : Stamp) (steps : List (Step Field)) : Type 0 where
    pub count : ℕ
    pub header : ℕ
    pub cell : ℕ
    pub tag : ℕ
    pub again : ℕ
    pub copy : List (Step Field)
    pub last : List (Step Field)
    pub copied : Copied count header cell tag again copy
    pub changed : again ≢ header
    pub freed_by : verbs_of last ≡ WriteAt (field.Tag cells.bucket cell) (freed tag) ∷ []
    pub stamp_is : stamp ≡ stamp_in place.form header
    pub steps_are : steps ≡ copy ++ last

-- nothing exactly where the slot's version was moved before
abbrev pub NothingLaw : Type 0
NothingLaw = (place : Place) (cells : Cells) → FitsPlace place → FitsCells cells → (steps : List (Step Field))
    → EndsWith (running (moving place cells)) steps Nothing ↔ WasMoved place cells steps

-- no room, in this bucket, exactly where it wasn't, and no cell was to be had
abbrev pub NoRoomLaw : Type 0
NoRoomLaw = (place : Place) (cells : Cells) → FitsPlace place → FitsCells cells
    → (steps : List (Step Field)) (bucket : ℕ)
    → EndsWith (running (moving place cells)) steps (NoRoom bucket)
    ↔ ((bucket ≡ cells.bucket) × NoCell place cells steps)

-- moved exactly where the version was copied and its cell made full before the slot's flag was tried
abbrev pub MovedLaw : Type 0
MovedLaw = (place : Place) (cells : Cells) → FitsPlace place → FitsCells cells
    → (steps : List (Step Field)) (stamp : Stamp)
    → EndsWith (running (moving place cells)) steps (Moved stamp) ↔ WasCopied place cells stamp steps

-- back exactly where the slot's header had changed after the copy, and the cell was given back
abbrev pub BackLaw : Type 0
BackLaw = (place : Place) (cells : Cells) → FitsPlace place → FitsCells cells
    → (steps : List (Step Field)) (stamp : Stamp)
    → EndsWith (running (moving place cells)) steps (Back stamp) ↔ WasGivenBack place cells stamp steps

-- whatever words are found, each verb is at a field of the position or of the bucket's cells
abbrev pub MoveFieldLaw : Type 0
MoveFieldLaw = (place : Place) (cells : Cells) → FitsPlace place → FitsCells cells
    → Always (λ at. IsKnown place cells 0 (target (move_verb place cells at))) (running (moving place cells))
