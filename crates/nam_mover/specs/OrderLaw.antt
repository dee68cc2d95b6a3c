-- What a move has done before it writes into a cell, and before it tries to set the slot's moved flag.
use Rattle.std.specs.Prelude.{◌≡◌, ◌⊎◌, ℕ, ◌<◌, List, [], ◌∷◌, ◌++◌, Some}
use Rattle.si_model.specs.declared.log.Stamp.{Stamp}
use Rattle.nam_verbs.specs.Machine.{after_words}
use Rattle.nam_verbs.specs.Steps.{Step}
use Rattle.nam_verbs.specs.SoFar.{steps_by, next_at}
use Rattle.nam_verbs.specs.VerbAt.{WriteAt, ExchangeAt}
use Rattle.nam_catalog.specs.declared.bounds.TheConstants.{MOST_WIDTH}
use Rattle.nam_header.specs.Stamp.{with_moved}
use Rattle.nam_header.specs.Tag.{written, full}
use Rattle.nam_layout.specs.declared.field.Place.{Place}
use Rattle.nam_layout.specs.declared.field.Cells.{Cells}
use Rattle.nam_layout.specs.PlaceFits.{FitsPlace, FitsCells}
use Rattle.nam_layout.specs.Place.{slot_of}
use Rattle.nam_layout.specs.declared.field.Field.{Field}
use Rattle.nam_layout.specs.declared.field.Field.TheVariants as field
use Rattle.nam_mover.specs.Move.{moving, running}
use Rattle.nam_mover.specs.MoveLaw.{Copied}
use Rattle.nam_mover.specs.ClaimedLaw.{HasTaken}

-- a field of this cell of the bucket
abbrev pub IsOfCell : Cells → ℕ → Field → Type 0
IsOfCell cells cell (field.Tag bucket nth) = (bucket ≡ cells.bucket) × (nth ≡ cell)
IsOfCell cells cell (field.Owner bucket nth) = (bucket ≡ cells.bucket) × (nth ≡ cell)
IsOfCell cells cell (field.Begin bucket nth) = (bucket ≡ cells.bucket) × (nth ≡ cell)
IsOfCell cells cell (field.End bucket nth) = (bucket ≡ cells.bucket) × (nth ≡ cell)
IsOfCell cells cell (field.CellWord bucket nth word) = (bucket ≡ cells.bucket) × (nth ≡ cell) × (word < MOST_WIDTH)
IsOfCell cells cell _ = ⊥

module _ (place : Place) (cells : Cells) where
  -- the steps took a cell, and this is one of its fields
  pub record IsInTaken (at : Field) (steps : List (Step Field)) : Type 0 where
    pub stamp : Stamp
    pub taken : HasTaken place cells stamp steps
    pub within : IsOfCell cells taken.cell at

  -- a try for a cell: its tag is exchanged for the one that says that it is being written
  pub record TriesCell (at : Field) (expected new : ℕ) : Type 0 where
    pub cell : ℕ
    pub within : cell < cells.cells
    pub tag_is : at ≡ field.Tag cells.bucket cell
    pub written_is : new ≡ written expected

  -- The try for the slot's moved flag: the steps copied the version and found its slot's header the same, and then
  -- they made the cell's tag full, as the last step.
  pub record TriesFlag (at : Field) (expected new : ℕ) (steps : List (Step Field)) : Type 0 where
    pub count : ℕ
    pub header : ℕ
    pub cell : ℕ
    pub tag : ℕ
    pub copy : List (Step Field)
    pub last : Step Field
    pub copied : Copied place cells count header cell tag header copy
    pub shown : last.verb ≡ WriteAt (field.Tag cells.bucket cell) (full tag)
    pub steps_are : steps ≡ copy ++ last ∷ []
    pub slot_is : at ≡ field.SlotHeader place.row (slot_of place count)
    pub header_is : expected ≡ header
    pub flag_is : new ≡ with_moved place.form header

-- whatever words were found, what is written is a field of the cell that the steps so far took
abbrev pub WriteLaw : Type 0
WriteLaw =
    (place : Place) (cells : Cells) → FitsPlace place → FitsCells cells → (words : List ℕ) (at : Field) (word : ℕ)
    → next_at (after_words (running (moving place cells)) words) ≡ Some (WriteAt at word)
    → IsInTaken place cells at (steps_by (running (moving place cells)) words)

-- whatever words were found, what is exchanged is a cell's tag, to take it, or the slot's header, once the cell is full
abbrev pub ExchangeLaw : Type 0
ExchangeLaw =
    (place : Place) (cells : Cells) → FitsPlace place → FitsCells cells
    → (words : List ℕ) (at : Field) (expected new : ℕ)
    → next_at (after_words (running (moving place cells)) words) ≡ Some (ExchangeAt at expected new)
    → TriesCell place cells at expected new
    ⊎ TriesFlag place cells at expected new (steps_by (running (moving place cells)) words)
