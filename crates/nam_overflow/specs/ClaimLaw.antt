-- When a cell is claimed, and when there is no room.
use Rattle.std.specs.Prelude.{◌≡◌, ◌≢◌, ℕ, true, false, List, [], ◌∷◌, ◌↔◌}
use Rattle.nam_verbs.specs.Steps.{Step, saw, tried, EndsWith, Stretches, StopsAt}
use Rattle.nam_verbs.specs.Machine.{Always}
use Rattle.nam_verbs.specs.VerbAt.{target}
use Rattle.nam_header.specs.Tag.{is_free, written}
use Rattle.nam_layout.specs.declared.field.Cells.{Cells}
use Rattle.nam_layout.specs.PlaceFits.{FitsCells}
use Rattle.nam_layout.specs.Known.{IsOfCells}
use Rattle.nam_layout.specs.declared.field.Field.{Field}
use Rattle.nam_layout.specs.declared.field.Field.TheVariants as field
use Rattle.nam_calls.specs.declared.overflow.ClaimEnd.TheVariants.{Claimed, NoRoom}
use Rattle.nam_calls.specs.Overflow.{claim_verb}
use Rattle.nam_overflow.specs.Claim.{claiming, running}

module _ (cells : Cells) where
  -- a cell was not to be had: its tag was found not free, or its exchange found another tag
  pub data CellLost (cell : ℕ) (steps : List (Step Field)) : Type 0 where
    not_free : (tag : ℕ) → is_free tag ≡ false → steps ≡ saw (field.Tag cells.bucket cell) tag ∷ []
        → CellLost cell steps
    exchange_lost : (tag other : ℕ) → is_free tag ≡ true → other ≢ tag
        → steps ≡ saw (field.Tag cells.bucket cell) tag ∷ tried (field.Tag cells.bucket cell) tag
        (written tag) other ∷ []
        → CellLost cell steps

  -- a cell was taken: its tag was found free, and its exchange found the same tag; it bears `now`, the tag of the same
  -- generation that says that it is being written
  pub record CellTaken (taken now cell : ℕ) (steps : List (Step Field)) : Type 0 where
    pub tag : ℕ
    pub free : is_free tag ≡ true
    pub cell_is : taken ≡ cell
    pub now_is : now ≡ written tag
    pub steps_are : steps ≡ saw (field.Tag cells.bucket cell) tag ∷ tried (field.Tag cells.bucket cell) tag
        (written tag) tag ∷ []

-- claimed exactly where a cell was taken, after each cell before it was lost
abbrev pub ClaimedLaw : Type 0
ClaimedLaw = (cells : Cells) → FitsCells cells → (steps : List (Step Field)) (cell tag : ℕ)
    → EndsWith (running (claiming cells)) steps (Claimed cell tag)
    ↔ StopsAt (CellLost cells) (CellTaken cells cell tag) cells.cells steps

-- no room exactly where each cell was lost
abbrev pub NoRoomLaw : Type 0
NoRoomLaw = (cells : Cells) → FitsCells cells → (steps : List (Step Field))
    → EndsWith (running (claiming cells)) steps NoRoom ↔ Stretches (CellLost cells) 0 cells.cells steps

-- whatever words are found, each verb is at a field of the bucket's cells
abbrev pub ClaimFieldLaw : Type 0
ClaimFieldLaw = (cells : Cells) → FitsCells cells
    → Always (λ at. IsOfCells cells (target (claim_verb cells at))) (running (claiming cells))
