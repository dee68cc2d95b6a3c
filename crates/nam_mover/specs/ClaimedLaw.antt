-- For which version a move holds a claimed cell.
use Rattle.std.specs.Prelude.{◌≡◌, ℕ, false, List, ◌++◌, Some, IsNone, ◌↔◌}
use Rattle.si_model.specs.declared.log.Stamp.{Stamp}
use Rattle.nam_verbs.specs.Machine.{after_words}
use Rattle.nam_verbs.specs.Running.{end_of}
use Rattle.nam_verbs.specs.Steps.{Step, StopsAt}
use Rattle.nam_verbs.specs.SoFar.{steps_by}
use Rattle.nam_header.specs.Stamp.{stamp_in, is_moved}
use Rattle.nam_layout.specs.declared.field.Place.{Place}
use Rattle.nam_layout.specs.declared.field.Cells.{Cells}
use Rattle.nam_layout.specs.PlaceFits.{FitsPlace, FitsCells}
use Rattle.nam_layout.specs.declared.field.Field.{Field}
use Rattle.nam_overflow.specs.ClaimLaw.{CellLost, CellTaken}
use Rattle.nam_mover.specs.Move.{moving, running, claimed_in}
use Rattle.nam_mover.specs.MoveLaw.{end_steps}

-- the first of these steps took a cell for the version in the slot, which wasn't moved and bears this stamp
pub record HasTaken (place : Place) (cells : Cells) (stamp : Stamp) (steps : List (Step Field)) : Type 0 where
  pub count : ℕ
  pub header : ℕ
  pub ending : ℕ
  pub cell : ℕ
  pub tag : ℕ
  pub claims : List (Step Field)
  pub later : List (Step Field)
  pub unmoved : is_moved place.form header ≡ false
  pub claimed : StopsAt (CellLost cells) (CellTaken cells cell tag) cells.cells claims
  pub stamp_is : stamp ≡ stamp_in place.form header
  pub steps_are : steps ≡ end_steps place cells count header ending ++ claims ++ later

-- whatever words were found, a cell is claimed for a version exactly where the steps so far took one, and the call
-- hasn't ended
abbrev pub ClaimedLaw : Type 0
ClaimedLaw = (place : Place) (cells : Cells) → FitsPlace place → FitsCells cells → (words : List ℕ) (stamp : Stamp)
    → (claimed_in place (after_words (running (moving place cells)) words).state ≡ Some stamp)
    ↔ (IsNone (end_of (after_words (running (moving place cells)) words))
    × HasTaken place cells stamp (steps_by (running (moving place cells)) words))
