-- A move in registers.
use Rattle.std.specs.Prelude.{◌≡◌, ℕ}
use Rattle.nam_verbs.specs.declared.now.Now.{Now}
use Rattle.nam_verbs.specs.declared.now.Now.TheVariants.{At, Over}
use Rattle.nam_verbs.specs.Now.{FitsNow, after_now}
use Rattle.nam_header.specs.Stamp.{stamp_in, without_moved}
use Rattle.nam_layout.specs.declared.field.Place.{Place}
use Rattle.nam_layout.specs.declared.field.Cells.{Cells}
use Rattle.nam_layout.specs.Address.{cell_from}
use Rattle.nam_layout.specs.Place.{no_place}
use Rattle.nam_layout.specs.PlaceFits.{FitsPlace, FitsCells}
use Rattle.nam_calls.specs.declared.overflow.ClaimPoint.{ClaimPoint}
use Rattle.nam_calls.specs.declared.overflow.ClaimPoint.TheVariants.{ClaimLook, ClaimTake}
use Rattle.nam_calls.specs.declared.overflow.FillPoint.{FillPoint}
use Rattle.nam_calls.specs.declared.overflow.FillPoint.TheVariants as fill
use Rattle.nam_calls.specs.declared.mover.MovePoint.{MovePoint}
use Rattle.nam_calls.specs.declared.mover.MovePoint.TheVariants.{MoveCount, MoveHead, MoveEnding, MoveClaim}
use Rattle.nam_calls.specs.declared.mover.MovePoint.TheVariants.{MoveWords}
use Rattle.nam_calls.specs.declared.mover.MovePoint.TheVariants.{MoveFill, MoveAgain, MoveFull, MoveFlag, MoveBack}
use Rattle.nam_calls.specs.declared.mover.MoveAnswer.{MoveAnswer}
use Rattle.nam_calls.specs.declared.mover.MoveAnswer.TheVariants as answer
use Rattle.nam_calls.specs.Mover.{move_after}
use Rattle.nam_calls.specs.Fits.{MoveFits}
use Rattle.nam_upkeep.specs.Move.{Moving}
use Rattle.nam_upkeep.specs.Cells.{no_cells}
use Rattle.nam_upkeep.specs.declared.move_registers.MoveRegisters.{MoveRegisters}
use Rattle.nam_upkeep.specs.declared.move_registers.MoveStep.{MoveStep}
use Rattle.nam_upkeep.specs.declared.move_registers.MoveStep.TheVariants as step

abbrev pub claiming : MoveRegisters → ClaimPoint → Now MovePoint MoveAnswer
claiming a at = At (MoveClaim a.slot a.header a.ending at)

abbrev pub filling : MoveRegisters → FillPoint → Now MovePoint MoveAnswer
filling a at = At (MoveFill a.slot a.header a.cell a.tag
    record { begin = without_moved a.place.form a.header; «end» = a.ending; value = a.value } at)

-- where a move stands, by its step
abbrev pub state_of : MoveStep → MoveRegisters → Now MovePoint MoveAnswer
state_of step.Look a = claiming a (ClaimLook a.cell)
state_of step.Take a = claiming a (ClaimTake a.cell a.tag)
state_of step.Count a = At MoveCount
state_of step.Head a = At (MoveHead a.slot)
state_of step.Ending a = At (MoveEnding a.slot a.header)
state_of step.Words a = At (MoveWords a.slot a.header a.ending a.cell a.tag a.value)
state_of step.FillOwner a = filling a fill.FillOwner
state_of step.FillBegin a = filling a fill.FillBegin
state_of step.FillEnding a = filling a fill.FillEnding
state_of step.FillWord a = filling a (fill.FillWord a.nth)
state_of step.Again a = At (MoveAgain a.slot a.header a.cell a.tag)
state_of step.Full a = At (MoveFull a.slot a.header a.cell a.tag)
state_of step.Flag a = At (MoveFlag a.slot a.header)
state_of step.Back a = At (MoveBack a.header a.cell a.tag)
state_of step.Moved a = Over (answer.Moved (stamp_in a.place.form a.header))
state_of step.GivenBack a = Over (answer.Back (stamp_in a.place.form a.header))
state_of step.Nothing a = Over answer.Nothing
state_of step.NoRoom a = Over (answer.NoRoom a.cells.bucket)

-- the move that the registers are
abbrev pub moving_of : MoveRegisters → Moving
moving_of a = record { place = a.place; cells = a.cells; state = state_of a.step a }

-- the same after a found word
abbrev pub moved_by : MoveRegisters → ℕ → Moving
moved_by a found = record {
  place = a.place;
  cells = a.cells;
  state = after_now (move_after a.place a.cells) (state_of a.step a) found;
}

-- the tag that is looked at is that of the cell
abbrev pub HasTag : MoveRegisters → Type 0
HasTag a = a.tag_at ≡ cell_from a.cells.first a.cell

-- a point fits that is under a position and cells that fit
abbrev pub FitsPoint : Place → Cells → MovePoint → Type 0
FitsPoint place cells at = FitsPlace place × FitsCells cells × MoveFits place cells at

-- the point fits, where the move is not over
abbrev pub FitsMove : MoveRegisters → Type 0
FitsMove a = FitsNow (FitsPoint a.place a.cells) (state_of a.step a)

-- a move that is over, at no position
abbrev pub resting : Moving
resting = record { place = no_place; cells = no_cells; state = Over answer.Nothing }
