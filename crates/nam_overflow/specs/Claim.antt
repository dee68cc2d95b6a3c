-- The claim of a cell as a machine.
use Rattle.nam_verbs.specs.declared.now.Now.{Now}
use Rattle.nam_verbs.specs.declared.now.Now.TheVariants.{At}
use Rattle.nam_verbs.specs.Running.{Running}
use Rattle.nam_layout.specs.declared.field.Cells.{Cells}
use Rattle.nam_layout.specs.Place.{cell_address, cells_end}
use Rattle.nam_layout.specs.declared.field.Field.{Field}
use Rattle.nam_calls.specs.declared.overflow.ClaimPoint.{ClaimPoint}
use Rattle.nam_calls.specs.declared.overflow.ClaimEnd.{ClaimEnd}
use Rattle.nam_calls.specs.Overflow.{claim_begin, claim_verb, claim_after, claim_left}

-- a claim of one of these cells, and where it stands
pub record Claiming : Type 0 where
  pub cells : Cells
  pub state : Now ClaimPoint ClaimEnd

-- a new claim
abbrev pub claiming : Cells → Claiming
claiming cells = record { cells = cells; state = At claim_begin }

-- the same as a running call
abbrev pub running : Claiming → Running Field ClaimPoint ClaimEnd
running a = record {
  address = cell_address a.cells;
  reach = cells_end a.cells;
  verb = claim_verb a.cells;
  after = claim_after a.cells;
  left = claim_left a.cells;
  state = a.state;
}
