-- A collection in registers.
use Rattle.std.specs.Prelude.{◌≡◌, ℕ, ◌*◌, ◌≤◌, List, []}
use Rattle.nam_verbs.specs.declared.now.Now.{Now}
use Rattle.nam_verbs.specs.declared.now.Now.TheVariants.{At, Over}
use Rattle.nam_verbs.specs.Now.{FitsNow, after_now}
use Rattle.nam_verbs.specs.Running.{Running}
use Rattle.nam_catalog.specs.declared.bounds.TheConstants.{MOST_WORKERS}
use Rattle.nam_layout.specs.declared.field.Field.{Field}
use Rattle.nam_layout.specs.declared.field.Cells.{Cells}
use Rattle.nam_layout.specs.Address.{cell_from}
use Rattle.nam_layout.specs.Place.{no_place, known_address, cells_end, later}
use Rattle.nam_layout.specs.PlaceFits.{FitsCells}
use Rattle.nam_calls.specs.declared.horizon.CollectPoint.{CollectPoint}
use Rattle.nam_calls.specs.declared.horizon.CollectPoint.TheVariants.{HorizonLook, HorizonRaise, CollectTag}
use Rattle.nam_calls.specs.declared.horizon.CollectPoint.TheVariants.{CollectEnding, CollectFree}
use Rattle.nam_calls.specs.Horizon.{collect_begin, collect_verb, collect_after, collect_left}
use Rattle.nam_calls.specs.Fits.{CollectFits}
use Rattle.nam_upkeep.specs.Cells.{no_cells}
use Rattle.nam_upkeep.specs.declared.collect_registers.CollectRegisters.{CollectRegisters}
use Rattle.nam_upkeep.specs.declared.collect_registers.CollectStep.{CollectStep}
use Rattle.nam_upkeep.specs.declared.collect_registers.CollectStep.TheVariants as step

-- 1. A collection, whose snapshot its caller has

-- the collection of a bucket in a store of so many workers, and where it stands
pub record Collection : Type 0 where
  pub cells : Cells
  pub workers : ℕ
  pub state : Now CollectPoint (List ℕ)

-- a new collection
abbrev pub collection : Cells → ℕ → Collection
collection cells workers = record { cells = cells; workers = workers; state = At collect_begin }

-- a collection that is over, of no bucket
abbrev pub resting : Collection
resting = record { cells = no_cells; workers = 0; state = Over [] }

-- the same as a running call, under a snapshot
abbrev pub running : List ℕ → Collection → Running Field CollectPoint (List ℕ)
running seen a = record {
  address = known_address no_place a.cells a.workers;
  reach = later (2 * a.workers) (cells_end a.cells);
  verb = collect_verb a.cells seen;
  after = collect_after a.cells a.workers seen;
  left = collect_left a.cells a.workers;
  state = a.state;
}

-- 2. Its registers

-- where a collection stands, by its step
abbrev pub state_of : CollectStep → CollectRegisters → Now CollectPoint (List ℕ)
state_of step.Tag a = At (CollectTag a.known a.cell)
state_of step.Ending a = At (CollectEnding a.known a.cell a.tag)
state_of step.Free a = At (CollectFree a.known a.cell a.tag)
state_of step.Look a = At (HorizonLook a.known)
state_of step.Raise a = At (HorizonRaise a.known a.found)
state_of step.Over a = Over a.known

-- the collection that the registers are
abbrev pub collection_of : CollectRegisters → Collection
collection_of a = record { cells = a.cells; workers = a.workers; state = state_of a.step a }

-- the same after a found word
abbrev pub collected_by : List ℕ → CollectRegisters → ℕ → Collection
collected_by seen a found = record {
  cells = a.cells;
  workers = a.workers;
  state = after_now (collect_after a.cells a.workers seen) (state_of a.step a) found;
}

-- the tag that is looked at is that of the cell
abbrev pub HasTag : CollectRegisters → Type 0
HasTag a = a.tag_at ≡ cell_from a.cells.first a.cell

-- a point fits that is under cells that fit and not too many workers
abbrev pub FitsPoint : Cells → ℕ → CollectPoint → Type 0
FitsPoint cells workers at = FitsCells cells × (workers ≤ MOST_WORKERS) × CollectFits cells workers at

-- the point fits, where the collection is not over
abbrev pub FitsCollection : CollectRegisters → Type 0
FitsCollection a = FitsNow (FitsPoint a.cells a.workers) (state_of a.step a)
