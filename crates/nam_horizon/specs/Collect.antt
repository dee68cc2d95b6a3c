-- A collection as a machine.
use Rattle.std.specs.Prelude.{◌≡◌, ℕ, ◌*◌, ◌≤◌, List, length}
use Rattle.nam_verbs.specs.declared.now.Now.{Now}
use Rattle.nam_verbs.specs.declared.now.Now.TheVariants.{At}
use Rattle.nam_verbs.specs.Now.{FitsNow}
use Rattle.nam_verbs.specs.Running.{Running}
use Rattle.nam_layout.specs.declared.field.Cells.{Cells}
use Rattle.nam_layout.specs.PlaceFits.{FitsCells}
use Rattle.nam_layout.specs.Place.{no_place, known_address, cells_end, later}
use Rattle.nam_layout.specs.declared.field.Field.{Field}
use Rattle.nam_calls.specs.declared.horizon.CollectPoint.{CollectPoint}
use Rattle.nam_calls.specs.Fits.{CollectFits}
use Rattle.nam_calls.specs.Horizon.{collect_begin, collect_verb, collect_after, collect_left}

-- the collection of a bucket under a snapshot of so many workers' entries, and where it stands
pub record Collecting : Type 0 where
  pub cells : Cells
  pub workers : ℕ
  pub seen : List ℕ
  pub state : Now CollectPoint (List ℕ)

-- what it is under fits, and where it stands
pub record FitsCollecting (cells : Cells) (workers : ℕ) (seen : List ℕ) (state : Now CollectPoint (List ℕ))
    : Type 0 where
  pub bucket : FitsCells cells
  pub most_workers : workers ≤ 16
  pub whole : length seen ≡ workers
  pub place : FitsNow (CollectFits cells workers) state

-- a new collection
abbrev pub collecting : Cells → ℕ → List ℕ → Collecting
collecting cells workers seen = record { cells = cells; workers = workers; seen = seen; state = At collect_begin }

-- where the fields stand that it reaches: entries of workers, and the bucket's cells
abbrev pub collect_address : Cells → ℕ → Field → ℕ
collect_address cells workers = known_address no_place cells workers

-- the same as a running call
abbrev pub running : Collecting → Running Field CollectPoint (List ℕ)
running a = record {
  address = collect_address a.cells a.workers;
  reach = later (2 * a.workers) (cells_end a.cells);
  verb = collect_verb a.cells a.seen;
  after = collect_after a.cells a.workers a.seen;
  left = collect_left a.cells a.workers;
  state = a.state;
}
