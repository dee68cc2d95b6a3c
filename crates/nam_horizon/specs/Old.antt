-- Showing that a snapshot is too old, as a machine.
use Rattle.std.specs.Prelude.{ℕ, ◌*◌, List}
use Rattle.nam_verbs.specs.declared.now.Now.{Now}
use Rattle.nam_verbs.specs.declared.now.Now.TheVariants.{At}
use Rattle.nam_verbs.specs.Running.{Running}
use Rattle.nam_layout.specs.Place.{worker_address}
use Rattle.nam_layout.specs.declared.field.Field.{Field}
use Rattle.nam_calls.specs.declared.horizon.OldEnd.{OldEnd}
use Rattle.nam_calls.specs.Horizon.{old_begin, old_verb, old_after, old_left}

-- a snapshot of so many workers' entries, and the worker whose horizon entry comes next
pub record Showing : Type 0 where
  pub workers : ℕ
  pub seen : List ℕ
  pub state : Now ℕ OldEnd

-- it begins with the first worker
abbrev pub showing : ℕ → List ℕ → Showing
showing workers seen = record { workers = workers; seen = seen; state = At old_begin }

-- the same as a running call
abbrev pub running : Showing → Running Field ℕ OldEnd
running a = record {
  address = worker_address a.workers;
  reach = 2 * a.workers;
  verb = old_verb;
  after = old_after a.workers a.seen;
  left = old_left a.workers;
  state = a.state;
}
