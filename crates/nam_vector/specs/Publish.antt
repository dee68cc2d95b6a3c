-- the publication of a number, as a machine
use Rattle.std.specs.Prelude.{ℕ}
use Rattle.nam_verbs.specs.declared.now.Now.{Now}
use Rattle.nam_verbs.specs.declared.now.Now.TheVariants.{At, Over}
use Rattle.nam_verbs.specs.VerbAt.{VerbAt, WriteAt}
use Rattle.nam_verbs.specs.Running.{Running}
use Rattle.nam_layout.specs.declared.field.Field.{Field}
use Rattle.nam_layout.specs.declared.field.Field.TheVariants.{Entry}
use Rattle.nam_layout.specs.Place.{worker_address}

-- a number that a worker publishes, and whether its entry is still to be written
pub record Publishing : Type 0 where
  pub worker : ℕ
  pub number : ℕ
  pub state : Now (Unit {0}) (Unit {0})

-- a new publication
abbrev pub publishing : ℕ → ℕ → Publishing
publishing worker number = record { worker = worker; number = number; state = At tt }

-- the write of a worker's own entry
abbrev pub publish_verb : ℕ → ℕ → VerbAt Field
publish_verb worker number = WriteAt (Entry worker) number

-- the same as a running call, whose one point is before the write
abbrev pub running : Publishing → Running Field (Unit {0}) (Unit {0})
running a = record {
  address = worker_address a.worker;
  reach = a.worker;
  verb = λ place. publish_verb a.worker a.number;
  after = λ place found. Over tt;
  left = λ place. 1;
  state = a.state;
}
