-- One more look at a header as a machine.
use Rattle.std.specs.Prelude.{ℕ, Bool}
use Rattle.nam_verbs.specs.declared.now.Now.{Now}
use Rattle.nam_verbs.specs.declared.now.Now.TheVariants.{At, Over}
use Rattle.nam_verbs.specs.Running.{Running}
use Rattle.nam_layout.specs.declared.field.Place.{Place}
use Rattle.nam_layout.specs.Place.{position_address, place_end}
use Rattle.nam_layout.specs.declared.field.Field.{Field}
use Rattle.nam_calls.specs.Record.{recheck_verb, recheck_end}

-- a record that bore a header, and whether it was looked at again
pub record Rechecking : Type 0 where
  pub place : Place
  pub header : ℕ
  pub state : Now (Unit {0}) Bool

-- a new look
abbrev pub rechecking : Place → ℕ → Rechecking
rechecking place header = record { place = place; header = header; state = At tt }

-- the same as a running call, whose one point is before the read
abbrev pub running : Rechecking → Running Field (Unit {0}) Bool
running a = record {
  address = position_address a.place;
  reach = place_end a.place;
  verb = λ at. recheck_verb a.place;
  after = λ at found. Over (recheck_end a.place a.header found);
  left = λ at. 1;
  state = a.state;
}
