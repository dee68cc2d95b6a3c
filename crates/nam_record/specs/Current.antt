-- The reading of a current version as a machine.
use Rattle.std.specs.Prelude.{ℕ, List}
use Rattle.nam_verbs.specs.declared.now.Now.{Now}
use Rattle.nam_verbs.specs.declared.now.Now.TheVariants.{At}
use Rattle.nam_verbs.specs.Running.{Running}
use Rattle.nam_layout.specs.declared.field.Place.{Place}
use Rattle.nam_layout.specs.Place.{position_address, place_end}
use Rattle.nam_layout.specs.declared.field.Field.{Field}
use Rattle.nam_calls.specs.declared.record.CurrentPoint.{CurrentPoint}
use Rattle.nam_calls.specs.declared.record.CurrentEnd.{CurrentEnd}
use Rattle.nam_calls.specs.Record.{current_begin, current_verb, current_after, current_left}

-- a record whose current version is read under a snapshot, and where that stands
pub record CurrentReading : Type 0 where
  pub place : Place
  pub seen : List ℕ
  pub state : Now CurrentPoint CurrentEnd

-- a new reading
abbrev pub reading_current : Place → List ℕ → CurrentReading
reading_current place seen = record { place = place; seen = seen; state = At current_begin }

-- the same as a running call
abbrev pub running : CurrentReading → Running Field CurrentPoint CurrentEnd
running a = record {
  address = position_address a.place;
  reach = place_end a.place;
  verb = current_verb a.place;
  after = current_after a.place a.seen;
  left = current_left a.place;
  state = a.state;
}
