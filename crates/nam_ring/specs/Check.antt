-- The look at a slot as a machine.
use Rattle.nam_verbs.specs.declared.now.Now.{Now}
use Rattle.nam_verbs.specs.declared.now.Now.TheVariants.{At}
use Rattle.nam_verbs.specs.Running.{Running}
use Rattle.nam_layout.specs.declared.field.Place.{Place}
use Rattle.nam_layout.specs.Place.{position_address, place_end}
use Rattle.nam_layout.specs.declared.field.Field.{Field}
use Rattle.nam_calls.specs.declared.ring.SlotPoint.{SlotPoint}
use Rattle.nam_calls.specs.declared.ring.SlotEnd.{SlotEnd}
use Rattle.nam_calls.specs.Ring.{slot_begin, slot_verb, slot_after, slot_left}

-- a look at the slot that a position's next version needs, and where it stands
pub record Checking : Type 0 where
  pub place : Place
  pub state : Now SlotPoint SlotEnd

-- a new look
abbrev pub checking : Place → Checking
checking place = record { place = place; state = At slot_begin }

-- the same as a running call
abbrev pub running : Checking → Running Field SlotPoint SlotEnd
running a = record {
  address = position_address a.place;
  reach = place_end a.place;
  verb = slot_verb a.place;
  after = slot_after a.place;
  left = slot_left;
  state = a.state;
}
