-- The search of a ring as a machine.
use Rattle.std.specs.Prelude.{ℕ, List}
use Rattle.nam_verbs.specs.declared.now.Now.{Now}
use Rattle.nam_verbs.specs.declared.now.Now.TheVariants.{At}
use Rattle.nam_verbs.specs.Running.{Running}
use Rattle.nam_layout.specs.declared.field.Place.{Place}
use Rattle.nam_layout.specs.Place.{position_address, place_end}
use Rattle.nam_layout.specs.declared.field.Field.{Field}
use Rattle.nam_calls.specs.declared.ring.RingPoint.{RingPoint}
use Rattle.nam_calls.specs.declared.ring.SearchEnd.{SearchEnd}
use Rattle.nam_calls.specs.Ring.{ring_begin, ring_verb, ring_after, ring_left}

-- a search of a position's ring under a snapshot, and where it stands
pub record Searching : Type 0 where
  pub place : Place
  pub seen : List ℕ
  pub state : Now RingPoint SearchEnd

-- a new search
abbrev pub searching : Place → List ℕ → Searching
searching place seen = record { place = place; seen = seen; state = At ring_begin }

-- the same as a running call
abbrev pub running : Searching → Running Field RingPoint SearchEnd
running a = record {
  address = position_address a.place;
  reach = place_end a.place;
  verb = ring_verb a.place;
  after = ring_after a.place a.seen;
  left = ring_left a.place;
  state = a.state;
}
