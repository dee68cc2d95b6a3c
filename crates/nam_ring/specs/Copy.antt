-- The copy of a version into its slot as a machine.
use Rattle.std.specs.Prelude.{ℕ, List}
use Rattle.si_model.specs.declared.log.Stamp.{Stamp}
use Rattle.nam_verbs.specs.declared.now.Now.{Now}
use Rattle.nam_verbs.specs.declared.now.Now.TheVariants.{At}
use Rattle.nam_verbs.specs.Running.{Running}
use Rattle.nam_layout.specs.declared.field.Place.{Place}
use Rattle.nam_layout.specs.Place.{position_address, place_end}
use Rattle.nam_layout.specs.declared.field.Field.{Field}
use Rattle.nam_calls.specs.declared.ring.CopyPoint.{CopyPoint}
use Rattle.nam_calls.specs.Ring.{copy_begin, copy_verb, copy_after, copy_left}

-- a copy of the version with this number, header, words and successor, and where it stands
pub record Copying : Type 0 where
  pub place : Place
  pub count : ℕ
  pub header : ℕ
  pub old : List ℕ
  pub ending : Stamp
  pub state : Now CopyPoint (Unit {0})

-- a new copy
abbrev pub copying : Place → ℕ → ℕ → List ℕ → Stamp → Copying
copying place count header old ending =
    record { place = place; count = count; header = header; old = old; ending = ending; state = At copy_begin }

-- the same as a running call
abbrev pub running : Copying → Running Field CopyPoint (Unit {0})
running a = record {
  address = position_address a.place;
  reach = place_end a.place;
  verb = copy_verb a.place a.count a.header a.old a.ending;
  after = λ at found. copy_after a.place at;
  left = copy_left a.place;
  state = a.state;
}
