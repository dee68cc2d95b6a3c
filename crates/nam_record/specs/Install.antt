-- The install of a version as a machine.
use Rattle.std.specs.Prelude.{ℕ, List, Option}
use Rattle.nam_verbs.specs.declared.now.Now.{Now}
use Rattle.nam_verbs.specs.declared.now.Now.TheVariants.{At}
use Rattle.nam_verbs.specs.Running.{Running}
use Rattle.nam_layout.specs.declared.field.Place.{Place}
use Rattle.nam_layout.specs.Place.{position_address, place_end}
use Rattle.nam_layout.specs.declared.field.Field.{Field}
use Rattle.nam_calls.specs.declared.record.InstallPoint.{InstallPoint}
use Rattle.nam_calls.specs.Record.{install_begin, install_verb, install_after, install_left}

-- a version that is installed after the one of that number, with its header, and where that stands
pub record Installing : Type 0 where
  pub place : Place
  pub value : Option (List ℕ)
  pub count : ℕ
  pub header : ℕ
  pub state : Now InstallPoint (Unit {0})

-- a new install
abbrev pub installing : Place → Option (List ℕ) → ℕ → ℕ → Installing
installing place value count header =
    record { place = place; value = value; count = count; header = header; state = At (install_begin value) }

-- the same as a running call
abbrev pub running : Installing → Running Field InstallPoint (Unit {0})
running a = record {
  address = position_address a.place;
  reach = place_end a.place;
  verb = install_verb a.place a.value a.count a.header;
  after = λ at found. install_after a.place at;
  left = install_left a.place;
  state = a.state;
}
