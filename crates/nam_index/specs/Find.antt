-- the search for a key, as a machine
use Rattle.std.specs.Prelude.{ℕ}
use Rattle.nam_verbs.specs.declared.now.Now.{Now}
use Rattle.nam_verbs.specs.declared.now.Now.TheVariants.{At}
use Rattle.nam_verbs.specs.Running.{Running}
use Rattle.nam_catalog.specs.declared.shape.Shape.{Shape}
use Rattle.nam_layout.specs.declared.field.Field.{Field}
use Rattle.nam_calls.specs.declared.index.FindEnd.{FindEnd}
use Rattle.nam_calls.specs.declared.index.Path.{Path}
use Rattle.nam_calls.specs.Words.{path_of}
use Rattle.nam_calls.specs.Index.{find_begin, find_verb, find_after, find_left}
use Rattle.nam_index.specs.Path.{path_address, path_end}

-- the path of the key, and where the search stands
pub record Finding : Type 0 where
  pub path : Path
  pub state : Now ℕ FindEnd

-- a new search for a key of a table
abbrev pub finding : Shape → ℕ → ℕ → Finding
finding shape table key = record { path = path_of shape table key; state = At find_begin }

-- the same as a running call
abbrev pub running : Finding → Running Field ℕ FindEnd
running a = record {
  address = path_address a.path;
  reach = path_end a.path;
  verb = find_verb a.path;
  after = find_after a.path;
  left = find_left a.path;
  state = a.state;
}
