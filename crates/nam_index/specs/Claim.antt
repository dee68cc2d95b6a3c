-- the search for a key that claims a position for it, as a machine
use Rattle.std.specs.Prelude.{ℕ}
use Rattle.nam_verbs.specs.declared.now.Now.{Now}
use Rattle.nam_verbs.specs.declared.now.Now.TheVariants.{At}
use Rattle.nam_verbs.specs.Running.{Running}
use Rattle.nam_catalog.specs.declared.shape.Shape.{Shape}
use Rattle.nam_layout.specs.declared.field.Field.{Field}
use Rattle.nam_calls.specs.declared.index.ClaimKeyPoint.{ClaimKeyPoint}
use Rattle.nam_calls.specs.declared.index.ClaimKeyEnd.{ClaimKeyEnd}
use Rattle.nam_calls.specs.declared.index.Path.{Path}
use Rattle.nam_calls.specs.Words.{path_of}
use Rattle.nam_calls.specs.Index.{claim_key_begin, claim_key_verb, claim_key_after, claim_key_left}
use Rattle.nam_index.specs.Path.{path_address, path_end}

-- the path of the key, and where the claim stands
pub record Claiming : Type 0 where
  pub path : Path
  pub state : Now ClaimKeyPoint ClaimKeyEnd

-- a new claim for a key of a table
abbrev pub claiming : Shape → ℕ → ℕ → Claiming
claiming shape table key = record { path = path_of shape table key; state = At claim_key_begin }

-- the same as a running call
abbrev pub running : Claiming → Running Field ClaimKeyPoint ClaimKeyEnd
running a = record {
  address = path_address a.path;
  reach = path_end a.path;
  verb = claim_key_verb a.path;
  after = claim_key_after a.path;
  left = claim_key_left a.path;
  state = a.state;
}
