-- A line that is spelt right. Its numbers are none where they are above 2^64 - 1.
use Rattle.std.specs.Prelude.{ℕ, List, Option, Bool}
use Rattle.nam_catalog.specs.declared.form.Form.{Form}
use Rattle.nam_script.specs.declared.line.Change.{Change}
use Rattle.nam_script.specs.declared.line.SpeltStint.{SpeltStint}

pub data Line : Type 0 where
  Version : Line
  Header : Form → Line
  Workers : Option ℕ → Line
  Tries : Option ℕ → Line
  Tidy : Bool → Line
  Start : Option ℕ → Line
  -- buckets and cells
  Overflow : Option ℕ → Option ℕ → Line
  -- a name, width, capacity and ring
  Table : List ℕ → Option ℕ → Option ℕ → Option ℕ → Line
  -- of a table, a key and its values
  Row : List ℕ → Option ℕ → List (Option ℕ) → Line
  -- of a worker
  Txn : Option ℕ → Line
  Get : List ℕ → Option ℕ → Line
  Put : List ℕ → Option ℕ → List (Option ℕ) → Line
  -- of a table, a key and a field
  Add : List ℕ → Option ℕ → Option ℕ → Change → Line
  Del : List ℕ → Option ℕ → Line
  -- of a table, a key and a field, and the least that it has
  Need : List ℕ → Option ℕ → Option ℕ → Option ℕ → Line
  Guard : List ℕ → Option ℕ → Line
  -- of a table, its lowest and highest key
  Scan : List ℕ → Option ℕ → Option ℕ → Line
  End : Line
  Turns : List SpeltStint → Line
  -- a seed, and how many picks
  Seed : Option ℕ → Option ℕ → Line
