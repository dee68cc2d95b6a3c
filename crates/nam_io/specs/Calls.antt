-- The calls of an object in memory.
use Rattle.std.specs.Prelude.{ℕ, List, Contains}
use Rattle.nam_io.specs.Faults.{one_more}

-- the numbers, from 1, of the calls that fail, how many calls were made, and how many faults there were
pub record Calls : Type 0 where
  pub failing : List ℕ
  pub made : ℕ
  pub faults : ℕ

-- the number of the next call is among those that fail
abbrev pub FailsNext : Calls → Type 0
FailsNext calls = Contains calls.failing (one_more calls.made)

-- one more call, without a fault
abbrev pub after_call : Calls → Calls
after_call calls = record calls { made = one_more calls.made }

-- one more call, with a fault
abbrev pub after_fault : Calls → Calls
after_fault calls = record calls { made = one_more calls.made; faults = one_more calls.faults }
