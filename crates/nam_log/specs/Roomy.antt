-- A list that has room.
use Rattle.std.specs.Prelude.{ℕ, List}

-- its elements, and how many more it takes without memory
pub record Roomy (T : Type 0) : Type 0 where
  pub items : List T
  pub room : ℕ
