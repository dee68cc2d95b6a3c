-- the positions on a path
use Rattle.std.specs.Prelude.{◌≡◌, ℕ, ◌<◌, ◌≤◌}
use Rattle.nam_calls.specs.Words.{on_path}

-- each position of a table stands on the path of each key, and once
pub record GoesThrough (capacity key : ℕ) : Type 0 where
  pub within : (passed : ℕ) → passed < capacity → on_path capacity key passed < capacity
  pub each : (position : ℕ) → position < capacity
      → (passed : ℕ) × (passed < capacity) × (on_path capacity key passed ≡ position)
  pub once : (a b : ℕ) → a < capacity → b < capacity → on_path capacity key a ≡ on_path capacity key b → a ≡ b

abbrev pub PathLaw : Type 0
PathLaw = (capacity key : ℕ) → 1 ≤ capacity → GoesThrough capacity key
