-- A linear congruential generator of numbers.
use Rattle.std.specs.Prelude.{ℕ, ◌+◌, ◌*◌, ◌/◌, ◌%◌, ◌^◌}

-- the state after a state
abbrev pub next_state : ℕ → ℕ
next_state state = (state * 6364136223846793005 + 1442695040888963407) % 2 ^ 64

-- what a state picks below a number, of its upper 31 bits
abbrev pub pick : ℕ → ℕ → ℕ
pick state below = state / 2 ^ 33 % below
