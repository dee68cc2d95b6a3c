-- A line that counts its faults.
use Rattle.std.specs.Prelude.{ℕ, ◌+◌, ◌-◌, ◌^◌, min, if◌then◌else◌}
use Rattle.nam_io.specs.Faults.{one_more}
use Rattle.nam_line.specs.Plan.{Plan, Line, new_line, asked_once, refuses_next}

-- a line, and how many verbs it refused, up to 2^64 - 1
pub record CountedLine : Type 0 where
  pub line : Line
  pub faults : ℕ

-- a line of this plan that was not asked yet
abbrev pub new_counted : Plan → CountedLine
new_counted plan = record { line = new_line plan; faults = 0 }

-- the line after it was asked to pass a verb
abbrev pub after_pass : CountedLine → CountedLine
after_pass counted = record {
  line = asked_once counted.line;
  faults = if refuses_next counted.line then one_more counted.faults else counted.faults;
}

-- how many verbs a line was asked to pass that passed and refused so many
abbrev pub asked_in_all : ℕ → ℕ → ℕ
asked_in_all passed refused = min (passed + refused) (2 ^ 64 - 1)
