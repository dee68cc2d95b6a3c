-- How the count of verbs that a line passed goes on.
use Rattle.std.specs.Prelude.{◌≡◌, ◌+◌, ◌-◌, ◌^◌, ◌<◌, true, false}
use Rattle.nam_line.specs.Plan.{Plan, Line, new_line, asked_once, refuses_next, passed_by}
use Rattle.nam_line.specs.CountedLine.{CountedLine, after_pass}

-- the count of verbs asked for is below its last number
abbrev pub CanCount : Line → Type 0
CanCount line = line.asked < 2 ^ 64 - 1

pub record PassedLaw : Type 0 where
  -- a new line has passed none
  pub begins : (plan : Plan) → passed_by (new_line plan) ≡ 0
  -- a verb that is not refused is one more
  pub passes : (line : Line) → CanCount line → refuses_next line ≡ false
      → passed_by (asked_once line) ≡ passed_by line + 1
  -- a verb that is refused is none
  pub refuses : (line : Line) → CanCount line → refuses_next line ≡ true
      → passed_by (asked_once line) ≡ passed_by line
  -- at the last number that is counted it stands still
  pub stays : (line : Line) → line.asked ≡ 2 ^ 64 - 1 → passed_by (asked_once line) ≡ passed_by line
  -- each verb that was asked for has passed or is a fault
  pub sum : (counted : CountedLine) → CanCount counted.line
      → passed_by counted.line + counted.faults ≡ counted.line.asked
      → passed_by (after_pass counted).line + (after_pass counted).faults ≡ (after_pass counted).line.asked
