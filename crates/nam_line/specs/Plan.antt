-- Which verbs a line refuses, by a plan that never changes.
use Rattle.std.specs.Prelude.{ℕ, zero, suc, ◌+◌, ◌==◌, ◌||◌, nat_le, Bool, false, if◌then◌else◌}
use Rattle.std.specs.Prelude.{List, [], Option, Some, None}
use Rattle.std.specs.List.{list_any}
use Rattle.nam_io.specs.Faults.{one_more}

-- 1. Plans

-- which of a line's verbs are refused, counted from 1: those listed, and all from a number on
pub record Plan : Type 0 where
  pub listed : List ℕ
  pub from : Option ℕ

-- none is refused
abbrev pub empty_plan : Plan
empty_plan = record { listed = []; from = None }

-- all from this number on are refused
abbrev pub plan_from : ℕ → Plan
plan_from first = record { listed = []; from = Some first }

-- these are refused
abbrev pub plan_of : List ℕ → Plan
plan_of numbers = record { listed = numbers; from = None }

abbrev pub is_from : Option ℕ → ℕ → Bool
is_from None number = false
is_from (Some first) number = nat_le first number

-- does the plan refuse the verb with this number
abbrev pub refuses : Plan → ℕ → Bool
refuses plan number = list_any (λ n. n == number) plan.listed || is_from plan.from number

-- 2. Lines

-- a line, and how many verbs it was asked to pass, up to 2^64 - 1
pub record Line : Type 0 where
  pub plan : Plan
  pub asked : ℕ

-- a line that was not asked yet
abbrev pub new_line : Plan → Line
new_line plan = record { plan = plan; asked = 0 }

-- the number of the verb after so many
abbrev pub next_asked : ℕ → ℕ
next_asked asked = one_more asked

-- the line was asked once more
abbrev pub asked_once : Line → Line
asked_once line = record line { asked = next_asked line.asked }

abbrev pub refuses_next : Line → Bool
refuses_next line = refuses line.plan (next_asked line.asked)

-- 3. How many passed

-- how many of the verbs from 1 to this number are not refused
unfoldable pub passed_up_to : Plan → ℕ → ℕ
passed_up_to plan zero = 0
passed_up_to plan (suc n) = if refuses plan (suc n) then passed_up_to plan n else passed_up_to plan n + 1

abbrev pub passed_by : Line → ℕ
passed_by line = passed_up_to line.plan line.asked
