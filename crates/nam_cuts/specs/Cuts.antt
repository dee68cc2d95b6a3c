-- Which verbs a line passed since it was last looked at, and which events of a log tell of a cut.
use Rattle.std.specs.Prelude.{◌≡◌, ℕ, ◌-◌, ◌<◌, ◌≤◌, Bool, true, false}
use Rattle.std.specs.List.{AllByRecursion, list_any}
use Rattle.si_model.specs.declared.log.Event.{Event}
use Rattle.si_model.specs.declared.log.Event.TheVariants.{TailCut, Finished}
use Rattle.si_model.specs.declared.log.Log.{Log}
use Rattle.si_model.specs.Causes.{is_stopped}
use Rattle.nam_line.specs.Plan.{Line, refuses, passed_by}

-- 1. Events

-- does the event tell that its worker was stopped: in an attempt, a move, a collect or a tidying, or after it has
-- published; or how the stopped worker was finished
abbrev pub tells_cut : Event → Bool
tells_cut TailCut = true
tells_cut (Finished how) = true
tells_cut event = is_stopped event

abbrev pub TellsNoCut : Log → Type 0
TellsNoCut log = AllByRecursion (λ event. tells_cut event ≡ false) log.events

abbrev pub TellsCut : Log → Type 0
TellsCut log = list_any tells_cut log.events ≡ true

-- 2. A line at the start, and now

-- none of the verbs that it was asked for since was refused
abbrev pub PassedAll : Line → Line → Type 0
PassedAll start now =
    (number : ℕ) → start.asked < number → number ≤ now.asked → refuses now.plan number ≡ false

-- the last of them was refused, and no other
pub record RefusedLast (start now : Line) : Type 0 where
  pub some : start.asked < now.asked
  pub last : refuses now.plan now.asked ≡ true
  pub before : (number : ℕ) → start.asked < number → number < now.asked → refuses now.plan number ≡ false

-- how many of them passed
abbrev pub passed_since : Line → Line → ℕ
passed_since start now = passed_by now - passed_by start
