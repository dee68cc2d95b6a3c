-- What is left of each world of a scenario fits its shape, so also of each simulated run.
use Rattle.std.specs.Prelude.{ℕ, ◌≡◌, ◌<◌, ◌^◌, List, [], length}
use Rattle.std.specs.List.{AllByRecursion}
use Rattle.si_model.specs.declared.report.Closed.{Closed}
use Rattle.si_model.specs.Tells.{CountsFit}
use Rattle.nam_line.specs.Plan.{Line}
use Rattle.nam_catalog.specs.declared.shape.Shape.{Shape}
use Rattle.nam_catalog.specs.Tables.{widths_of}
use Rattle.nam_protocol.specs.Closed.{closed}
use Rattle.nam_protocol.specs.EndsLaw.{ScenarioFits}
use Rattle.nam_protocol.specs.Schedule.{Scenario, opened, simulated}
use Rattle.nam_protocol.specs.World.{Turn, after_turns}
use Rattle.nam_report.specs.Fits.{AuditRowFits}
use Rattle.nam_simulated.specs.LogLaw.{LogIsOf}

-- a log for each worker, which are fewer than 2^31, and an audit, all of the shape; the logs own what they list
pub record ClosedIsOf (shape : Shape) (left : Closed) : Type 0 where
  pub many : length left.logs ≡ shape.workers
  pub few : length left.logs < 2 ^ 31
  pub logs : AllByRecursion (LogIsOf shape) left.logs
  pub counts : AllByRecursion CountsFit left.logs
  pub audit : AllByRecursion (AuditRowFits (widths_of shape.tables)) left.audit

-- whatever turns the workers have had
abbrev pub WorldLaw : Type 0
WorldLaw = (c : Scenario) → ScenarioFits c → (turns : List Turn)
    → ClosedIsOf c.shape (closed c.shape (after_turns c.shape (opened c []).world turns))

-- after the schedule and any number of rounds, whatever the lines do
abbrev pub RunLaw : Type 0
RunLaw = (c : Scenario) → ScenarioFits c → (lines : List Line) (rounds : ℕ)
    → ClosedIsOf c.shape (closed c.shape (simulated c lines rounds).world)
