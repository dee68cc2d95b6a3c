-- Each session's log fits its shape, at each moment and however the session is closed.
use Rattle.std.specs.Prelude.{ℕ, ◌≤◌, List}
use Rattle.std.specs.List.{AllByRecursion}
use Rattle.si_model.specs.declared.log.Log.{Log}
use Rattle.si_model.specs.declared.op.Policy.{Policy}
use Rattle.si_model.specs.Tells.{CountsFit}
use Rattle.nam_catalog.specs.declared.shape.Shape.{Shape}
use Rattle.nam_catalog.specs.Fits.{FitsLimits}
use Rattle.nam_catalog.specs.Greatest.{greatest_number}
use Rattle.nam_catalog.specs.Tables.{widths_of}
use Rattle.nam_calls.specs.Fits.{IsOf}
use Rattle.nam_protocol.specs.declared.session.Job.{Job}
use Rattle.nam_protocol.specs.declared.session.SessionState.{SessionState}
use Rattle.nam_protocol.specs.EventsLaw.{IsReached}
use Rattle.nam_protocol.specs.Session.{session_log}
use Rattle.nam_protocol.specs.SessionFits.{JobFits}
use Rattle.nam_report.specs.Fits.{ItemFits, LogFits}

-- the log's events, reads and locks are of the shape's tables, workers and widths, and so are its writes; and its
-- events own all reads, locks, writes and snapshots that it lists, and no more
pub record LogIsOf (shape : Shape) (log : Log) : Type 0 where
  pub fits : LogFits shape.workers (widths_of shape.tables) log
  pub writes : AllByRecursion (ItemFits (widths_of shape.tables)) log.writes
  pub counts : CountsFit log

abbrev pub SessionLogLaw : Type 0
SessionLogLaw =
    (shape : Shape) → FitsLimits shape → (worker start : ℕ) (jobs : List Job) (policy : Policy)
    → IsOf shape.workers worker → start ≤ greatest_number shape.form → AllByRecursion (JobFits shape) jobs
    → 1 ≤ policy.tries → (session : SessionState) → IsReached shape worker start jobs policy session
    → LogIsOf shape (session_log shape session)
