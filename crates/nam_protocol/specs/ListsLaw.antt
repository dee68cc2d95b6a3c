-- Each list of a session's log is within the room for its jobs.
use Rattle.std.specs.Prelude.{ℕ, ◌+◌, ◌*◌, ◌≤◌, List, length}
use Rattle.std.specs.List.{AllByRecursion}
use Rattle.si_model.specs.declared.log.Log.{Log}
use Rattle.si_model.specs.declared.op.Policy.{Policy}
use Rattle.si_model.specs.Evaluation.{written_keys, guard_keys}
use Rattle.nam_catalog.specs.declared.shape.Shape.{Shape}
use Rattle.nam_catalog.specs.Fits.{FitsLimits}
use Rattle.nam_catalog.specs.Greatest.{greatest_number}
use Rattle.nam_calls.specs.Fits.{IsOf}
use Rattle.nam_protocol.specs.declared.session.Job.{Job}
use Rattle.nam_protocol.specs.declared.session.SessionState.{SessionState}
use Rattle.nam_protocol.specs.EventsLaw.{IsReached}
use Rattle.nam_protocol.specs.Left.{Room, room_for}
use Rattle.nam_protocol.specs.Session.{session_log}
use Rattle.nam_protocol.specs.SessionFits.{JobFits}

-- each job writes or guards no more keys than these
abbrev pub KeysWithin : ℕ → List Job → Type 0
KeysWithin keys jobs = AllByRecursion (λ job. length (written_keys job.ops) + length (guard_keys job.ops) ≤ keys) jobs

-- a read for each operation, so many locks and writes for each attempt, and a snapshot for each attempt and tidying
pub record ListsWithin (room : Room) (keys : ℕ) (log : Log) : Type 0 where
  pub reads : length log.reads ≤ room.ops
  pub locks : length log.locks ≤ room.attempts * keys
  pub writes : length log.writes ≤ room.attempts * keys
  pub snaps : length log.snaps ≤ room.attempts + room.tidies

abbrev pub ListsLaw : Type 0
ListsLaw =
    (shape : Shape) → FitsLimits shape → (worker start : ℕ) (jobs : List Job) (policy : Policy)
    → IsOf shape.workers worker → start ≤ greatest_number shape.form → AllByRecursion (JobFits shape) jobs
    → 1 ≤ policy.tries → (keys : ℕ)
    → KeysWithin keys jobs → (session : SessionState) → IsReached shape worker start jobs policy session
    → ListsWithin (room_for shape policy jobs) keys (session_log shape session)
