-- The sessions that occur, and that each lists no more events than the room for its jobs has.
use Rattle.std.specs.Prelude.{◌≡◌, ℕ, ◌+◌, ◌≤◌, List, length, Some}
use Rattle.std.specs.List.{AllByRecursion}
use Rattle.si_model.specs.declared.op.Policy.{Policy}
use Rattle.nam_verbs.specs.VerbAt.{VerbAt}
use Rattle.nam_catalog.specs.declared.shape.Shape.{Shape}
use Rattle.nam_catalog.specs.Fits.{FitsLimits}
use Rattle.nam_catalog.specs.Greatest.{greatest_number}
use Rattle.nam_layout.specs.declared.field.Field.{Field}
use Rattle.nam_calls.specs.Fits.{IsOf}
use Rattle.nam_protocol.specs.declared.session.Job.{Job}
use Rattle.nam_protocol.specs.declared.session.SessionState.{SessionState}
use Rattle.nam_protocol.specs.Telling.{new_client}
use Rattle.nam_protocol.specs.Session.{new_session, session_verb, session_after, session_log, session_cut}
use Rattle.nam_protocol.specs.Left.{Room, room_for}
use Rattle.nam_protocol.specs.SessionFits.{JobFits}

module _ (shape : Shape) (worker start : ℕ) (jobs : List Job) (policy : Policy) where
  -- a worker's session as it occurs with these jobs: it is new, has taken a word, or was stopped
  pub data IsReached : SessionState → Type 0 where
    is_new : IsReached (new_session shape (new_client worker start) jobs policy)
    by_word : (session : SessionState) (verb : VerbAt Field) (found : ℕ) → IsReached session
        → session_verb shape session ≡ Some verb → IsReached (session_after shape session found)
    by_cut : (session : SessionState) → IsReached session → IsReached (session_cut shape.form session)

-- an event for each attempt and each tidying, and one for a commit that was stopped after it has published, or for how
-- the medic has finished the session
abbrev pub EventsWithin : Shape → Room → SessionState → Type 0
EventsWithin shape room session = length (session_log shape session).events ≤ room.attempts + room.tidies + 1

abbrev pub EventsLaw : Type 0
EventsLaw =
    (shape : Shape) → FitsLimits shape → (worker start : ℕ) (jobs : List Job) (policy : Policy)
    → IsOf shape.workers worker → start ≤ greatest_number shape.form → AllByRecursion (JobFits shape) jobs
    → 1 ≤ policy.tries → (session : SessionState)
    → IsReached shape worker start jobs policy session
    → EventsWithin shape (room_for shape policy jobs) session
