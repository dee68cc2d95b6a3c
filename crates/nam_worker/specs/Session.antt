-- A session in code, and what holds of it for the shape of its store.
use Rattle.std.specs.Prelude.{◌≡◌, ℕ, ◌+◌, ◌≤◌, ◌<◌, ◌^◌, true, false, List, ◌⊎◌, Option, Some, None, IsSome}
use Rattle.std.specs.List.{AllByRecursion}
use Rattle.si_model.specs.declared.op.Policy.{Policy}
use Rattle.si_model.specs.declared.log.Finish.{Finish}
use Rattle.nam_verbs.specs.Now.{end_now}
use Rattle.nam_verbs.specs.declared.now.Now.{Now}
use Rattle.nam_verbs.specs.declared.now.Now.TheVariants.{At, Over}
use Rattle.nam_catalog.specs.declared.shape.Shape.{Shape}
use Rattle.nam_catalog.specs.Greatest.{greatest_number}
use Rattle.nam_calls.specs.Fits.{IsOf}
use Rattle.nam_calls.specs.declared.medic.MedicPoint.{MedicPoint}
use Rattle.nam_calls.specs.Medic.{medic_begin}
use Rattle.nam_calls.specs.MedicLeft.{medic_left}
use Rattle.nam_protocol.specs.declared.client.Answer.{Answer}
use Rattle.nam_protocol.specs.declared.client.Call.{Call}
use Rattle.nam_protocol.specs.declared.client.ClientState.{ClientState}
use Rattle.nam_protocol.specs.declared.session.DriverState.{DriverState}
use Rattle.nam_protocol.specs.declared.session.Job.{Job}
use Rattle.nam_protocol.specs.declared.session.SessionState.{SessionState}
use Rattle.nam_verbs.specs.VerbAt.{VerbAt}
use Rattle.nam_layout.specs.declared.field.Field.{Field}
use Rattle.nam_protocol.specs.Client.{client_ask, client_after, client_verb}
use Rattle.nam_protocol.specs.Commit.{has_intents}
use Rattle.nam_protocol.specs.Driver.{new_driver, driver_next, driver_take}
use Rattle.nam_protocol.specs.EventsLaw.{IsReached}
use Rattle.nam_protocol.specs.Left.{client_left, room_for}
use Rattle.nam_protocol.specs.RoomLaw.{IsWithin, room_left}
use Rattle.nam_protocol.specs.Session.{answer_now, jobs_over, settled, taken}
use Rattle.nam_protocol.specs.SessionFits.{JobFits}
use Rattle.nam_protocol.specs.Telling.{new_client}
use Rattle.nam_medic.specs.Medic.{Finishing, Serves}
use Rattle.nam_client.specs.declared.registers.Registers.{Registers}
use Rattle.nam_client.specs.Client.{ops_so_far, spare_of}
use Rattle.nam_client.specs.Fits.{IsClientOf}
use Rattle.nam_client.specs.Registers.{client_of}
use Rattle.nam_worker.specs.Answering.{AnswersNext, AreJobs}
use Rattle.nam_worker.specs.Needs.{IsSmall}

-- 1. The session that its parts are

-- a client, its driver and its jobs; the medic of a session that was stopped, and the one that is ready for a stop
pub record SessionParts : Type 0 where
  pub client : Registers
  pub driver : DriverState
  pub jobs : List Job
  pub ready : Option Finishing
  pub medic : Option Finishing

abbrev pub asking : Registers → DriverState → List Job → SessionState
asking client driver jobs = record { client = client_of client; driver = driver; jobs = jobs }

abbrev pub medic_in : Option Finishing → Option (Now MedicPoint Finish) → Option (Now MedicPoint Finish)
medic_in None now = now
medic_in (Some medic) now = Some medic.state

-- how it has finished the session, if it has
abbrev pub finish_in : Option Finishing → Option Finish
finish_in None = None
finish_in (Some medic) = end_now medic.state

abbrev pub session_of : SessionParts → SessionState
session_of a = record {
  client = record (client_of a.client) { medic = medic_in a.medic (client_of a.client).medic };
  driver = a.driver;
  jobs = a.jobs;
}

-- it was not stopped, and has no medic
abbrev pub IsUncut : ClientState → Type 0
IsUncut client = (client.cut ≡ false) × (client.medic ≡ None)

-- the driver has taken the client's answer
pub record HasTaken (client : Registers) (jobs : List Job) (driver after : DriverState) : Type 0 where
  pub end : Answer
  pub answered : answer_now (client_of client).call ≡ Some end
  pub taken : after ≡ driver_take jobs driver end

module _ (shape : Shape) where
  -- 2. Between two calls

  module _ (worker start : ℕ) (jobs : List Job) (policy : Policy) where
    -- the session that was asked nothing yet
    abbrev pub unasked : SessionState
    unasked = record { client = new_client worker start; driver = new_driver policy; jobs = jobs }

    -- no call runs, and the driver has taken the last answer, which came with a word or at once
    pub data IsBetween : SessionState → Type 0 where
      at_first : IsBetween unasked
      after_word : (session : SessionState) (verb : VerbAt Field) (found : ℕ) (end : Answer)
          → IsReached shape worker start jobs policy session → client_verb shape session.client ≡ Some verb
          → session.client.medic ≡ None → answer_now (client_after shape session.client found).call ≡ Some end
          → IsBetween (taken session (client_after shape session.client found) end)
      at_once : (session : SessionState) (call : Call) (end : Answer) → IsBetween session
          → driver_next session.jobs session.driver ≡ Some call
          → answer_now (client_ask shape session.client call).call ≡ Some end
          → IsBetween (taken session (client_ask shape session.client call) end)

  -- these are the worker and the jobs of a session
  pub record CanServeJobs (worker start : ℕ) (jobs : List Job) (policy : Policy) : Type 0 where
    pub worker_is : IsOf shape.workers worker
    pub start_is : start ≤ greatest_number shape.form
    pub jobs_fit : AllByRecursion (JobFits shape) jobs
    pub tries : 1 ≤ policy.tries

  -- the next call may be asked, as the client has room for it and for all that may follow
  pub record CanAskNext (client : Registers) (driver : DriverState) (jobs : List Job) : Type 0 where
    pub of : IsClientOf shape client
    pub worker : ℕ
    pub start : ℕ
    pub policy : Policy
    pub serves : CanServeJobs worker start jobs policy
    pub between : IsBetween worker start jobs policy (asking client driver jobs)
    pub room : IsWithin (room_left shape jobs driver) (spare_of client)
    pub counted : ops_so_far (client_of client).txn + (room_left shape jobs driver).ops < 2 ^ 32
    pub jobs_are : AreJobs jobs

  -- 3. While a call runs, or all jobs are through

  -- whatever its answer, there is room for all calls that may follow
  pub record HasRoomAfter (client : Registers) (driver : DriverState) (jobs : List Job) : Type 0 where
    pub room : (end : Answer) → IsSome (driver_next jobs driver)
        → IsWithin (room_left shape jobs (driver_take jobs driver end)) (spare_of client)
    pub counted : (end : Answer) → IsSome (driver_next jobs driver)
        → ops_so_far (client_of client).txn + (room_left shape jobs (driver_take jobs driver end)).ops < 2 ^ 32

  -- the driver may take the client's answer, if there is one, and then the next call may be asked
  pub record MayTakeAnswer (client : Registers) (driver : DriverState) (jobs : List Job) : Type 0 where
    pub of : IsClientOf shape client
    pub room : HasRoomAfter client driver jobs
    pub uncut : IsUncut (client_of client)
    pub jobs_are : AreJobs jobs
    pub answers : (end : Answer) → answer_now (client_of client).call ≡ Some end
        → AnswersNext (driver_next jobs driver) end
    pub next : (end : Answer) → answer_now (client_of client).call ≡ Some end → (after : DriverState)
        → after ≡ driver_take jobs driver end → CanAskNext client after jobs

  -- the session after that
  abbrev pub answered : SessionState → SessionState
  answered session = elim (answer_now session.client.call) [
    | None ↦ session
    | Some answer ↦ settled shape (taken session session.client answer)
  ]

  -- 4. The medic, of the form that has intents

  abbrev pub IsMedicOf : ℕ → Option Finishing → Type 0
  IsMedicOf worker None = Unit {0}
  IsMedicOf worker (Some medic) = Serves shape medic × (medic.worker ≡ worker)

  abbrev pub IsReadyFor : ℕ → Option Finishing → Type 0
  IsReadyFor worker None = has_intents shape.form ≡ false
  IsReadyFor worker (Some medic) =
      (has_intents shape.form ≡ true) × Serves shape medic × (medic.worker ≡ worker) × (medic.state ≡ At medic_begin)

  -- 5. A session

  -- it is one that occurs with its jobs
  pub record Occurs (session : SessionState) : Type 0 where
    pub worker : ℕ
    pub start : ℕ
    pub policy : Policy
    pub serves : CanServeJobs worker start session.jobs policy
    pub reached : IsReached shape worker start session.jobs policy session

  -- it serves a store of this shape
  pub record IsSessionOf (a : SessionParts) : Type 0 where
    pub of : IsClientOf shape a.client
    pub occurs : Occurs (session_of a)
    pub room : HasRoomAfter a.client a.driver a.jobs
    pub jobs : AreJobs a.jobs
    pub medic : IsMedicOf (client_of a.client).worker a.medic
    pub ready : (client_of a.client).cut ≡ false → IsReadyFor (client_of a.client).worker a.ready
    pub unfinished : (client_of a.client).medic ≡ None
    pub stopped : (client_of a.client).cut ≡ true → jobs_over (session_of a) ≡ false

  -- it was asked nothing yet, and its jobs are such as a store of this shape may serve
  pub record IsNewSession (a : SessionParts) : Type 0 where
    pub of : IsClientOf shape a.client
    pub client : client_of a.client ≡ new_client (client_of a.client).worker (client_of a.client).start
    pub driver : a.driver ≡ new_driver a.driver.policy
    pub medic : a.medic ≡ None
    pub ready : a.ready ≡ None
    pub serves : CanServeJobs (client_of a.client).worker (client_of a.client).start a.jobs a.driver.policy
    pub jobs : AreJobs a.jobs
    pub small : IsSmall (room_for shape a.driver.policy a.jobs)

-- 6. Whatever the shape is: it was not prepared, or serves a store

abbrev pub IsPlain : SessionParts → Type 0
IsPlain a = (a.medic ≡ None) × (a.ready ≡ None)

abbrev pub Holds : SessionParts → Type 0
Holds a = IsPlain a ⊎ ((shape : Shape) × IsSessionOf shape a)

-- 7. How many verbs are to come before the answer of the call that runs, or of the medic

abbrev pub left_under : Shape → SessionState → Option (Now MedicPoint Finish) → ℕ
left_under shape session None = client_left shape session.client
left_under shape session (Some (At place)) = medic_left shape place
left_under shape session (Some (Over how)) = 0

abbrev pub verbs_to_come : Shape → SessionState → ℕ
verbs_to_come shape session = left_under shape session session.client.medic
