-- A session: a client that is asked its driver's calls, one after another, and that its medic finishes once it is cut.
use Rattle.std.specs.Prelude.{ℕ, zero, suc, ◌+◌, Bool, if◌then◌else◌, List, [], ◌∷◌, length, Option, Some, None}
use Rattle.std.specs.Prelude.{is_some, not, ◌||◌}
use Rattle.si_model.specs.declared.op.Policy.{Policy}
use Rattle.si_model.specs.declared.log.Log.{Log}
use Rattle.si_model.specs.declared.log.Finish.{Finish}
use Rattle.nam_verbs.specs.declared.now.Now.{Now}
use Rattle.nam_verbs.specs.declared.now.Now.TheVariants.{At, Over}
use Rattle.nam_verbs.specs.VerbAt.{VerbAt}
use Rattle.nam_catalog.specs.declared.form.Form.{Form}
use Rattle.nam_catalog.specs.declared.shape.Shape.{Shape}
use Rattle.nam_layout.specs.declared.field.Field.{Field}
use Rattle.nam_calls.specs.declared.medic.MedicPoint.{MedicPoint}
use Rattle.nam_calls.specs.Medic.{medic_begin, medic_verb, medic_after}
use Rattle.nam_protocol.specs.declared.client.Answer.{Answer}
use Rattle.nam_protocol.specs.declared.client.CallPoint.{CallPoint}
use Rattle.nam_protocol.specs.declared.client.ClientState.{ClientState}
use Rattle.nam_protocol.specs.declared.session.Job.{Job}
use Rattle.nam_protocol.specs.declared.session.SessionState.{SessionState}
use Rattle.nam_protocol.specs.Client.{client_ask, client_verb, client_after}
use Rattle.nam_protocol.specs.Commit.{has_intents}
use Rattle.nam_protocol.specs.CutClient.{client_cut, client_treated, finish_of, into_log}
use Rattle.nam_protocol.specs.Driver.{new_driver, driver_next, driver_take}

-- the answer of a call that was asked and doesn't run
abbrev pub answer_now : Option (Now CallPoint Answer) → Option Answer
answer_now (Some (Over answer)) = Some answer
answer_now _ = None

-- no more calls than these follow each other without a verb: the operations, the commit, and a begin, which takes one
abbrev pub calls_at_most : List Job → ℕ
calls_at_most [] = 2
calls_at_most (job ∷ jobs) = length job.ops + calls_at_most jobs

abbrev pub taken : SessionState → ClientState → Answer → SessionState
taken session client answer =
    record { client = client; driver = driver_take session.jobs session.driver answer; jobs = session.jobs }

-- the medic stands here, or has finished the session
abbrev pub treated : SessionState → Now MedicPoint Finish → SessionState
treated session medic = record session { client = client_treated session.client medic }

module _ (shape : Shape) where
  -- the driver's calls are asked until one takes a verb, or all jobs are through
  unfoldable pub settle : ℕ → SessionState → SessionState
  settle zero session = session
  settle (suc calls) session = elim (driver_next session.jobs session.driver) [
    | None ↦ session
    | Some call ↦ elim (answer_now (client_ask shape session.client call).call) [
      | None ↦ record session { client = client_ask shape session.client call }
      | Some answer ↦ settle calls (taken session (client_ask shape session.client call) answer)
    ]
  ]

  abbrev pub settled : SessionState → SessionState
  settled session = settle (calls_at_most session.jobs) session

  abbrev pub new_session : ClientState → List Job → Policy → SessionState
  new_session client jobs policy = settled record { client = client; driver = new_driver policy; jobs = jobs }

  -- the verbs of a session whose medic has begun are the medic's
  abbrev pub verb_by : SessionState → Option (Now MedicPoint Finish) → Option (VerbAt Field)
  verb_by session None = client_verb shape session.client
  verb_by session (Some (At place)) = Some (medic_verb shape session.client.worker place)
  verb_by session (Some (Over how)) = None

  abbrev pub session_verb : SessionState → Option (VerbAt Field)
  session_verb session = verb_by session session.client.medic

  -- the client takes a word
  abbrev pub call_taken : SessionState → ℕ → SessionState
  call_taken session found = elim (answer_now (client_after shape session.client found).call) [
    | None ↦ record session { client = client_after shape session.client found }
    | Some answer ↦ settled (taken session (client_after shape session.client found) answer)
  ]

  abbrev pub after_by : SessionState → ℕ → Option (Now MedicPoint Finish) → SessionState
  after_by session found None = call_taken session found
  after_by session found (Some (At place)) =
      treated session (medic_after shape session.client.worker place found)
  after_by session found (Some (Over how)) = session

  abbrev pub session_after : SessionState → ℕ → SessionState
  session_after session found = after_by session found session.client.medic

  abbrev pub session_log : SessionState → Log
  session_log session = into_log shape session.client

-- all jobs are through
abbrev pub jobs_over : SessionState → Bool
jobs_over session = not (is_some (driver_next session.jobs session.driver))

-- a session that isn't cut has ended with its jobs, and one that is cut with its medic's answer
abbrev pub has_ended : SessionState → Bool
has_ended session = if session.client.cut then is_some (finish_of session.client.medic) else jobs_over session

abbrev pub stopped : SessionState → SessionState
stopped session = record session { client = client_cut session.client }

-- in the form that has intents a medic finishes each session that is cut
abbrev pub cut_in : Form → SessionState → SessionState
cut_in form session = if has_intents form then treated (stopped session) (At medic_begin) else stopped session

-- a session that has ended is not cut, nor one that was cut before
abbrev pub session_cut : Form → SessionState → SessionState
session_cut form session = if jobs_over session || session.client.cut then session else cut_in form session
