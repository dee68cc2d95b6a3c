-- Which calls are asked in an attempt.
use Rattle.std.specs.Prelude.{◌≡◌, ℕ, ◌+◌, ◌≤◌, if◌then◌else◌, List, [], ◌∷◌, ◌++◌, map, take, length, slice_get}
use Rattle.std.specs.Prelude.{Option, Some, None}
use Rattle.std.specs.List.{AllByRecursion}
use Rattle.si_model.specs.declared.op.Op.{Op}
use Rattle.si_model.specs.declared.op.Policy.{Policy}
use Rattle.si_model.specs.Lists.{IsFront}
use Rattle.nam_verbs.specs.declared.now.Now.TheVariants.{At}
use Rattle.nam_catalog.specs.declared.shape.Shape.{Shape}
use Rattle.nam_catalog.specs.Fits.{FitsLimits}
use Rattle.nam_catalog.specs.Greatest.{greatest_number}
use Rattle.nam_calls.specs.Fits.{IsOf}
use Rattle.nam_protocol.specs.declared.client.Answer.{Answer}
use Rattle.nam_protocol.specs.declared.client.Call.{Call}
use Rattle.nam_protocol.specs.declared.client.CallPoint.{CallPoint}
use Rattle.nam_protocol.specs.declared.client.CallPoint.TheVariants.{Beginning, InTxn, Scanning, Seeking, Moving}
use Rattle.nam_protocol.specs.declared.client.CallPoint.TheVariants.{Snapping, Collecting}
use Rattle.nam_protocol.specs.declared.client.Open.{Open}
use Rattle.nam_protocol.specs.declared.session.DriverPoint.{DriverPoint}
use Rattle.nam_protocol.specs.declared.session.DriverPoint.TheVariants.{ToBegin, ToAsk}
use Rattle.nam_protocol.specs.declared.session.DriverState.{DriverState}
use Rattle.nam_protocol.specs.declared.session.Job.{Job}
use Rattle.nam_protocol.specs.declared.session.SessionState.{SessionState}
use Rattle.nam_protocol.specs.declared.txn.TxnCall.TheVariants.{Commit}
use Rattle.nam_protocol.specs.declared.txn.TxnPoint.{TxnPoint}
use Rattle.nam_protocol.specs.declared.txn.TxnPoint.TheVariants.{Finding, Reading, Claiming, Committing}
use Rattle.nam_protocol.specs.Driver.{call_of, driver_next, driver_take}
use Rattle.nam_protocol.specs.EventsLaw.{IsReached}
use Rattle.nam_protocol.specs.SessionFits.{JobFits}
use Rattle.nam_protocol.specs.SessionKeeps.{OpensAsked, is_asking}
use Rattle.nam_protocol.specs.declared.client.Call.TheVariants as call

-- 1. The calls of an attempt

-- the begin of this try of the transaction, then its operations one after another, then the commit
abbrev pub attempt_calls : Job → ℕ → List Call
attempt_calls job nth = call.Begin job.txn nth ∷ (map call_of job.ops ++ call.Txn Commit ∷ [])

abbrev pub listed_call : Option Call → List Call
listed_call None = []
listed_call (Some asked) = asked ∷ []

-- the calls that a driver asks until its attempt is over, where these are the answers
abbrev pub calls_until_over : List Job → DriverState → List Answer → List Call
calls_until_over jobs driver [] = listed_call (driver_next jobs driver)
calls_until_over jobs driver (end ∷ ends) =
    let next = driver_take jobs driver end in
    listed_call (driver_next jobs driver) ++ (if is_asking next.place then calls_until_over jobs next ends else [])

-- they are the first of the attempt's calls, whatever the answers are; no more operations are answered than there are
abbrev pub DriverAsksLaw : Type 0
DriverAsksLaw = (jobs : List Job) (driver : DriverState) (job : Job) (answers : List Answer)
    → slice_get jobs driver.job ≡ Some job → driver.place ≡ ToBegin → length answers ≤ length job.ops + 1
    → IsFront (calls_until_over jobs driver answers) (attempt_calls job driver.nth)

-- 2. The call that runs, and the attempt that is open

-- the call whose point it is
abbrev pub txn_call_at : TxnPoint → Call
txn_call_at (Finding op passed) = call_of op
txn_call_at (Reading op position at) = call_of op
txn_call_at (Claiming op at) = call_of op
txn_call_at (Committing at) = call.Txn Commit

abbrev pub call_at : CallPoint → Call
call_at (Beginning txn nth at) = call.Begin txn nth
call_at (InTxn at) = txn_call_at at
call_at (Scanning table low high at) = call.Scan table low high
call_at (Seeking table key passed) = call.Tidy table key
call_at (Moving table key position at) = call.Tidy table key
call_at (Snapping bucket at) = call.Collect bucket
call_at (Collecting bucket prefix seen at) = call.Collect bucket

-- so many operations were asked, with the one that runs
abbrev pub ops_asked : List Op → DriverPoint → ℕ
ops_asked ops (ToAsk nth) = length (take (nth + 1) ops)
ops_asked ops _ = 0

-- it is this try of the job, of which so many operations were asked
pub record IsTry (job : Job) (nth asked : ℕ) (attempt : Open) : Type 0 where
  pub txn : attempt.txn ≡ job.txn
  pub try : attempt.nth ≡ nth
  pub ops : attempt.ops ≡ asked

-- a call runs: it is the one that the driver asks, and a transaction is open exactly for its calls, on this try
pub record RunsAsked (session : SessionState) (place : CallPoint) : Type 0 where
  pub call : driver_next session.jobs session.driver ≡ Some (call_at place)
  pub opened : OpensAsked session
  pub attempt : (job : Job) (attempt : Open) → slice_get session.jobs session.driver.job ≡ Some job
      → session.client.txn ≡ Some attempt
      → IsTry job session.driver.nth (ops_asked job.ops session.driver.place) attempt

abbrev pub SessionAsksLaw : Type 0
SessionAsksLaw =
    (shape : Shape) → FitsLimits shape → (worker start : ℕ) (jobs : List Job) (policy : Policy)
    → IsOf shape.workers worker → start ≤ greatest_number shape.form → AllByRecursion (JobFits shape) jobs
    → 1 ≤ policy.tries → (session : SessionState)
    → IsReached shape worker start jobs policy session → (place : CallPoint) → session.client.call ≡ Some (At place)
    → RunsAsked session place
