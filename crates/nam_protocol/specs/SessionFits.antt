-- What holds of a session between two verbs: its driver has a point in its jobs, and the call that runs is the one that
-- the driver asked.
use Rattle.std.specs.Prelude.{◌≡◌, ℕ, ◌<◌, ◌≤◌, ◌||◌, ◌&&◌, Bool, true, false, not, List, [], take, length, slice_get}
use Rattle.std.specs.Prelude.{Option}
use Rattle.std.specs.Prelude.{Some, None, is_some}
use Rattle.std.specs.List.{AllByRecursion}
use Rattle.si_model.specs.declared.row.Key.{Key}
use Rattle.si_model.specs.declared.op.Op.{Op}
use Rattle.si_model.specs.declared.op.Op.TheVariants.{Scan}
use Rattle.si_model.specs.declared.log.Finish.{Finish}
use Rattle.si_model.specs.Rows.{writes_key}
use Rattle.si_model.specs.Evaluation.{OpFits, op_key, key_claimed, keys_from}
use Rattle.si_model.specs.Answers.{lock_key}
use Rattle.nam_verbs.specs.declared.now.Now.{Now}
use Rattle.nam_verbs.specs.declared.now.Now.TheVariants.{At}
use Rattle.nam_catalog.specs.declared.bounds.TheConstants.{MOST_KEYS}
use Rattle.nam_catalog.specs.declared.form.Form.TheVariants.{Held}
use Rattle.nam_catalog.specs.declared.shape.Shape.{Shape}
use Rattle.nam_catalog.specs.Tables.{widths_of}
use Rattle.nam_calls.specs.Holds.{IsWord}
use Rattle.nam_calls.specs.Words.{key_word}
use Rattle.nam_calls.specs.declared.medic.MedicPoint.{MedicPoint}
use Rattle.nam_calls.specs.MedicFits.{MedicFits}
use Rattle.nam_protocol.specs.declared.txn.TxnState.{TxnState}
use Rattle.nam_protocol.specs.declared.txn.TxnPoint.{TxnPoint}
use Rattle.nam_protocol.specs.declared.txn.TxnPoint.TheVariants.{Committing}
use Rattle.nam_protocol.specs.declared.txn.CommitPoint.{CommitPoint}
use Rattle.nam_protocol.specs.declared.txn.CommitPoint.TheVariants.{Returning, Clearing}
use Rattle.nam_protocol.specs.declared.txn.Refusal.TheVariants as refusal
use Rattle.nam_protocol.specs.declared.client.Answer.{Answer}
use Rattle.nam_protocol.specs.declared.client.CallPoint.{CallPoint}
use Rattle.nam_protocol.specs.declared.client.CallPoint.TheVariants.{Beginning, InTxn, Scanning, Seeking, Moving}
use Rattle.nam_protocol.specs.declared.client.CallPoint.TheVariants.{Snapping, Collecting}
use Rattle.nam_protocol.specs.declared.client.Open.{Open}
use Rattle.nam_protocol.specs.declared.session.Job.{Job}
use Rattle.nam_protocol.specs.declared.session.DriverPoint.{DriverPoint}
use Rattle.nam_protocol.specs.declared.session.DriverPoint.TheVariants.{ToBegin, ToAsk, ToTidy, ToCollect}
use Rattle.nam_protocol.specs.declared.session.DriverState.{DriverState}
use Rattle.nam_protocol.specs.declared.session.SessionState.{SessionState}
use Rattle.nam_protocol.specs.AttemptLaw.{HasAsked, IsOfOp}
use Rattle.nam_protocol.specs.TxnFits.{IsKeyOf}
use Rattle.nam_protocol.specs.ClientFits.{ClientFits}
use Rattle.nam_protocol.specs.Commit.{has_intents}
use Rattle.nam_protocol.specs.Session.{session_verb, has_ended}

-- 1. The call that runs

-- where a commit gives its locks back, the record that was full is one that it writes
abbrev pub FullIsWritten : TxnState → CommitPoint → Type 0
FullIsWritten state (Returning given full) = writes_key state.writes (lock_key full) ≡ true
FullIsWritten state (Clearing (refusal.Full full)) = writes_key state.writes (lock_key full) ≡ true
FullIsWritten state _ = Unit {0}

-- a transaction is open, whose keys are those of these operations
abbrev pub OpenAsked : Option Open → List Op → Type 0
OpenAsked None ops = ⊥
OpenAsked (Some attempt) ops = HasAsked attempt.state ops

-- the open transaction is at a point of this operation, or of the commit where there is none
abbrev pub OpenRuns : Option Open → Option Op → TxnPoint → Type 0
OpenRuns None op at = ⊥
OpenRuns (Some attempt) (Some op) at = IsOfOp op at
OpenRuns (Some attempt) None (Committing at) = FullIsWritten attempt.state at
OpenRuns (Some attempt) None at = ⊥

-- the nth operation runs, or the commit after the last, and those before it have passed
abbrev pub AskRuns : List Op → ℕ → Option Open → CallPoint → Type 0
AskRuns ops nth txn (InTxn at) = OpenAsked txn (take nth ops) × OpenRuns txn (slice_get ops nth) at
AskRuns ops nth txn (Scanning table low high at) =
    OpenAsked txn (take nth ops) × (slice_get ops nth ≡ Some (Scan table low high))
AskRuns ops nth txn place = ⊥

-- the client is at a point of the call that a driver here has asked
abbrev pub PlaceRuns : DriverPoint → List Op → Option Open → CallPoint → Type 0
PlaceRuns ToBegin ops txn (Beginning t n at) = Unit {0}
PlaceRuns ToBegin ops txn place = ⊥
PlaceRuns (ToAsk nth) ops txn place = AskRuns ops nth txn place
PlaceRuns (ToTidy keys nth again retry) ops txn (Seeking table key passed) = Unit {0}
PlaceRuns (ToTidy keys nth again retry) ops txn (Moving table key position at) = Unit {0}
PlaceRuns (ToTidy keys nth again retry) ops txn place = ⊥
PlaceRuns (ToCollect bucket keys nth retry) ops txn (Snapping b at) = Unit {0}
PlaceRuns (ToCollect bucket keys nth retry) ops txn (Collecting b prefix seen at) = Unit {0}
PlaceRuns (ToCollect bucket keys nth retry) ops txn place = ⊥

abbrev pub NowRuns : DriverPoint → List Op → Option Open → Option (Now CallPoint Answer) → Type 0
NowRuns place ops txn (Some (At at)) = PlaceRuns place ops txn at
NowRuns place ops txn _ = Unit {0}

-- does a call run
abbrev pub is_running : Option (Now CallPoint Answer) → Bool
is_running (Some (At at)) = true
is_running _ = false

-- the operations of the driver's job, where one is left
abbrev pub ops_of : Option Job → List Op
ops_of None = []
ops_of (Some job) = job.ops

module _ (shape : Shape) where
  -- 2. Jobs, and the driver's point in them

  -- the operations fit the tables, their keys' words are below 2^64, and at most 16 keys are written or guarded
  pub record OpsFit (ops : List Op) : Type 0 where
    pub fit : AllByRecursion (OpFits (widths_of shape.tables)) ops
    pub keys : AllByRecursion (λ op. IsWord (key_word (op_key op).key)) ops
    pub few : length (keys_from key_claimed [] ops) ≤ MOST_KEYS

  abbrev pub JobFits : Job → Type 0
  JobFits job = OpsFit job.ops

  abbrev pub AreKeysOf : List Key → Type 0
  AreKeysOf keys = AllByRecursion (IsKeyOf shape) keys

  -- the nth of at most 16 keys is to be tidied; another try follows only where one is left
  abbrev pub TidiesFit : ℕ → ℕ → List Key → ℕ → Bool → Type 0
  TidiesFit tries try keys nth retry =
      AreKeysOf keys × (nth < length keys) × (retry ≡ true → try < tries) × (length keys ≤ MOST_KEYS)

  abbrev pub DriverPointFits : ℕ → ℕ → DriverPoint → Type 0
  DriverPointFits tries try ToBegin = Unit {0}
  DriverPointFits tries try (ToAsk nth) = Unit {0}
  DriverPointFits tries try (ToTidy keys nth again retry) = TidiesFit tries try keys nth retry
  DriverPointFits tries try (ToCollect bucket keys nth retry) =
      (bucket < shape.buckets) × TidiesFit tries try keys nth retry

  -- tries count from 1 up to those of the policy
  abbrev pub DriverFits : DriverState → Type 0
  DriverFits driver =
      (1 ≤ driver.nth) × (driver.nth ≤ driver.policy.tries)
      × DriverPointFits driver.policy.tries driver.nth driver.place

  -- 3. A session: a call runs exactly as long as a job is left, and it is the driver's; in form Held, and in no other,
  -- a session has a medic exactly where it is cut

  abbrev pub MedicStands : Option (Now MedicPoint Finish) → Type 0
  MedicStands (Some (At place)) = (shape.form ≡ Held) × MedicFits shape place
  MedicStands _ = Unit {0}

  pub record SessionFits (session : SessionState) : Type 0 where
    pub client : ClientFits shape session.client
    pub jobs : AllByRecursion JobFits session.jobs
    pub driver : DriverFits session.driver
    pub runs : NowRuns session.driver.place (ops_of (slice_get session.jobs session.driver.job)) session.client.txn
        session.client.call
    pub medic : MedicStands session.client.medic
    pub treats : is_some session.client.medic ≡ (session.client.cut && has_intents shape.form)
    pub stands : is_running session.client.call ≡ is_some (slice_get session.jobs session.driver.job)

  -- a verb is to come exactly where the session has neither ended nor is cut without a medic
  abbrev pub IsSettled : SessionState → Type 0
  IsSettled session = is_some (session_verb shape session)
      ≡ not (has_ended session || (session.client.cut && not (has_intents shape.form)))
