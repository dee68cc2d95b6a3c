-- Words below 2^64: what is asked of a client, and what it holds that it may still write.
use Rattle.std.specs.List.{AllByRecursion}
use Rattle.std.specs.Prelude.{List, None, Option, Some, ℕ, ◌<◌, ◌≤◌}
use Rattle.si_model.specs.declared.op.Op.{Op}
use Rattle.si_model.specs.declared.op.Op.TheVariants.{Get, Put, Add, Del, Need, Guard, Scan}
use Rattle.si_model.specs.declared.row.Item.{Item}
use Rattle.si_model.specs.declared.row.Row.{Row}
use Rattle.si_model.specs.declared.log.Finish.{Finish}
use Rattle.si_model.specs.Evaluation.{new_number, field_of}
use Rattle.nam_verbs.specs.declared.now.Now.{Now}
use Rattle.nam_verbs.specs.declared.now.Now.TheVariants.{At}
use Rattle.nam_catalog.specs.declared.form.Form.{Form}
use Rattle.nam_catalog.specs.declared.shape.Shape.{Shape}
use Rattle.nam_catalog.specs.Greatest.{greatest_number}
use Rattle.nam_calls.specs.Holds.{AreWords, CollectHolds, HasWords, HoldsNow, LockHolds, MoveHolds, ReadHolds, IsWord}
use Rattle.nam_calls.specs.Holds.{SnapHolds}
use Rattle.nam_calls.specs.Words.{key_word}
use Rattle.nam_calls.specs.declared.medic.MedicPoint.{MedicPoint}
use Rattle.nam_calls.specs.MedicFits.{MedicHolds}
use Rattle.nam_calls.specs.declared.ring.SlotPoint.TheVariants.{CheckHead}
use Rattle.nam_protocol.specs.declared.client.Answer.{Answer}
use Rattle.nam_protocol.specs.declared.client.Call.{Call}
use Rattle.nam_protocol.specs.declared.client.CallPoint.{CallPoint}
use Rattle.nam_protocol.specs.declared.client.CallPoint.TheVariants.{Collecting, InTxn, Moving, Snapping}
use Rattle.nam_protocol.specs.declared.client.ClientState.{ClientState}
use Rattle.nam_protocol.specs.declared.client.Open.{Open}
use Rattle.nam_protocol.specs.declared.session.Job.{Job}
use Rattle.nam_protocol.specs.declared.session.SessionState.{SessionState}
use Rattle.nam_protocol.specs.declared.txn.CommitPoint.{CommitPoint}
use Rattle.nam_protocol.specs.declared.txn.CommitPoint.TheVariants.{Checking, Copying, Locking, Saving}
use Rattle.nam_protocol.specs.declared.txn.TxnCall.{TxnCall}
use Rattle.nam_protocol.specs.declared.txn.TxnPoint.{TxnPoint}
use Rattle.nam_protocol.specs.declared.txn.TxnPoint.TheVariants.{Finding, Reading, Claiming, Committing}
use Rattle.nam_protocol.specs.declared.txn.TxnState.{TxnState}
use Rattle.nam_protocol.specs.Driver.{call_of}
use Rattle.nam_protocol.specs.Operations.{value_in}
use Rattle.nam_protocol.specs.Txn.{Stepped}
use Rattle.nam_protocol.specs.TxnFits.{AnswerFits}
use Rattle.nam_protocol.specs.World.{World}
use Rattle.nam_protocol.specs.declared.client.Call.TheVariants as call
use Rattle.nam_protocol.specs.declared.txn.TxnCall.TheVariants as txn_call

-- 1. What is asked: each value's words, and the word that a claimed position would bear

-- an operation on one key
abbrev pub OpHolds : Op → Type 0
OpHolds (Get t k) = IsWord (key_word k)
OpHolds (Put t k v) = IsWord (key_word k) × AreWords v
OpHolds (Add t k f up by) = IsWord (key_word k)
OpHolds (Del t k) = IsWord (key_word k)
OpHolds (Need t k f least) = IsWord (key_word k)
OpHolds (Guard t k) = IsWord (key_word k)
OpHolds (Scan t low high) = ⊥

abbrev pub TxnCallHolds : TxnCall → Type 0
TxnCallHolds (txn_call.Get t k) = OpHolds (Get t k)
TxnCallHolds (txn_call.Put t k v) = OpHolds (Put t k v)
TxnCallHolds (txn_call.Add t k f up by) = OpHolds (Add t k f up by)
TxnCallHolds (txn_call.Del t k) = OpHolds (Del t k)
TxnCallHolds (txn_call.Need t k f least) = OpHolds (Need t k f least)
TxnCallHolds (txn_call.Guard t k) = OpHolds (Guard t k)
TxnCallHolds txn_call.Commit = Unit {0}

-- no other call brings words with it
abbrev pub CallHolds : Call → Type 0
CallHolds (call.Txn asked) = TxnCallHolds asked
CallHolds _ = Unit {0}

-- a row that is loaded
abbrev pub RowHolds : Row → Type 0
RowHolds row = IsWord (key_word row.key) × AreWords row.value

-- 2. What a transaction has at hand

abbrev pub ItemHolds : Item → Type 0
ItemHolds item = HasWords item.value

-- its last number is one of the form; the values that it writes, the one that it has read, the headers of its locks, and
-- the counts
pub record HandHolds (form : Form) (last : ℕ) (writes : List Item) (read : Option Item) (held counts : List ℕ) : Type 0
  where
    pub last_is : last ≤ greatest_number form
    pub written : AllByRecursion ItemHolds writes
    pub found : HasWords (value_in read)
    pub headers : AreWords held
    pub counted : AreWords counts

-- the field that an addition leaves is a word
abbrev pub ResultHolds : Op → Option (List ℕ) → Type 0
ResultHolds (Add t k f up by) value = IsWord (new_number up (field_of value f) by)
ResultHolds _ value = Unit {0}

abbrev pub CommitPlaceHolds : CommitPoint → Type 0
CommitPlaceHolds (Locking at) = LockHolds at
CommitPlaceHolds (Checking (CheckHead count)) = IsWord count
CommitPlaceHolds (Saving nth got) = AreWords got
CommitPlaceHolds (Copying nth old at) = AreWords old
CommitPlaceHolds _ = Unit {0}

module _ (form : Form) where
  abbrev pub StateHolds : TxnState → Type 0
  StateHolds state = HandHolds form state.last state.writes state.read state.held state.counts

  -- a commit has a number of the form to publish
  abbrev pub TxnPlaceHolds : TxnState → TxnPoint → Type 0
  TxnPlaceHolds state (Finding op passed) = OpHolds op
  TxnPlaceHolds state (Reading op position at) = OpHolds op × ReadHolds at
  TxnPlaceHolds state (Claiming op at) = OpHolds op × ResultHolds op (value_in state.read)
  TxnPlaceHolds state (Committing at) = (state.last < greatest_number form) × CommitPlaceHolds at

  abbrev pub StepHolds : Stepped → Type 0
  StepHolds step =
      StateHolds step.state × HoldsNow (TxnPlaceHolds step.state) (AnswerFits form) step.call

  -- 3. A client

  abbrev pub OpenHolds : Option Open → Type 0
  OpenHolds None = Unit {0}
  OpenHolds (Some attempt) = StateHolds attempt.state

  abbrev pub OpenPlaceHolds : Option Open → TxnPoint → Type 0
  OpenPlaceHolds None at = Unit {0}
  OpenPlaceHolds (Some attempt) at = TxnPlaceHolds attempt.state at

  -- a begin's snapshot and a scan's rows are not written
  abbrev pub CallPlaceHolds : Option Open → CallPoint → Type 0
  CallPlaceHolds opened (InTxn at) = OpenPlaceHolds opened at
  CallPlaceHolds opened (Moving table key position at) = MoveHolds at
  CallPlaceHolds opened (Snapping bucket at) = SnapHolds at
  CallPlaceHolds opened (Collecting bucket prefix seen at) = AreWords seen × CollectHolds at
  CallPlaceHolds opened _ = Unit {0}

  abbrev pub RunHolds : Option Open → Option (Now CallPoint Answer) → Type 0
  RunHolds opened (Some (At place)) = CallPlaceHolds opened place
  RunHolds opened _ = Unit {0}

-- all that a client may still write is below 2^64
pub record HoldsWords (shape : Shape) (client : ClientState) : Type 0 where
  pub last_is : client.last ≤ greatest_number shape.form
  pub opened : OpenHolds shape.form client.txn
  pub running : RunHolds shape.form client.txn client.call

-- 4. A session and a world

-- each operation of the job, as a call
abbrev pub JobHolds : Job → Type 0
JobHolds job = AllByRecursion (λ op. CallHolds (call_of op)) job.ops

-- what the medic may still write
abbrev pub TreatmentHolds : Option (Now MedicPoint Finish) → Type 0
TreatmentHolds (Some (At place)) = MedicHolds place
TreatmentHolds _ = Unit {0}

abbrev pub SessionHolds : Shape → SessionState → Type 0
SessionHolds shape session =
    HoldsWords shape session.client × AllByRecursion JobHolds session.jobs × TreatmentHolds session.client.medic

abbrev pub WorldHolds : Shape → World → Type 0
WorldHolds shape world = AreWords world.words × AllByRecursion (SessionHolds shape) world.sessions
