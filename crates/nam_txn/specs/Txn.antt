-- A transaction and where its call stands: as a value, and by its registers.
use Rattle.std.specs.Prelude.{◌≡◌, ℕ, ◌<◌, ◌≤◌, List, [], length, true, Option, Some, None, IsNone, if◌then◌else◌, Bool, false}
use Rattle.si_model.specs.declared.op.Op.{Op}
use Rattle.si_model.specs.declared.op.Op.TheVariants as op
use Rattle.si_model.specs.Evaluation.{passes, op_key}
use Rattle.si_model.specs.Operations.{op_claims, op_reads}
use Rattle.nam_verbs.specs.declared.verb.Verb.{Verb}
use Rattle.nam_verbs.specs.declared.now.Now.{Now}
use Rattle.nam_verbs.specs.declared.now.Now.TheVariants.{At, Over}
use Rattle.nam_verbs.specs.Now.{verb_now, left_now, end_now}
use Rattle.nam_catalog.specs.declared.shape.Shape.{Shape}
use Rattle.nam_catalog.specs.Greatest.{greatest_number}
use Rattle.nam_catalog.specs.Fits.{FitsLimits}
use Rattle.nam_calls.specs.declared.index.Path.{Path}
use Rattle.nam_calls.specs.declared.index.ClaimKeyPoint.TheVariants.{KeyLook, KeyTake}
use Rattle.nam_calls.specs.declared.reading.Sight.{Sight}
use Rattle.nam_calls.specs.declared.reading.ReadPoint.{ReadPoint}
use Rattle.nam_calls.specs.declared.reading.ReadingEnd.{ReadingEnd}
use Rattle.nam_calls.specs.declared.reading.ReadingEnd.TheVariants.{Got}
use Rattle.nam_calls.specs.Memory.{verb_there}
use Rattle.nam_calls.specs.Words.{width_of, capacity_of}
use Rattle.nam_calls.specs.Index.{find_begin, claim_key_begin}
use Rattle.nam_calls.specs.Reading.{sight_of, read_begin, read_most, read_left}
use Rattle.nam_calls.specs.Fits.{HasWidth, IsOf, ReadFits}
use Rattle.nam_protocol.specs.declared.txn.TxnCall.{TxnCall}
use Rattle.nam_protocol.specs.declared.txn.TxnCall.TheVariants.{Get, Put, Add, Del, Need, Guard, Commit}
use Rattle.nam_protocol.specs.declared.txn.TxnState.{TxnState}
use Rattle.nam_protocol.specs.declared.txn.TxnPoint.{TxnPoint}
use Rattle.nam_protocol.specs.declared.txn.TxnPoint.TheVariants.{Finding, Reading, Claiming, Committing}
use Rattle.nam_protocol.specs.declared.txn.TxnAnswer.{TxnAnswer}
use Rattle.nam_protocol.specs.declared.txn.TxnAnswer.TheVariants.{Astray, Committed, Locked, Newer, Full}
use Rattle.nam_protocol.specs.Operations.{op_path, holding, value_in, own_value, read_of}
use Rattle.nam_protocol.specs.Txn.{Stepped, at, over, with_own}
use Rattle.nam_protocol.specs.TxnCalls.{txn_verb, txn_after}
use Rattle.nam_protocol.specs.Bound.{txn_left}
use Rattle.nam_protocol.specs.TxnFits.{StateFits, OpStands, TxnPointFits, AnswerFits}
use Rattle.nam_commit.specs.Commits.{has_published as published, Commits, CommitsFit, CommitsStand, call_of}
use Rattle.nam_txn.specs.Walk.{IsWalk}
use Rattle.nam_txn.specs.declared.registers.Registers.{Registers}
use Rattle.nam_txn.specs.declared.step.Step.{Step}
use Rattle.nam_txn.specs.declared.step.Step.TheVariants as step

-- 1. A transaction as a value

-- what is at hand of the shape: of the running operation its key's path, its table's width, how many verbs a read at a
-- position of the table takes at the most, and where its read looks; and what the commit has beside the transaction
pub record Hand : Type 0 where
  pub path : Path
  pub width : ℕ
  pub read_most : ℕ
  pub sight : Sight
  pub commits : Commits

-- the transaction, and where its call stands, where one was asked since the begin
pub record Transacting : Type 0 where
  pub state : TxnState
  pub call : Option (Now TxnPoint TxnAnswer)
  pub hand : Hand

-- it has come to this step
pub record IsAt (a : Transacting) (s : Stepped) : Type 0 where
  pub state : a.state ≡ s.state
  pub call : a.call ≡ Some s.call

-- 2. In a store of a shape

-- what is at hand is what the operation's key and table are in the shape
pub record HasTable (shape : Shape) (hand : Hand) (op : Op) : Type 0 where
  pub path : hand.path ≡ op_path shape op
  pub width : hand.width ≡ width_of shape (op_key op).table
  pub read_most : hand.read_most ≡ read_most shape (op_key op).table

abbrev pub HandFits : Shape → TxnState → Hand → TxnPoint → Type 0
HandFits shape state hand (Finding op passed) = HasTable shape hand op
HandFits shape state hand (Reading op position at) =
    HasTable shape hand op × (hand.sight ≡ sight_of shape (op_key op).table position)
HandFits shape state hand (Claiming op at) = HasTable shape hand op
HandFits shape state hand (Committing at) = CommitsFit shape state hand.commits

-- only a commit holds locks, and its answer tells of them
abbrev pub HeldFits : TxnState → Now TxnPoint TxnAnswer → Type 0
HeldFits state (At (Committing at)) = Unit {0}
HeldFits state (Over (Committed number)) = Unit {0}
HeldFits state (Over (Locked lock)) = Unit {0}
HeldFits state (Over (Newer lock)) = Unit {0}
HeldFits state (Over (Full lock)) = Unit {0}
HeldFits state _ = state.held ≡ []

-- where no call was asked nothing was read
abbrev pub CallFits : Shape → TxnState → Hand → Option (Now TxnPoint TxnAnswer) → Type 0
CallFits shape state hand None = (state.held ≡ []) × (state.read ≡ None)
CallFits shape state hand (Some (At at)) =
    TxnPointFits shape state at × HandFits shape state hand at × HeldFits state (At at)
CallFits shape state hand (Some (Over answer)) = AnswerFits shape.form answer × HeldFits state (Over answer)

-- the transaction is one of a store of this shape
pub record IsTxnOf (shape : Shape) (a : Transacting) : Type 0 where
  pub limits : FitsLimits shape
  pub fits : StateFits shape a.state
  pub call : CallFits shape a.state a.hand a.call

-- a new transaction of the worker is one of the store
pub record CanBegin (shape : Shape) (worker last : ℕ) (seen : List ℕ) : Type 0 where
  pub limits : FitsLimits shape
  pub worker_is : IsOf shape.workers worker
  pub last_is : last ≤ greatest_number shape.form
  pub seen_is : length seen ≡ shape.workers

-- the verb that stands, at its address
abbrev pub verb_of : Shape → TxnState → Option (Now TxnPoint TxnAnswer) → Option Verb
verb_of shape state None = None
verb_of shape state (Some now) = verb_now (λ at. verb_there shape (txn_verb shape state at)) now

abbrev pub next_verb : Shape → Transacting → Option Verb
next_verb shape a = verb_of shape a.state a.call

-- how many verbs are to come at the most
abbrev pub left_of : Shape → TxnState → Option (Now TxnPoint TxnAnswer) → ℕ
left_of shape state None = 0
left_of shape state (Some now) = left_now (txn_left shape state) now

abbrev pub verbs_left : Shape → Transacting → ℕ
verbs_left shape a = left_of shape a.state a.call

-- a call runs
abbrev pub Runs : Option (Now TxnPoint TxnAnswer) → Type 0
Runs (Some (At at)) = Unit {0}
Runs _ = ⊥

-- none runs
abbrev pub Rests : Option (Now TxnPoint TxnAnswer) → Type 0
Rests (Some (At at)) = ⊥
Rests _ = Unit {0}

-- a commit runs, and one that has published
abbrev pub is_committing : Option (Now TxnPoint TxnAnswer) → Bool
is_committing (Some (At (Committing at))) = true
is_committing _ = false

abbrev pub has_published : Option (Now TxnPoint TxnAnswer) → Bool
has_published (Some (At (Committing at))) = published (At at)
has_published _ = false

-- its answer, where it was answered
abbrev pub answer_in : Option (Now TxnPoint TxnAnswer) → Option TxnAnswer
answer_in None = None
answer_in (Some now) = end_now now

-- what follows a word
abbrev pub after_of : Shape → TxnState → Option (Now TxnPoint TxnAnswer) → ℕ → Stepped
after_of shape state (Some (At at)) found = txn_after shape state at found
after_of shape state _ found = over state Astray

-- the operation of a call, and none of a commit
abbrev pub asked_op : TxnCall → Option Op
asked_op (Get t k) = Some (op.Get t k)
asked_op (Put t k v) = Some (op.Put t k v)
asked_op (Add t k f up by) = Some (op.Add t k f up by)
asked_op (Del t k) = Some (op.Del t k)
asked_op (Need t k f least) = Some (op.Need t k f least)
asked_op (Guard t k) = Some (op.Guard t k)
asked_op Commit = None

-- an operation on a key of the write set, and on another
abbrev pub own_step : Shape → TxnState → Op → Stepped
own_step shape state op =
    let own = own_value state.writes (op_key op) in with_own shape (record state { read = read_of op own }) op own

abbrev pub verbs_step : TxnState → Op → Stepped
verbs_step state op =
    if op_reads op then at (record state { read = None }) (Finding op find_begin)
    else at (record state { read = None }) (Claiming op claim_key_begin)

-- 3. By its registers

-- the point of a read that is under way
abbrev pub point_of : Now ReadPoint ReadingEnd → ReadPoint
point_of (At at) = at
point_of (Over end) = read_begin

abbrev pub now_at : Step → Registers → Now TxnPoint TxnAnswer
now_at step.Resting a = Over Astray
now_at step.Finding a = At (Finding a.op a.walk.passed)
now_at step.Reading a = At (Reading a.op a.walk.position (point_of a.reader.state))
now_at step.KeyLook a = At (Claiming a.op (KeyLook a.walk.passed))
now_at step.KeyTake a = At (Claiming a.op (KeyTake a.walk.passed))
now_at step.Committing a = call_of a.committer.state
now_at step.Answered a = Over a.answer

abbrev pub call_at : Step → Registers → Option (Now TxnPoint TxnAnswer)
call_at step.Resting a = None
call_at step.Finding a = Some (now_at step.Finding a)
call_at step.Reading a = Some (now_at step.Reading a)
call_at step.KeyLook a = Some (now_at step.KeyLook a)
call_at step.KeyTake a = Some (now_at step.KeyTake a)
call_at step.Committing a = Some (now_at step.Committing a)
call_at step.Answered a = Some (now_at step.Answered a)

-- the transaction with the call that was asked
abbrev pub stepped_of : Registers → Stepped
stepped_of a = record { state = a.state; call = now_at a.step a }

abbrev pub hand_of : Registers → Hand
hand_of a = record {
  path = a.walk.path;
  width = a.width;
  read_most = a.read_most;
  sight = a.reader.sight;
  commits = a.committer;
}

abbrev pub value_of : Registers → Transacting
value_of a = record { state = a.state; call = call_at a.step a; hand = hand_of a }

-- what holds of the registers whatever the shape is: a read is under way with no more verbs to come than it takes at
-- the most, an operation that claims passes, and a commit is one of some shape
abbrev pub StepHolds : Step → Registers → Type 0
StepHolds step.Reading a =
    (a.reader.state ≡ At (point_of a.reader.state))
    × (read_left a.reader.sight (point_of a.reader.state) ≤ a.read_most)
StepHolds step.KeyLook a = passes a.op (holding (value_in a.state.read)) ≡ true
StepHolds step.KeyTake a = passes a.op (holding (value_in a.state.read)) ≡ true
StepHolds step.Committing a = IsNone (end_now a.committer.state) × CommitsStand a.state a.committer
StepHolds _ a = Unit {0}

pub record Holds (a : Registers) : Type 0 where
  pub walk : IsWalk a.walk
  pub at : StepHolds a.step a

-- 4. An operation runs

pub record OpRuns (shape : Shape) (a : Registers) : Type 0 where
  pub limits : FitsLimits shape
  pub fits : StateFits shape a.state
  pub stands : OpStands shape a.state.claims a.op
  pub table : HasTable shape (hand_of a) a.op
  pub walk : IsWalk a.walk

-- its read is under way
pub record ReadStands (shape : Shape) (a : Registers) : Type 0 where
  pub position : a.walk.position < capacity_of shape (op_key a.op).table
  pub sight : a.reader.sight ≡ sight_of shape (op_key a.op).table a.walk.position
  pub state : a.reader.state ≡ At (point_of a.reader.state)
  pub fits : ReadFits (sight_of shape (op_key a.op).table a.walk.position) (point_of a.reader.state)
  pub left : read_left a.reader.sight (point_of a.reader.state) ≤ a.read_most

-- a value that was got has the width
abbrev pub EndsWide : ℕ → Now ReadPoint ReadingEnd → Type 0
EndsWide width (Over (Got value)) = HasWidth width value
EndsWide width _ = Unit {0}

-- it passes, and claims a position for its key
pub record ClaimStands (shape : Shape) (a : Registers) : Type 0 where
  pub wide : HasWidth (width_of shape (op_key a.op).table) (value_in a.state.read)
  pub claims : op_claims a.op ≡ true
  pub passes : passes a.op (holding (value_in a.state.read)) ≡ true

-- it goes on with the shape at hand
abbrev pub StepKeeps : Shape → Step → Registers → Type 0
StepKeeps shape step.Finding a = HasTable shape (hand_of a) a.op
StepKeeps shape step.Reading a =
    HasTable shape (hand_of a) a.op × (a.reader.sight ≡ sight_of shape (op_key a.op).table a.walk.position)
StepKeeps shape step.KeyLook a = HasTable shape (hand_of a) a.op
StepKeeps shape step.KeyTake a = HasTable shape (hand_of a) a.op
StepKeeps shape step.Committing a = CommitsFit shape a.state a.committer
StepKeeps shape step.Resting a = ⊥
StepKeeps shape step.Answered a = Unit {0}

pub record Keeps (shape : Shape) (a : Registers) : Type 0 where
  pub holds : Holds a
  pub at : StepKeeps shape a.step a

-- what a step goes by
abbrev pub Stands : Shape → Step → Registers → Type 0
Stands shape step.Finding a = OpRuns shape a
Stands shape step.Reading a = OpRuns shape a × ReadStands shape a
Stands shape step.KeyLook a = OpRuns shape a × ClaimStands shape a
Stands shape step.KeyTake a = OpRuns shape a × ClaimStands shape a
Stands shape step.Committing a = CommitsFit shape a.state a.committer × IsNone (end_now a.committer.state)
Stands shape _ a = Unit {0}
