-- What each answer tells: it follows from its call's read, lock or snapshot, as the log lists it.
use Rattle.std.specs.Prelude.{◌≡◌, ℕ, ◌<◌, ◌≤◌, true, false, List, length, Option}
use Rattle.std.specs.Prelude.{Some, None}
use Rattle.std.specs.List.{AllByRecursion}
use Rattle.si_model.specs.declared.op.Op.{Op}
use Rattle.si_model.specs.Rows.{writes_key}
use Rattle.si_model.specs.Evaluation.{op_key}
use Rattle.si_model.specs.declared.op.Op.TheVariants as op
use Rattle.si_model.specs.declared.log.Event.TheVariants as event
use Rattle.si_model.specs.declared.log.MoveEnd.TheVariants as moved
use Rattle.si_model.specs.declared.log.Outcome.TheVariants as outcome
use Rattle.nam_verbs.specs.declared.now.Now.TheVariants.{At, Over}
use Rattle.nam_catalog.specs.declared.shape.Shape.{Shape}
use Rattle.nam_catalog.specs.Greatest.{greatest_number}
use Rattle.nam_header.specs.Stamp.{is_moved}
use Rattle.nam_layout.specs.Place.{place_of, bucket_of}
use Rattle.nam_vector.specs.declared.snap.SnapPoint.{SnapPoint}
use Rattle.nam_calls.specs.declared.lock.LockPoint.TheVariants.{GiveBack}
use Rattle.nam_calls.specs.declared.mover.MovePoint.{MovePoint}
use Rattle.nam_calls.specs.Words.{capacity_of, path_of}
use Rattle.nam_calls.specs.Index.{find_after}
use Rattle.nam_calls.specs.Reading.{sight_of, read_after}
use Rattle.nam_calls.specs.declared.index.FindEnd.TheVariants as found_key
use Rattle.nam_calls.specs.declared.reading.ReadingEnd.TheVariants as read_end
use Rattle.nam_protocol.specs.declared.txn.TxnCall.{TxnCall}
use Rattle.nam_protocol.specs.declared.txn.TxnCall.TheVariants.{Get, Put, Add, Del, Need, Guard, Commit}
use Rattle.nam_protocol.specs.declared.txn.TxnState.{TxnState}
use Rattle.nam_protocol.specs.declared.txn.TxnPoint.{TxnPoint}
use Rattle.nam_protocol.specs.declared.txn.TxnPoint.TheVariants.{Finding, Reading, Claiming, Committing}
use Rattle.nam_protocol.specs.declared.txn.TxnAnswer.{TxnAnswer}
use Rattle.nam_protocol.specs.declared.txn.TxnAnswer.TheVariants.{Committed, ReadOnly, TooOld, NoSpace, Declined}
use Rattle.nam_protocol.specs.declared.txn.TxnAnswer.TheVariants.{Spent, Locked, Newer, Full, Astray}
use Rattle.nam_protocol.specs.declared.txn.CommitPoint.{CommitPoint}
use Rattle.nam_protocol.specs.declared.txn.CommitPoint.TheVariants.{Locking, Clearing}
use Rattle.nam_protocol.specs.declared.client.Call.{Call}
use Rattle.nam_protocol.specs.declared.client.Answer.{Answer}
use Rattle.nam_protocol.specs.declared.client.CallPoint.{CallPoint}
use Rattle.nam_protocol.specs.declared.client.CallPoint.TheVariants.{Beginning, InTxn, Scanning, Seeking, Moving}
use Rattle.nam_protocol.specs.declared.client.CallPoint.TheVariants.{Snapping, Collecting}
use Rattle.nam_protocol.specs.declared.client.Open.{Open}
use Rattle.nam_protocol.specs.declared.client.ClientState.{ClientState}
use Rattle.nam_protocol.specs.Operations.{op_path, own_value, value_in}
use Rattle.nam_protocol.specs.Log.{with_event, unbegun}
use Rattle.nam_protocol.specs.Telling.{new_client}
use Rattle.nam_protocol.specs.Client.{with_call, client_ask, client_after, client_abandon}
use Rattle.nam_protocol.specs.CutClient.{client_cut}
use Rattle.nam_protocol.specs.ClientFits.{ClientFits}
use Rattle.nam_protocol.specs.Own.{MayAsk}
use Rattle.nam_protocol.specs.Session.{answer_now}
use Rattle.nam_protocol.specs.declared.session.Job.{Job}
use Rattle.nam_protocol.specs.declared.session.SessionState.{SessionState}
use Rattle.nam_protocol.specs.EventsLaw.{IsReached}
use Rattle.nam_protocol.specs.SessionFits.{JobFits}
use Rattle.si_model.specs.declared.op.Policy.{Policy}
use Rattle.nam_catalog.specs.Fits.{FitsLimits}
use Rattle.nam_calls.specs.Fits.{IsOf}
use Rattle.nam_protocol.specs.Carries.{Carries, IsFullAt}
use Rattle.nam_protocol.specs.Told.{Ends, OpDeclined, OpNoSpace, IsTooOld, LockMissed, HasCommitted, HasScanned}
use Rattle.nam_protocol.specs.Told.{HasCollected, FoundAgain, HasBegun, OpPassed, HasMoved}
use Rattle.nam_protocol.specs.declared.client.Answer.TheVariants as answer
use Rattle.nam_protocol.specs.declared.client.Call.TheVariants as call

-- 1. The calls of a transaction

module _ (shape : Shape) (word : ℕ) where
  -- the value on which an operation is answered: its key has no position, its read got it, or it is claiming since
  abbrev pub IsOn : TxnState → TxnPoint → Option (List ℕ) → Type 0
  IsOn state (Finding op passed) value = (find_after (op_path shape op) passed word ≡ Over found_key.Absent)
      × (value ≡ None)
  IsOn state (Reading op position at) value =
      read_after (sight_of shape (op_key op).table position) state.seen at word ≡ Over (read_end.Got value)
  IsOn state (Claiming op at) value = value ≡ value_in state.read
  IsOn state (Committing at) value = ⊥

-- the word that was found in the way of a lock: an earlier one while locks are given back, or the intent is cleared
abbrev pub IsWordInWay : ℕ → CommitPoint → ℕ → Type 0
IsWordInWay word (Locking (GiveBack given earlier)) found = found ≡ earlier
IsWordInWay word (Clearing refusal) found = Unit {0}
IsWordInWay word _ found = found ≡ word

module _ (shape : Shape) (word : ℕ) (before after : ClientState) where
  abbrev pub OpTells : Open → TxnPoint → Op → TxnAnswer → Type 0
  OpTells attempt at op (Committed number) = ⊥
  OpTells attempt at op ReadOnly = ⊥
  OpTells attempt at op Spent = ⊥
  OpTells attempt at op (Locked lock) = ⊥
  OpTells attempt at op (Newer lock) = ⊥
  OpTells attempt at op (Full lock) = ⊥
  OpTells attempt at op Astray = Ends before after attempt outcome.Left
  OpTells attempt at op (TooOld worker entry horizon) = IsTooOld before after word attempt worker entry horizon
  OpTells attempt at op (NoSpace table) =
      (value : Option (List ℕ)) × IsOn shape word attempt.state at value × OpNoSpace before after attempt op value table
  OpTells attempt at op Declined =
      (value : Option (List ℕ)) × IsOn shape word attempt.state at value × OpDeclined before after attempt op value
  OpTells attempt at op end =
      (value : Option (List ℕ)) × IsOn shape word attempt.state at value
      × OpPassed shape before after attempt op value end

  abbrev pub CommitTells : Open → CommitPoint → TxnAnswer → Type 0
  CommitTells attempt at (Committed number) = HasCommitted before after attempt number
  CommitTells attempt at (Locked lock) =
      (found : ℕ) × IsWordInWay word at found × LockMissed before after attempt found lock true (outcome.Locked lock)
  CommitTells attempt at (Newer lock) =
      (found : ℕ) × IsWordInWay word at found × LockMissed before after attempt found lock false (outcome.Newer lock)
  CommitTells attempt at (Full lock) = IsFullAt attempt.state lock × Ends before after attempt (outcome.Full lock)
  CommitTells attempt at _ = ⊥

  abbrev pub PointTells : Open → TxnPoint → TxnAnswer → Type 0
  PointTells attempt (Finding op passed) end = OpTells attempt (Finding op passed) op end
  PointTells attempt (Reading op position at) end = OpTells attempt (Reading op position at) op end
  PointTells attempt (Claiming op at) end = OpTells attempt (Claiming op at) op end
  PointTells attempt (Committing at) end = CommitTells attempt at end

  abbrev pub TxnTells : Option Open → TxnPoint → Answer → Type 0
  TxnTells (Some attempt) at (answer.Txn end) = PointTells attempt at end
  TxnTells _ at _ = ⊥

  abbrev pub ScanTells : Option Open → ℕ → ℕ → ℕ → Answer → Type 0
  ScanTells (Some attempt) table low high (answer.Scanned number) =
      HasScanned before after attempt table low high number × (number ≤ capacity_of shape table)
  ScanTells (Some attempt) table low high (answer.Txn (TooOld worker entry horizon)) =
      IsTooOld before after word attempt worker entry horizon
  ScanTells (Some attempt) table low high (answer.Txn Astray) = Ends before after attempt outcome.Left
  ScanTells _ table low high _ = ⊥

  -- 2. The other calls

  abbrev pub BeginTells : ℕ → ℕ → SnapPoint → Answer → Type 0
  BeginTells txn nth at (answer.Begun prefix) = HasBegun shape before after word txn nth at prefix
  BeginTells txn nth at (answer.Again worker first second) =
      FoundAgain shape word at worker first second
      × (after.log ≡ with_event before.log (unbegun txn nth (outcome.Again worker first second)))
  BeginTells txn nth at _ = ⊥

  abbrev pub SeekTells : ℕ → ℕ → ℕ → Answer → Type 0
  SeekTells table key passed answer.Nothing =
      (find_after (path_of shape table key) passed word ≡ Over found_key.Absent) × (after.log ≡ before.log)
  SeekTells table key passed _ = ⊥

  -- there is nothing to do where the slot's header is moved
  abbrev pub MoveTells : ℕ → ℕ → ℕ → MovePoint → Answer → Type 0
  MoveTells table key position at answer.Moved = HasMoved shape before after table key position at moved.Done
  MoveTells table key position at answer.Back = HasMoved shape before after table key position at moved.Back
  MoveTells table key position at answer.Nothing =
      (is_moved (place_of shape table position).form word ≡ true) × (after.log ≡ before.log)
  MoveTells table key position at (answer.NoRoom bucket) =
      (bucket ≡ bucket_of shape (place_of shape table position).row)
      × (after.log ≡ with_event before.log (event.NoRoom bucket))
  MoveTells table key position at _ = ⊥

  abbrev pub SnapTells : ℕ → SnapPoint → Answer → Type 0
  SnapTells bucket at (answer.Again worker first second) =
      FoundAgain shape word at worker first second
      × (after.log ≡ with_event before.log (event.CollectAgain bucket worker first second))
  SnapTells bucket at _ = ⊥

  abbrev pub CollectTells : ℕ → ℕ → List ℕ → Answer → Type 0
  CollectTells bucket prefix seen (answer.Collected known) = HasCollected before after bucket prefix seen
  CollectTells bucket prefix seen _ = ⊥

  -- 3. By the call's point

  abbrev pub AnswerTells : CallPoint → Answer → Type 0
  AnswerTells (Beginning txn nth at) end = BeginTells txn nth at end
  AnswerTells (InTxn at) end = TxnTells before.txn at end
  AnswerTells (Scanning table low high at) end = ScanTells before.txn table low high end
  AnswerTells (Seeking table key passed) end = SeekTells table key passed end
  AnswerTells (Moving table key position at) end = MoveTells table key position at end
  AnswerTells (Snapping bucket at) end = SnapTells bucket at end
  AnswerTells (Collecting bucket prefix seen at) end = CollectTells bucket prefix seen end

-- 4. A call that is answered as it is asked: an operation on a key of the write set, and a commit

abbrev pub asked_op : TxnCall → Option Op
asked_op (Get t k) = Some (op.Get t k)
asked_op (Put t k v) = Some (op.Put t k v)
asked_op (Add t k f up by) = Some (op.Add t k f up by)
asked_op (Del t k) = Some (op.Del t k)
asked_op (Need t k f least) = Some (op.Need t k f least)
asked_op (Guard t k) = Some (op.Guard t k)
asked_op Commit = None

module _ (shape : Shape) (before after : ClientState) where
  abbrev pub OwnTells : Open → Op → TxnAnswer → Type 0
  OwnTells attempt op Declined = OpDeclined before after attempt op (own_value attempt.state.writes (op_key op))
  OwnTells attempt op end = OpPassed shape before after attempt op (own_value attempt.state.writes (op_key op)) end

  -- the write set is empty, or no number is left
  abbrev pub CommitAskTells : Open → TxnAnswer → Type 0
  CommitAskTells attempt ReadOnly = (length attempt.state.writes ≡ 0) × Ends before after attempt outcome.ReadOnly
  CommitAskTells attempt Spent =
      (0 < length attempt.state.writes) × (before.last ≡ greatest_number shape.form)
      × Ends before after attempt outcome.Spent
  CommitAskTells attempt _ = ⊥

  abbrev pub TxnAskTells : Open → Option Op → TxnAnswer → Type 0
  TxnAskTells attempt None end = CommitAskTells attempt end
  TxnAskTells attempt (Some op) end =
      (writes_key attempt.state.writes (op_key op) ≡ true) × OwnTells attempt op end

  abbrev pub OpenAskTells : TxnCall → Option Open → Answer → Type 0
  OpenAskTells asked (Some attempt) (answer.Txn end) = TxnAskTells (with_call attempt asked) (asked_op asked) end
  OpenAskTells asked _ _ = ⊥

  abbrev pub AskTells : Call → Answer → Type 0
  AskTells (call.Txn asked) end = OpenAskTells asked before.txn end
  AskTells _ end = ⊥

-- 5. The law

module _ (shape : Shape) where
  -- what a client has kept of its call it has at the begin, and keeps
  pub record CarriesKept : Type 0 where
    pub new : (worker start : ℕ) → Carries (new_client worker start)
    pub word : (client : ClientState) (found : ℕ) → ClientFits shape client → Carries client
        → Carries (client_after shape client found)
    pub asked : (client : ClientState) (asked : Call) → MayAsk shape client asked → Carries client
        → Carries (client_ask shape client asked)
    pub abandoned : (client : ClientState) → Carries client → Carries (client_abandon client)
    pub cut : (client : ClientState) → Carries client → Carries (client_cut client)

  -- with this, each answer tells
  pub record AnswersTell : Type 0 where
    pub word : (client : ClientState) (place : CallPoint) (found : ℕ) (end : Answer) → ClientFits shape client
        → Carries client → client.call ≡ Some (At place)
        → answer_now (client_after shape client found).call ≡ Some end
        → AnswerTells shape found client (client_after shape client found) place end
    pub asked : (client : ClientState) (asked : Call) (end : Answer) → MayAsk shape client asked → Carries client
        → answer_now (client_ask shape client asked).call ≡ Some end
        → AskTells shape client (client_ask shape client asked) asked end

abbrev pub CarriesLaw : Type 0
CarriesLaw = (shape : Shape) → CarriesKept shape

abbrev pub AnswersLaw : Type 0
AnswersLaw = (shape : Shape) → AnswersTell shape

-- the client of each session that occurs carries so
abbrev pub SessionCarriesLaw : Type 0
SessionCarriesLaw =
    (shape : Shape) → FitsLimits shape → (worker start : ℕ) (jobs : List Job) (policy : Policy)
    → IsOf shape.workers worker → start ≤ greatest_number shape.form → AllByRecursion (JobFits shape) jobs
    → 1 ≤ policy.tries → (session : SessionState)
    → IsReached shape worker start jobs policy session → Carries session.client
