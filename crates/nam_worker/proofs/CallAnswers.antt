-- Each answer of a client is one to the call that runs, and that of a call that takes no verb is one to that call.
use Rattle.std.specs.Prelude.{IsSome}
use Rattle.std.proofs.Common.{Bool, List, None, Option, Some, false, inl, inr, refl, subst, sym, true}
use Rattle.std.proofs.Common.{length, ℕ, ◌≡◌}
use Rattle.std.proofs.lemmas.Bool.{cond_both, false≢true}
use Rattle.si_model.specs.declared.op.Op.{Op}
use Rattle.si_model.specs.declared.op.Op.TheVariants.{Get, Put, Add, Del, Need, Guard, Scan}
use Rattle.si_model.specs.EvaluationLaws.{is_scan}
use Rattle.si_model.specs.Rows.{key_at, writes_key}
use Rattle.nam_verbs.specs.declared.now.Now.{Now}
use Rattle.nam_verbs.specs.declared.now.Now.TheVariants.{At, Over}
use Rattle.nam_catalog.specs.declared.shape.Shape.{Shape}
use Rattle.nam_calls.specs.declared.index.ClaimKeyPoint.{ClaimKeyPoint}
use Rattle.nam_calls.specs.declared.reading.ReadPoint.{ReadPoint}
use Rattle.nam_protocol.specs.declared.txn.CommitPoint.{CommitPoint}
use Rattle.nam_protocol.specs.declared.txn.CommitPoint.TheVariants as commit
use Rattle.nam_protocol.specs.declared.txn.Refusal.{Refusal}
use Rattle.nam_protocol.specs.declared.txn.Refusal.TheVariants as refusal
use Rattle.nam_protocol.specs.declared.txn.TxnAnswer.{TxnAnswer}
use Rattle.nam_protocol.specs.declared.txn.TxnAnswer.TheVariants as txn_answer
use Rattle.nam_protocol.specs.declared.txn.TxnCall.{TxnCall}
use Rattle.nam_protocol.specs.declared.txn.TxnCall.TheVariants as txn_call
use Rattle.nam_protocol.specs.declared.txn.TxnPoint.{TxnPoint}
use Rattle.nam_protocol.specs.declared.txn.TxnPoint.TheVariants.{Finding, Reading, Claiming, Committing}
use Rattle.nam_protocol.specs.declared.txn.TxnState.{TxnState}
use Rattle.nam_protocol.specs.declared.client.Answer.{Answer}
use Rattle.nam_protocol.specs.declared.client.Answer.TheVariants as answer
use Rattle.nam_protocol.specs.declared.client.Call.{Call}
use Rattle.nam_protocol.specs.declared.client.Call.TheVariants as call
use Rattle.nam_protocol.specs.declared.client.CallPoint.{CallPoint}
use Rattle.nam_protocol.specs.declared.client.CallPoint.TheVariants.{Beginning, InTxn, Scanning, Seeking, Moving}
use Rattle.nam_protocol.specs.declared.client.CallPoint.TheVariants.{Snapping, Collecting}
use Rattle.nam_protocol.specs.declared.client.ClientState.{ClientState}
use Rattle.nam_protocol.specs.declared.client.Open.{Open}
use Rattle.nam_protocol.specs.declared.scan.ScanPoint.{ScanPoint}
use Rattle.nam_protocol.specs.declared.scan.ScanAnswer.{ScanAnswer}
use Rattle.nam_protocol.specs.declared.scan.ScanAnswer.TheVariants as scan
use Rattle.nam_protocol.specs.AskedLaw.{call_at, txn_call_at}
use Rattle.nam_protocol.specs.Client.{ask_scan, ask_txn, call_after, client_ask, take_scan, take_txn, with_call}
use Rattle.nam_protocol.specs.ClientFits.{CallFits, CallPointFits, OpenCallFits, OpenPointFits}
use Rattle.nam_protocol.specs.Commit.{refusal_answer}
use Rattle.nam_protocol.specs.Driver.{call_of}
use Rattle.nam_protocol.specs.Operations.{answer_of, own_value}
use Rattle.nam_protocol.specs.Scan.{scan_read, scan_skip}
use Rattle.nam_protocol.specs.ScanCall.{on_scan, on_skip, with_gathered}
use Rattle.nam_protocol.specs.Telling.{stepped}
use Rattle.nam_protocol.specs.Txn.{Stepped, ask_op, on_value}
use Rattle.nam_protocol.specs.TxnCalls.{txn_after, txn_ask}
use Rattle.nam_protocol.specs.TxnFits.{TxnPointFits}
use Rattle.nam_protocol.proofs.GoesClient.{begin_goes, seek_goes, move_goes, snap_goes, collect_goes}
use Rattle.nam_protocol.proofs.GoesClient.{stepped_goes}
use Rattle.nam_protocol.proofs.GoesCommit.{EndsAs, ask_commit_goes, commit_goes}
use Rattle.nam_protocol.proofs.GoesTxn.{ask_goes, decided_goes, knowing, on_claim_goes, on_find_goes, on_read_goes}
use Rattle.nam_worker.specs.Answering.{IsAnswerTo, ends_commit, ends_op, ends_read}
use Rattle.nam_worker.specs.CallAnswers.{AnswersAs}

-- 1. A transaction's call

abbrev pub StepEnds : (TxnAnswer → Bool) → Stepped → Type 0
StepEnds ends step = elim step.call [ At at ↦ Unit {0} | Over end ↦ ends end ≡ true ]

op_answer : (op : Op) (value : Option (List ℕ)) → ends_op (answer_of op value) ≡ true
op_answer (Get t k) value = refl
op_answer (Put t k v) value = refl
op_answer (Add t k f up by) value = refl
op_answer (Del t k) value = refl
op_answer (Need t k f least) value = refl
op_answer (Guard t k) value = refl
op_answer (Scan t low high) value = refl

module _ (shape : Shape) where
  value_ends : (op : Op) (state : TxnState) (value : Option (List ℕ)) → StepEnds ends_op (on_value shape state op value)
  value_ends op state value =
      decided_goes shape (StepEnds ends_op) op (knowing state op value) value (λ e. refl) (λ e f. tt)
      (λ e f. op_answer op value)

  op_ask_ends : (op : Op) (state : TxnState) → StepEnds ends_op (ask_op shape state op)
  op_ask_ends op state =
      ask_goes shape (StepEnds ends_op) op state (λ e f. refl) (λ e f. op_answer op _) (λ e f. tt) (λ e f. tt)

  finding_ends : (op : Op) (state : TxnState) (passed found : ℕ)
      → StepEnds ends_op (txn_after shape state (Finding op passed) found)
  finding_ends op state passed found =
      on_find_goes shape (StepEnds ends_op) op state _ (λ next e. tt) (λ position e. tt)
      (λ e. value_ends op state None)

  reading_ends : (op : Op) (state : TxnState) (position : ℕ) (at : ReadPoint) (found : ℕ)
      → StepEnds ends_op (txn_after shape state (Reading op position at) found)
  reading_ends op state position at found =
      on_read_goes shape (StepEnds ends_op) op state position _ (λ next e. tt) (λ value e. value_ends op state value)
      (λ worker entry horizon e. refl) (λ e. refl)

  claiming_ends : (op : Op) (state : TxnState) (at : ClaimKeyPoint) (found : ℕ)
      → StepEnds ends_op (txn_after shape state (Claiming op at) found)
  claiming_ends op state at found =
      on_claim_goes shape (StepEnds ends_op) op state _ (λ next e. tt) (λ e. refl) (λ position e. op_answer op _)

  refused_ends : (why : Refusal) → ends_commit (refusal_answer why) ≡ true
  refused_ends (refusal.Locked lock) = refl
  refused_ends (refusal.Newer lock) = refl
  refused_ends (refusal.Full lock) = refl

  commit_ends : (state : TxnState) (at : CommitPoint) (answer : TxnAnswer) → EndsAs (StepEnds ends_commit) state at answer
      → ends_commit answer ≡ true
  commit_ends state (commit.Locking at) answer (lock, inl e) = rw e refl
  commit_ends state (commit.Locking at) answer (lock, inr e) = rw e refl
  commit_ends state (commit.Returning given full) answer e = rw e refl
  commit_ends state commit.Publishing answer e = rw e refl
  commit_ends state (commit.Freeing nth) answer e = rw e refl
  commit_ends state (commit.Clearing why) answer e = rw e (refused_ends why)
  commit_ends state commit.Ending answer e = rw e refl
  commit_ends state (commit.Listing at) answer e = absurd e
  commit_ends state (commit.Checking at) answer e = absurd e
  commit_ends state (commit.Counting nth) answer e = absurd e
  commit_ends state commit.Deciding answer e = absurd e
  commit_ends state (commit.Saving nth got) answer e = absurd e
  commit_ends state (commit.Copying nth old at) answer e = absurd e
  commit_ends state (commit.Installing nth at) answer e = absurd e

  committing_ends : (state : TxnState) (at : CommitPoint) (found : ℕ)
      → StepEnds ends_commit (txn_after shape state (Committing at) found)
  committing_ends state at found =
      commit_goes (StepEnds ends_commit) state at found (λ next goes. tt) (λ header next is goes. tt)
      (λ slot count next is goes. tt) (commit_ends state at)

  commit_ask_ends : (state : TxnState) → StepEnds ends_commit (txn_ask shape state txn_call.Commit)
  commit_ask_ends state =
      ask_commit_goes (StepEnds ends_commit) state shape (λ e. refl) (λ e f. refl) (λ e f g. tt) (λ e f g. tt)

-- 2. A client's call in its transaction

op_answers : (op : Op) (end : TxnAnswer) → is_scan op ≡ false → ends_op end ≡ true
    → IsAnswerTo (call_of op) (answer.Txn end)
op_answers (Get t k) end scan e = e
op_answers (Put t k v) end scan e = e
op_answers (Add t k f up by) end scan e = e
op_answers (Del t k) end scan e = e
op_answers (Need t k f least) end scan e = e
op_answers (Guard t k) end scan e = e
op_answers (Scan t low high) end scan e = absurd (false≢true (sym scan))

-- a step answers the call where its ends are the call's
stepped_answers : (asked : Call) (ends : TxnAnswer → Bool)
    → ((end : TxnAnswer) → ends end ≡ true → IsAnswerTo asked (answer.Txn end))
    → (client : ClientState) (attempt : Open) (before : ℕ) (step : Stepped) → StepEnds ends step
    → AnswersAs asked (stepped client attempt before step)
stepped_answers asked ends answers client attempt before step e =
    stepped_goes (AnswersAs asked) client attempt before step (λ at is. tt)
    (λ end is. answers end (rw is at e))

module _ (shape : Shape) where
  in_txn_answers : (client : ClientState) (attempt : Open) (at : TxnPoint) (found : ℕ)
      → TxnPointFits shape attempt.state at → AnswersAs (txn_call_at at) (take_txn shape client at (Some attempt) found)
  in_txn_answers client attempt (Finding op passed) found fits =
      stepped_answers (call_of op) ends_op (λ end. op_answers op end fits.0.1) client attempt 0
      (txn_after shape attempt.state (Finding op passed) found) (finding_ends shape op attempt.state passed found)
  in_txn_answers client attempt (Reading op position at) found fits =
      stepped_answers (call_of op) ends_op (λ end. op_answers op end fits.0.1) client attempt 0
      (txn_after shape attempt.state (Reading op position at) found)
      (reading_ends shape op attempt.state position at found)
  in_txn_answers client attempt (Claiming op at) found fits =
      stepped_answers (call_of op) ends_op (λ end. op_answers op end fits.0.1) client attempt 0
      (txn_after shape attempt.state (Claiming op at) found) (claiming_ends shape op attempt.state at found)
  in_txn_answers client attempt (Committing at) found fits =
      stepped_answers (call.Txn txn_call.Commit) ends_commit (λ end e. e) client attempt (length attempt.state.held)
      (txn_after shape attempt.state (Committing at) found) (committing_ends shape attempt.state at found)

  open_answers : (client : ClientState) (opened : Option Open) (at : TxnPoint) (found : ℕ)
      → OpenPointFits shape opened at → AnswersAs (txn_call_at at) (take_txn shape client at opened found)
  open_answers client None at found fits = absurd fits
  open_answers client (Some attempt) at found fits = in_txn_answers client attempt at found fits

  -- 3. A scan

  skip_answers : (client : ClientState) (attempt : Open) (table low high : ℕ) (now : Now ScanPoint ScanAnswer)
      → AnswersAs (call.Scan table low high) (on_skip client attempt table low high now)
  skip_answers client attempt table low high (At at) = tt
  skip_answers client attempt table low high (Over end) = tt

  scan_answers : (client : ClientState) (attempt : Open) (table low high position : ℕ)
      (now : Now ScanPoint ScanAnswer)
      → AnswersAs (call.Scan table low high) (on_scan shape client attempt table low high position now)
  scan_answers client attempt table low high position (At at) = tt
  scan_answers client attempt table low high position (Over (scan.Key key)) =
      cond_both (writes_key attempt.state.writes (key_at table key)) _ _ (AnswersAs (call.Scan table low high))
      (λ e. skip_answers (with_gathered client position key (own_value attempt.state.writes (key_at table key))) attempt
      table low high (scan_skip shape table position))
      (λ e. skip_answers client attempt table low high (scan_read position key))
  scan_answers client attempt table low high position (Over (scan.Row item)) =
      skip_answers (with_gathered client position item.key item.value) attempt table low high
      (scan_skip shape table position)
  scan_answers client attempt table low high position (Over scan.Done) = tt
  scan_answers client attempt table low high position (Over (scan.TooOld worker entry horizon)) = refl
  scan_answers client attempt table low high position (Over scan.Astray) = refl

  open_scan_answers : (client : ClientState) (opened : Option Open) (table low high : ℕ) (at : ScanPoint) (found : ℕ)
      → IsSome opened → AnswersAs (call.Scan table low high) (take_scan shape client table low high at opened found)
  open_scan_answers client None table low high at found some = absurd (cc)
  open_scan_answers client (Some attempt) table low high at found some =
      scan_answers client attempt table low high _ _

  -- 4. Any call: a word is taken

  pub word_answers : (client : ClientState) (at : CallPoint) (found : ℕ) → CallPointFits shape client.txn at
      → AnswersAs (call_at at) (call_after shape client at found)
  word_answers client (Beginning txn nth at) found fits =
      begin_goes (AnswersAs (call.Begin txn nth)) shape client txn nth _ (λ next e. tt) (λ seen e. tt)
      (λ worker first second e. tt)
  word_answers client (InTxn at) found fits = open_answers client client.txn at found fits
  word_answers client (Scanning table low high at) found fits =
      open_scan_answers client client.txn table low high at found fits.0
  word_answers client (Seeking table key passed) found fits =
      seek_goes (AnswersAs (call.Tidy table key)) shape client table key _ (λ next e. tt) (λ position e. tt) (λ e. tt)
  word_answers client (Moving table key position at) found fits =
      move_goes (AnswersAs (call.Tidy table key)) shape client table key position _ _ (λ next e. tt) (λ stamp e. tt)
      (λ stamp e. tt) (λ e. tt) (λ full e. tt)
  word_answers client (Snapping bucket at) found fits =
      snap_goes (AnswersAs (call.Collect bucket)) shape client bucket _ (λ next e. tt) (λ seen e. tt)
      (λ worker first second e. tt)
  word_answers client (Collecting bucket prefix seen at) found fits =
      collect_goes (AnswersAs (call.Collect bucket)) shape client bucket prefix seen _ (λ next e. tt) (λ known e. tt)

  -- 5. Any call: it is asked

  op_ask_answers : (client : ClientState) (attempt : Open) (op : Op) (before : ℕ)
      → is_scan op ≡ false → AnswersAs (call_of op) (stepped client attempt before (ask_op shape attempt.state op))
  op_ask_answers client attempt op before scan =
      stepped_answers (call_of op) ends_op (λ end. op_answers op end scan) client attempt before _
      (op_ask_ends shape op attempt.state)

  txn_ask_answers : (client : ClientState) (attempt : Open) (asked : TxnCall)
      → AnswersAs (call.Txn asked) (ask_txn shape client asked (Some attempt))
  txn_ask_answers client attempt (txn_call.Get t k) =
      op_ask_answers client (with_call attempt (txn_call.Get t k)) (Get t k) 0 refl
  txn_ask_answers client attempt (txn_call.Put t k v) =
      op_ask_answers client (with_call attempt (txn_call.Put t k v)) (Put t k v) 0 refl
  txn_ask_answers client attempt (txn_call.Add t k f up by) =
      op_ask_answers client (with_call attempt (txn_call.Add t k f up by)) (Add t k f up by) 0 refl
  txn_ask_answers client attempt (txn_call.Del t k) =
      op_ask_answers client (with_call attempt (txn_call.Del t k)) (Del t k) 0 refl
  txn_ask_answers client attempt (txn_call.Need t k f least) =
      op_ask_answers client (with_call attempt (txn_call.Need t k f least)) (Need t k f least) 0 refl
  txn_ask_answers client attempt (txn_call.Guard t k) =
      op_ask_answers client (with_call attempt (txn_call.Guard t k)) (Guard t k) 0 refl
  txn_ask_answers client attempt txn_call.Commit =
      stepped_answers (call.Txn txn_call.Commit) ends_commit (λ end e. e) client attempt 0 _
      (commit_ask_ends shape attempt.state)

  open_ask_answers : (client : ClientState) (opened : Option Open) (asked : TxnCall) → OpenCallFits shape opened asked
      → AnswersAs (call.Txn asked) (ask_txn shape client asked opened)
  open_ask_answers client None asked fits = absurd fits
  open_ask_answers client (Some attempt) asked fits = txn_ask_answers client attempt asked

  scan_ask_answers : (client : ClientState) (opened : Option Open) (table low high : ℕ) → IsSome opened
      → AnswersAs (call.Scan table low high) (ask_scan shape client table low high opened)
  scan_ask_answers client None table low high some = absurd (cc)
  scan_ask_answers client (Some attempt) table low high some = tt

  pub ask_answers : (client : ClientState) (asked : Call) → CallFits shape client.txn asked
      → AnswersAs asked (client_ask shape client asked)
  ask_answers client (call.Begin txn nth) fits = tt
  ask_answers client (call.Txn asked) fits = open_ask_answers client client.txn asked fits
  ask_answers client (call.Scan table low high) fits = scan_ask_answers client client.txn table low high fits.0
  ask_answers client (call.Tidy table key) fits = tt
  ask_answers client (call.Collect bucket) fits = tt
