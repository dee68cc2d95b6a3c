-- A log goes on with each step of a transaction but a commit's last, and with each word of a scan: with no commit.
use Rattle.std.proofs.Common.{List, Option, Some, [], ap, refl, ℕ, ◌++◌, ◌+◌, ◌∙◌, ◌∷◌, ◌≡◌}
use Rattle.nam_calls.proofs.FallsTests.{either}
use Rattle.nam_calls.specs.Reading.{read_begin}
use Rattle.nam_catalog.specs.declared.shape.Shape.{Shape}
use Rattle.nam_origins.proofs.LogKinds.{IsNoCommit, SameItems, log_ends, log_stands}
use Rattle.nam_origins.specs.Lists.{LogGoes}
use Rattle.nam_origins.specs.Logs.{pending}
use Rattle.nam_protocol.proofs.GoesClient.{left_goes, step_opens, with_rows}
use Rattle.nam_protocol.proofs.GoesCommit.{ask_commit_goes}
use Rattle.nam_protocol.proofs.GoesTxn.{IsSilent, ask_goes, claiming_goes, finding_goes, reading_goes, silent_answer}
use Rattle.nam_protocol.specs.Log.{attempt_of, with_locks}
use Rattle.nam_protocol.specs.Operations.{own_value}
use Rattle.nam_protocol.specs.Plain.{IsOperation}
use Rattle.nam_protocol.specs.Scan.{scan_skip}
use Rattle.nam_protocol.specs.ScanCall.{on_scan, on_skip, scan_ended, scan_listed, scanned_items, with_gathered}
use Rattle.nam_protocol.specs.Telling.{call_listed, go, items_of, new_locks, on_answer, read_ended, stepped, unread}
use Rattle.nam_protocol.specs.Telling.{with_answer, with_end, with_read}
use Rattle.nam_protocol.specs.Txn.{Stepped, ask_op}
use Rattle.nam_protocol.specs.TxnCalls.{taken_now, txn_after, txn_ask}
use Rattle.nam_protocol.specs.declared.client.CallPoint.TheVariants.{Scanning}
use Rattle.nam_protocol.specs.declared.client.ClientState.{ClientState}
use Rattle.nam_protocol.specs.declared.client.Open.{Open}
use Rattle.nam_protocol.specs.declared.client.Scanned.{Scanned}
use Rattle.nam_protocol.specs.declared.scan.ScanAnswer.{ScanAnswer}
use Rattle.nam_protocol.specs.declared.scan.ScanPoint.{ScanPoint}
use Rattle.nam_protocol.specs.declared.scan.ScanPoint.TheVariants.{ScanKey, ScanRead}
use Rattle.nam_protocol.specs.declared.txn.TxnAnswer.{TxnAnswer}
use Rattle.nam_protocol.specs.declared.txn.TxnCall.{TxnCall}
use Rattle.nam_protocol.specs.declared.txn.TxnCall.TheVariants.{Add, Commit, Del, Get, Guard, Need, Put}
use Rattle.nam_protocol.specs.declared.txn.TxnPoint.{TxnPoint}
use Rattle.nam_protocol.specs.declared.txn.TxnPoint.TheVariants.{Claiming, Committing, Finding, Reading}
use Rattle.nam_protocol.specs.declared.txn.TxnState.{TxnState}
use Rattle.nam_verbs.specs.declared.now.Now.{Now}
use Rattle.nam_verbs.specs.declared.now.Now.TheVariants.{At, Over}
use Rattle.si_model.specs.Evaluation.{op_key}
use Rattle.si_model.specs.Rows.{key_at, writes_key}
use Rattle.si_model.specs.declared.log.Lock.{Lock}
use Rattle.si_model.specs.declared.log.Outcome.{Outcome}
use Rattle.si_model.specs.declared.op.Op.{Op}
use Rattle.nam_protocol.specs.declared.client.Answer.TheVariants as client_answer
use Rattle.nam_protocol.specs.declared.scan.ScanAnswer.TheVariants as scan_answer
use Rattle.nam_protocol.specs.declared.txn.TxnAnswer.TheVariants as txn_answer
use Rattle.si_model.specs.declared.log.Outcome.TheVariants as outcome
use Rattle.si_model.specs.declared.op.Op.TheVariants as op

-- 1. A transaction has stepped

-- the transaction keeps its snapshot, and has not published
abbrev pub NowSilent : Now TxnPoint TxnAnswer → Type 0
NowSilent (At place) = Unit {0}
NowSilent (Over answer) = IsSilent answer

abbrev pub StepsSilent : List ℕ → Stepped → Type 0
StepsSilent seen step = (step.state.seen ≡ seen) × NowSilent step.call

module _ (client : ClientState) (seen : List ℕ) where
  abbrev Quiet : ClientState → Type 0
  Quiet after = LogGoes (seen ∷ []) client after []

  -- it stays open with its snapshot, or has ended so
  stays : (after : ClientState) (attempt : Open) → SameItems client after → after.log.events ≡ client.log.events
      → after.txn ≡ Some attempt → attempt.state.seen ≡ seen → Quiet after
  stays after attempt same events opened is =
      log_stands (seen ∷ []) client after same events
      (ap (λ o. pending o after.call) opened ∙ ap (λ s. s ∷ []) is)

  ends : (after : ClientState) (attempt : Open) (how : Outcome) → SameItems client after
      → after.log.events ≡ client.log.events ++ attempt_of attempt how 0 ∷ [] → pending after.txn after.call ≡ []
      → IsNoCommit (attempt_of attempt how 0) → Quiet after
  ends after attempt how = log_ends client after seen attempt how

  module _ (locks : List Lock) (attempt : Open) (is : attempt.state.seen ≡ seen) where
    abbrev listing : ClientState
    listing = record client { log = with_locks client.log locks }

    abbrev Answers : TxnAnswer → ClientState
    Answers answer = with_answer (on_answer listing attempt answer) (client_answer.Txn answer)

    read_on : (answer : TxnAnswer) → Quiet (with_answer (call_listed listing attempt) (client_answer.Txn answer))
    read_on answer =
        stays (with_answer (call_listed listing attempt) (client_answer.Txn answer))
        (with_read (unread attempt) (items_of attempt.state.read))
        (record { worker = refl; writes = refl; snaps = refl }) refl refl is

    ended : (answer : TxnAnswer) (how : Outcome) → IsNoCommit (attempt_of attempt how 0)
        → Quiet (with_answer (with_end listing attempt how) (client_answer.Txn answer))
    ended answer how none =
        ends (with_answer (with_end listing attempt how) (client_answer.Txn answer)) attempt how
        (record { worker = refl; writes = refl; snaps = refl }) refl refl none

    ended_reading : (answer : TxnAnswer) (how : Outcome)
        → let items = items_of attempt.state.read in IsNoCommit (attempt_of (with_read attempt items) how 0)
        → Quiet (with_answer (read_ended listing attempt items how) (client_answer.Txn answer))
    ended_reading answer how none =
        let items = items_of attempt.state.read in
        ends (with_answer (read_ended listing attempt items how) (client_answer.Txn answer)) (with_read attempt items)
        how (record { worker = refl; writes = refl; snaps = refl }) refl refl none

    answers : (answer : TxnAnswer) → IsSilent answer → Quiet (Answers answer)
    answers (txn_answer.Value value) silent = read_on (txn_answer.Value value)
    answers txn_answer.Written silent = read_on txn_answer.Written
    answers (txn_answer.Added n) silent = read_on (txn_answer.Added n)
    answers txn_answer.Met silent = read_on txn_answer.Met
    answers (txn_answer.Committed number) silent = absurd silent
    answers txn_answer.ReadOnly silent = ended txn_answer.ReadOnly outcome.ReadOnly (λ j t. refl)
    answers (txn_answer.TooOld worker entry horizon) silent =
        ended (txn_answer.TooOld worker entry horizon) (outcome.TooOld worker entry horizon) (λ j t. refl)
    answers (txn_answer.NoSpace table) silent =
        ended_reading (txn_answer.NoSpace table) (outcome.NoSpace table) (λ j t. refl)
    answers txn_answer.Declined silent =
        ended_reading txn_answer.Declined (outcome.Declined attempt.ops) (λ j t. refl)
    answers txn_answer.Spent silent = ended txn_answer.Spent outcome.Spent (λ j t. refl)
    answers (txn_answer.Locked lock) silent = ended (txn_answer.Locked lock) (outcome.Locked lock) (λ j t. refl)
    answers (txn_answer.Newer lock) silent = ended (txn_answer.Newer lock) (outcome.Newer lock) (λ j t. refl)
    answers (txn_answer.Full lock) silent = ended (txn_answer.Full lock) (outcome.Full lock) (λ j t. refl)
    answers txn_answer.Astray silent = ended txn_answer.Astray outcome.Left (λ j t. refl)

  pub stepped_log : (attempt : Open) (before : ℕ) (step : Stepped) → StepsSilent seen step
      → Quiet (stepped client attempt before step)
  stepped_log attempt before step silent = by step.state step.call silent.0 silent.1
    where
      by : (state : TxnState) (call : Now TxnPoint TxnAnswer) → state.seen ≡ seen → NowSilent call
          → Quiet (stepped client attempt before record { state = state; call = call })
      by state (At place) is silent =
          let step : Stepped = record { state = state; call = At place } in
          stays (stepped client attempt before step) (step_opens attempt before step)
          (record { worker = refl; writes = refl; snaps = refl }) refl refl is
      by state (Over answer) is silent =
          let step : Stepped = record { state = state; call = Over answer } in
          answers (new_locks state before (taken_now state (Over answer))) (step_opens attempt before step) is answer
          silent

  -- 2. A scan

  module _ (shape : Shape) (attempt : Open) (is : attempt.state.seen ≡ seen) (table low high : ℕ)
      (opened : client.txn ≡ Some attempt) where
    on_point : (rows : List Scanned) (at : ScanPoint) → Quiet (go (with_rows client rows) (Scanning table low high at))
    on_point rows at =
        stays (go (with_rows client rows) (Scanning table low high at)) attempt
        (record { worker = refl; writes = refl; snaps = refl }) refl opened is

    listed : (rows : List Scanned) → Quiet (scan_listed (with_rows client rows) attempt table)
    listed rows =
        stays (scan_listed (with_rows client rows) attempt table) (with_read attempt (scanned_items table rows))
        (record { worker = refl; writes = refl; snaps = refl }) refl refl is

    over_as : (how : Outcome) (end : TxnAnswer) → IsNoCommit (attempt_of attempt how 0)
        → Quiet (scan_ended client attempt how end)
    over_as how end none =
        ends (scan_ended client attempt how end) attempt how
        (record { worker = refl; writes = refl; snaps = refl }) refl refl none

    left : (position key : ℕ) (value : Option (List ℕ)) → Quiet (on_skip (with_gathered client position key value)
        attempt table low high (scan_skip shape table position))
    left position key value =
        left_goes Quiet shape client attempt table low high position key value
        (λ rows more. on_point rows (ScanKey (position + 1))) listed

    pub scan_log : (position : ℕ) (now : Now ScanPoint ScanAnswer)
        → Quiet (on_scan shape client attempt table low high position now)
    scan_log position (At place) = on_point client.scanned place
    scan_log position (Over (scan_answer.Key key)) =
        let own = key_at table key in
        either Quiet (writes_key attempt.state.writes own) _ _
        (left position key (own_value attempt.state.writes own))
        (on_point client.scanned (ScanRead position key read_begin))
    scan_log position (Over (scan_answer.Row item)) = left position item.key item.value
    scan_log position (Over scan_answer.Done) = listed client.scanned
    scan_log position (Over (scan_answer.TooOld worker entry horizon)) =
        over_as (outcome.TooOld worker entry horizon) (txn_answer.TooOld worker entry horizon) (λ j t. refl)
    scan_log position (Over scan_answer.Astray) = over_as outcome.Left txn_answer.Astray (λ j t. refl)

-- 3. An operation

module _ (shape : Shape) (state : TxnState) where
  abbrev Silent : Stepped → Type 0
  Silent = StepsSilent state.seen

  pub operation_silent : (place : TxnPoint) (found : ℕ) → IsOperation place → Silent (txn_after shape state place found)
  operation_silent (Finding op passed) found is =
      finding_goes shape Silent op state passed found (λ next e. (refl, tt)) (λ position e. (refl, tt))
      (λ e f. (refl, tt)) (λ e answer silent. (refl, silent))
  operation_silent (Reading op position place) found is =
      reading_goes shape Silent op state position place found (λ next e. (refl, tt)) (λ value e f. (refl, tt))
      (λ value e answer silent. (refl, silent)) (λ worker entry horizon e. (refl, tt)) (λ e. (refl, tt))
  operation_silent (Claiming op place) found is =
      claiming_goes shape Silent op state place found (λ next e. (refl, tt)) (λ e. (refl, tt))
      (λ position e answer silent f. (refl, silent))
  operation_silent (Committing at) found is = absurd is

  ask_op_silent : (op : Op) → Silent (ask_op shape state op)
  ask_op_silent op =
      let own = own_value state.writes (op_key op) in
      ask_goes shape Silent op state (λ e f. (refl, tt)) (λ e f. (refl, silent_answer op own)) (λ e f. (refl, tt))
      (λ e f. (refl, tt))

  pub ask_silent : (call : TxnCall) → Silent (txn_ask shape state call)
  ask_silent (Get t k) = ask_op_silent (op.Get t k)
  ask_silent (Put t k v) = ask_op_silent (op.Put t k v)
  ask_silent (Add t k f up by) = ask_op_silent (op.Add t k f up by)
  ask_silent (Del t k) = ask_op_silent (op.Del t k)
  ask_silent (Need t k f least) = ask_op_silent (op.Need t k f least)
  ask_silent (Guard t k) = ask_op_silent (op.Guard t k)
  ask_silent Commit =
      ask_commit_goes Silent state shape (λ e. (refl, tt)) (λ e f. (refl, tt)) (λ e f tells. (refl, tt))
      (λ e f untold. (refl, tt))
