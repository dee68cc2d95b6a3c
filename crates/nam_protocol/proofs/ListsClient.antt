-- How long the lists of a client's log grow with a word and with a call.
use Rattle.std.proofs.Common.{◌≡◌, ℕ, ◌+◌, ◌≤◌, Bool, true, false, List, length, Option, Some, None, refl}
use Rattle.std.proofs.Common.{sym, subst, ◌∙◌, length-append, arith}
use Rattle.std.specs.Prelude.{IsSome, is_some}
use Rattle.std.proofs.lemmas.Bool.{false≢true}
use Rattle.std.proofs.lemmas.List.{length_push}
use Rattle.si_model.specs.declared.row.Item.{Item}
use Rattle.si_model.specs.declared.op.Op.{Op}
use Rattle.si_model.specs.declared.op.Op.TheVariants as op
use Rattle.si_model.specs.declared.log.Event.{Event}
use Rattle.si_model.specs.declared.log.Log.{Log}
use Rattle.si_model.specs.Evaluation.{found}
use Rattle.si_model.specs.EvaluationLaws.{is_scan}
use Rattle.nam_verbs.specs.declared.now.Now.{Now}
use Rattle.nam_verbs.specs.declared.now.Now.TheVariants.{At, Over}
use Rattle.nam_catalog.specs.declared.shape.Shape.{Shape}
use Rattle.nam_protocol.specs.declared.client.Answer.{Answer}
use Rattle.nam_protocol.specs.declared.client.Call.{Call}
use Rattle.nam_protocol.specs.declared.client.CallPoint.{CallPoint}
use Rattle.nam_protocol.specs.declared.client.CallPoint.TheVariants.{Beginning, Collecting, InTxn, Moving, Scanning}
use Rattle.nam_protocol.specs.declared.client.CallPoint.TheVariants.{Seeking, Snapping}
use Rattle.nam_protocol.specs.declared.client.ClientState.{ClientState}
use Rattle.nam_protocol.specs.declared.client.Open.{Open}
use Rattle.nam_protocol.specs.declared.scan.ScanPoint.{ScanPoint}
use Rattle.nam_protocol.specs.declared.txn.CommitPoint.{CommitPoint}
use Rattle.nam_protocol.specs.declared.txn.TxnAnswer.{TxnAnswer}
use Rattle.nam_protocol.specs.declared.txn.TxnCall.{TxnCall}
use Rattle.nam_protocol.specs.declared.txn.TxnCall.TheVariants.{Get, Put, Add, Del, Need, Guard, Commit}
use Rattle.nam_protocol.specs.declared.txn.TxnPoint.{TxnPoint}
use Rattle.nam_protocol.specs.declared.txn.TxnPoint.TheVariants.{Finding, Reading, Claiming, Committing}
use Rattle.nam_protocol.specs.AnswersLaw.{AnswerTells, AskTells, CommitAskTells, CommitTells, OpTells, OpenAskTells}
use Rattle.nam_protocol.specs.AnswersLaw.{OwnTells, ScanTells, TxnTells}
use Rattle.nam_protocol.specs.AskedLaw.{call_at, txn_call_at}
use Rattle.nam_protocol.specs.AttemptLaw.{has_passed}
use Rattle.nam_calls.specs.Words.{capacity_of}
use Rattle.nam_protocol.specs.Client.{ask_scan, ask_txn, call_after, client_ask, take_scan, take_txn}
use Rattle.nam_protocol.specs.Client.{with_call}
use Rattle.nam_protocol.specs.ClientEvents.{is_open_after}
use Rattle.nam_protocol.specs.ClientFits.{CallFits, CallPointFits, OpenPointFits}
use Rattle.nam_protocol.specs.CutClient.{closed_call, cut_in_txn, cut_tail, cut_move, cut_open, left_open}
use Rattle.nam_protocol.specs.CutClient.{has_committed}
use Rattle.nam_protocol.specs.CutClient.{finished_in_txn, finished_call, closed_client}
use Rattle.si_model.specs.declared.log.Finish.{Finish}
use Rattle.si_model.specs.declared.log.Event.TheVariants.{Finished}
use Rattle.si_model.specs.declared.log.Outcome.TheVariants as outcome
use Rattle.nam_calls.proofs.FallsTests.{either}
use Rattle.nam_protocol.specs.declared.txn.CommitPoint.TheVariants.{Freeing, Ending}
use Rattle.nam_layout.specs.Place.{bucket_of, place_of}
use Rattle.nam_calls.specs.Mover.{move_claimed}
use Rattle.si_model.specs.declared.log.Stamp.{Stamp}
use Rattle.nam_protocol.specs.Driver.{call_of}
use Rattle.nam_protocol.specs.Log.{with_event, with_reads, with_snap, with_writes}
use Rattle.nam_protocol.specs.Operations.{holding}
use Rattle.nam_protocol.specs.Own.{IsOpenAt, Rests}
use Rattle.nam_protocol.specs.RoomLaw.{call_room}
use Rattle.nam_protocol.specs.Telling.{go, new_locks, stepped, with_listed, with_commit}
use Rattle.nam_protocol.specs.Telling.{with_end}
use Rattle.nam_protocol.specs.Txn.{Stepped}
use Rattle.nam_protocol.specs.TxnCalls.{taken_now}
use Rattle.nam_protocol.specs.declared.client.Answer.TheVariants as answer
use Rattle.nam_protocol.specs.declared.client.Call.TheVariants as call
use Rattle.nam_protocol.specs.declared.txn.TxnAnswer.TheVariants as txn_answer
use Rattle.nam_protocol.proofs.FallsClient.{some_open}
use Rattle.nam_protocol.proofs.GoesClient.{begin_goes, collect_goes, move_goes, scan_goes, seek_goes, snap_goes}
use Rattle.nam_protocol.proofs.GoesClient.{stepped_goes}

-- 1. What an answer lists

-- no more reads, writes and snapshots than these, and no lock
pub record Listed (more_reads more_writes more_snaps : ℕ) (before after : Log) : Type 0 where
  pub reads : length after.reads ≤ length before.reads + more_reads
  pub writes : length after.writes ≤ length before.writes + more_writes
  pub locks : after.locks ≡ before.locks
  pub snaps : length after.snaps ≤ length before.snaps + more_snaps

module _ (reads writes snaps : ℕ) (before after : Log) where
  abbrev IsListed : Log → Type 0
  IsListed = Listed reads writes snaps before

  no_more : after ≡ before → IsListed after
  no_more e = subst IsListed (sym e) record {
    reads = omega arith;
    writes = omega arith;
    locks = refl;
    snaps = omega arith;
  }

  event_more : (event : Event) → after ≡ with_event before event → IsListed after
  event_more event e = subst IsListed (sym e) record {
    reads = omega arith;
    writes = omega arith;
    locks = refl;
    snaps = omega arith;
  }

  reads_more : (items : List Item) → length items ≤ reads → after ≡ with_reads before items → IsListed after
  reads_more items few e = subst IsListed (sym e) record {
    reads = (let l = length-append before.reads items in omega arith);
    writes = omega arith;
    locks = refl;
    snaps = omega arith;
  }

  ended_more : (items : List Item) (event : Event) → length items ≤ reads
      → after ≡ with_event (with_reads before items) event → IsListed after
  ended_more items event few e = subst IsListed (sym e) record {
    reads = (let l = length-append before.reads items in omega arith);
    writes = omega arith;
    locks = refl;
    snaps = omega arith;
  }

  writes_more : (event : Event) (items : List Item) → length items ≤ writes
      → after ≡ with_writes (with_event before event) items → IsListed after
  writes_more event items few e = subst IsListed (sym e) record {
    reads = omega arith;
    writes = (let l = length-append before.writes items in omega arith);
    locks = refl;
    snaps = omega arith;
  }

  snap_more : (seen : List ℕ) → 1 ≤ snaps → after ≡ with_snap before seen → IsListed after
  snap_more seen few e = subst IsListed (sym e) record {
    reads = omega arith;
    writes = omega arith;
    locks = refl;
    snaps = (let l = length_push before.snaps seen in omega arith);
  }

-- an operation but a scan reads one item at most
found_few : (op : Op) (value : Option (List ℕ)) → is_scan op ≡ false → length (found op (holding value)) ≤ 1
found_few (op.Get t k) value one = omega arith
found_few (op.Put t k v) value one = omega arith
found_few (op.Add t k f up by) value one = omega arith
found_few (op.Del t k) value one = omega arith
found_few (op.Need t k f least) value one = omega arith
found_few (op.Guard t k) value one = omega arith
found_few (op.Scan t low high) value one = absurd (false≢true (sym one))

op_room : (shape : Shape) (op : Op) → is_scan op ≡ false → 1 ≤ (call_room shape (call_of op)).ops
op_room shape (op.Get t k) one = omega arith
op_room shape (op.Put t k v) one = omega arith
op_room shape (op.Add t k f up by) one = omega arith
op_room shape (op.Del t k) one = omega arith
op_room shape (op.Need t k f least) one = omega arith
op_room shape (op.Guard t k) one = omega arith
op_room shape (op.Scan t low high) one = absurd (false≢true (sym one))

-- so many writes may be listed where an open attempt ends
abbrev pub ended : ℕ → Bool → Bool → ℕ
ended keys true false = keys
ended keys _ _ = 0

-- a begin lists a snapshot
abbrev pub begins_snap : CallPoint → ℕ
begins_snap (Beginning txn nth at) = 1
begins_snap _ = 0

-- a commit writes no more keys than these
abbrev pub WritesWithin : ℕ → Option Open → CallPoint → Type 0
WritesWithin keys (Some attempt) (InTxn (Committing at)) = length attempt.state.writes ≤ keys
WritesWithin keys _ _ = Unit {0}

-- so many locks are the open attempt's
abbrev pub open_locks : Option Open → ℕ
open_locks None = 0
open_locks (Some attempt) = attempt.locks

module _ (shape : Shape) (word keys : ℕ) (before after : ClientState) where
  abbrev Lists : ℕ → ℕ → ℕ → Type 0
  Lists reads writes snaps = Listed reads writes snaps before.log after.log

  op_lists : (attempt : Open) (at : TxnPoint) (op : Op) (reads writes : ℕ) → 1 ≤ reads → is_scan op ≡ false
      → (end : TxnAnswer) → OpTells shape word before after attempt at op end → Lists reads writes 0
  op_lists attempt at op reads writes some one (txn_answer.Value value) told =
      reads_more reads writes 0 before.log after.log (found op (holding told.0))
      (let l = found_few op told.0 one in omega arith) told.2.log
  op_lists attempt at op reads writes some one txn_answer.Written told =
      reads_more reads writes 0 before.log after.log (found op (holding told.0))
      (let l = found_few op told.0 one in omega arith) told.2.log
  op_lists attempt at op reads writes some one (txn_answer.Added n) told =
      reads_more reads writes 0 before.log after.log (found op (holding told.0))
      (let l = found_few op told.0 one in omega arith) told.2.log
  op_lists attempt at op reads writes some one txn_answer.Met told =
      reads_more reads writes 0 before.log after.log (found op (holding told.0))
      (let l = found_few op told.0 one in omega arith) told.2.log
  op_lists attempt at op reads writes some one (txn_answer.TooOld worker entry horizon) told =
      event_more reads writes 0 before.log after.log _ told.log
  op_lists attempt at op reads writes some one (txn_answer.NoSpace table) told =
      ended_more reads writes 0 before.log after.log (found op (holding told.0)) _
      (let l = found_few op told.0 one in omega arith) told.2.log
  op_lists attempt at op reads writes some one txn_answer.Declined told =
      ended_more reads writes 0 before.log after.log (found op (holding told.0)) _
      (let l = found_few op told.0 one in omega arith) told.2.log
  op_lists attempt at op reads writes some one txn_answer.Astray told =
      event_more reads writes 0 before.log after.log _ told
  op_lists attempt at op reads writes some one _ told = absurd told

  commit_lists : (attempt : Open) (at : CommitPoint) → length attempt.state.writes ≤ keys → (end : TxnAnswer)
      → CommitTells shape word before after attempt at end → Lists 0 (ended keys true (has_passed end)) 0
  commit_lists attempt at few (txn_answer.Committed number) told =
      writes_more 0 keys 0 before.log after.log _ attempt.state.writes few told.log
  commit_lists attempt at few (txn_answer.Locked lock) told = event_more 0 keys 0 before.log after.log _ told.2.log
  commit_lists attempt at few (txn_answer.Newer lock) told = event_more 0 keys 0 before.log after.log _ told.2.log
  commit_lists attempt at few (txn_answer.Full lock) told = event_more 0 keys 0 before.log after.log _ told.1
  commit_lists attempt at few _ told = absurd told

  abbrev paid : Option Open → Answer → ℕ
  paid opened end = ended keys (is_some opened) (is_open_after (is_some opened) end)

  txn_lists : (at : TxnPoint) (opened : Option Open) (end : Answer) → OpenPointFits shape opened at
      → WritesWithin keys opened (InTxn at) → TxnTells shape word before after opened at end
      → Lists (call_room shape (txn_call_at at)).ops (paid opened end) 0
  txn_lists at None end fits few told = absurd told
  txn_lists (Finding op passed) (Some attempt) (answer.Txn end) fits few told =
      op_lists attempt (Finding op passed) op _ _ (op_room shape op fits.0.1) fits.0.1 end told
  txn_lists (Reading op position at) (Some attempt) (answer.Txn end) fits few told =
      op_lists attempt (Reading op position at) op _ _ (op_room shape op fits.0.1) fits.0.1 end told
  txn_lists (Claiming op at) (Some attempt) (answer.Txn end) fits few told =
      op_lists attempt (Claiming op at) op _ _ (op_room shape op fits.0.1) fits.0.1 end told
  txn_lists (Committing at) (Some attempt) (answer.Txn end) fits few told = commit_lists attempt at few end told
  txn_lists at (Some attempt) _ fits few told = absurd told

  scan_lists : (table low high : ℕ) (opened : Option Open) (end : Answer)
      → ScanTells shape word before after opened table low high end
      → Lists (capacity_of shape table) (paid opened end) 0
  scan_lists table low high None end told = absurd told
  scan_lists table low high (Some attempt) (answer.Scanned number) told =
      reads_more _ _ _ before.log after.log told.0.items (let n = told.0.number_is in let l = told.1 in omega arith)
      told.0.log
  scan_lists table low high (Some attempt) (answer.Txn (txn_answer.TooOld worker entry horizon)) told =
      event_more _ _ _ before.log after.log _ told.log
  scan_lists table low high (Some attempt) (answer.Txn txn_answer.Astray) told =
      event_more _ _ _ before.log after.log _ told
  scan_lists table low high (Some attempt) _ told = absurd told

  pub answer_lists : (place : CallPoint) (end : Answer) → CallPointFits shape before.txn place
      → WritesWithin keys before.txn place → AnswerTells shape word before after place end
      → Lists (call_room shape (call_at place)).ops (paid before.txn end) (begins_snap place)
  answer_lists (Beginning txn nth at) (answer.Begun prefix) fits few told =
      snap_more _ _ _ before.log after.log told.seen (omega arith) told.log
  answer_lists (Beginning txn nth at) (answer.Again worker first second) fits few told =
      event_more _ _ _ before.log after.log _ told.1
  answer_lists (Beginning txn nth at) _ fits few told = absurd told
  answer_lists (InTxn at) end fits few told = txn_lists at before.txn end fits few told
  answer_lists (Scanning table low high at) end fits few told = scan_lists table low high before.txn end told
  answer_lists (Seeking table key passed) answer.Nothing fits few told = no_more _ _ _ before.log after.log told.1
  answer_lists (Seeking table key passed) _ fits few told = absurd told
  answer_lists (Moving table key position at) answer.Moved fits few told =
      event_more _ _ _ before.log after.log _ told.log
  answer_lists (Moving table key position at) answer.Back fits few told =
      event_more _ _ _ before.log after.log _ told.log
  answer_lists (Moving table key position at) answer.Nothing fits few told =
      no_more _ _ _ before.log after.log told.1
  answer_lists (Moving table key position at) (answer.NoRoom bucket) fits few told =
      event_more _ _ _ before.log after.log _ told.1
  answer_lists (Moving table key position at) _ fits few told = absurd told
  answer_lists (Snapping bucket at) (answer.Again worker first second) fits few told =
      event_more _ _ _ before.log after.log _ told.1
  answer_lists (Snapping bucket at) _ fits few told = absurd told
  answer_lists (Collecting bucket prefix seen at) (answer.Collected known) fits few told =
      event_more _ _ _ before.log after.log _ told.log
  answer_lists (Collecting bucket prefix seen at) _ fits few told = absurd told

-- an open transaction keeps its locks with an answer that leaves it open
abbrev pub KeepsLocks : Option Open → Option Open → Type 0
KeepsLocks before after = open_locks before ≤ open_locks after

module _ (shape : Shape) (word : ℕ) (before after : ClientState) where
  op_locks : (attempt : Open) (at : TxnPoint) (op : Op) (end : TxnAnswer)
      → OpTells shape word before after attempt at op end → has_passed end ≡ true
      → KeepsLocks (Some attempt) after.txn
  op_locks attempt at op (txn_answer.Value value) told e =
      subst (KeepsLocks (Some attempt)) (sym told.2.opened) (omega arith)
  op_locks attempt at op txn_answer.Written told e =
      subst (KeepsLocks (Some attempt)) (sym told.2.opened) (omega arith)
  op_locks attempt at op (txn_answer.Added n) told e =
      subst (KeepsLocks (Some attempt)) (sym told.2.opened) (omega arith)
  op_locks attempt at op txn_answer.Met told e =
      subst (KeepsLocks (Some attempt)) (sym told.2.opened) (omega arith)
  op_locks attempt at op _ told e = absurd (false≢true e)

  commit_locks : (attempt : Open) (at : CommitPoint) (end : TxnAnswer)
      → CommitTells shape word before after attempt at end → has_passed end ≡ true → KeepsLocks (Some attempt) after.txn
  commit_locks attempt at (txn_answer.Value value) told e = absurd told
  commit_locks attempt at txn_answer.Written told e = absurd told
  commit_locks attempt at (txn_answer.Added n) told e = absurd told
  commit_locks attempt at txn_answer.Met told e = absurd told
  commit_locks attempt at _ told e = absurd (false≢true e)

  txn_locks : (at : TxnPoint) (opened : Option Open) (end : Answer) → TxnTells shape word before after opened at end
      → is_open_after true end ≡ true → KeepsLocks opened after.txn
  txn_locks at None end told e = absurd told
  txn_locks (Finding op passed) (Some attempt) (answer.Txn end) told e =
      op_locks attempt (Finding op passed) op end told e
  txn_locks (Reading op position at) (Some attempt) (answer.Txn end) told e =
      op_locks attempt (Reading op position at) op end told e
  txn_locks (Claiming op at) (Some attempt) (answer.Txn end) told e = op_locks attempt (Claiming op at) op end told e
  txn_locks (Committing at) (Some attempt) (answer.Txn end) told e = commit_locks attempt at end told e
  txn_locks at (Some attempt) _ told e = absurd told

  scan_locks : (table low high : ℕ) (opened : Option Open) (end : Answer)
      → ScanTells shape word before after opened table low high end → is_open_after true end ≡ true
      → KeepsLocks opened after.txn
  scan_locks table low high None end told e = absurd told
  scan_locks table low high (Some attempt) (answer.Scanned number) told e =
      subst (KeepsLocks (Some attempt)) (sym told.0.opened) (omega arith)
  scan_locks table low high (Some attempt) (answer.Txn (txn_answer.TooOld worker entry horizon)) told e =
      absurd (false≢true e)
  scan_locks table low high (Some attempt) (answer.Txn txn_answer.Astray) told e = absurd (false≢true e)
  scan_locks table low high (Some attempt) _ told e = absurd told

  -- where a transaction was open and is
  pub answer_locks : (place : CallPoint) (end : Answer) → IsOpenAt before.txn place
      → AnswerTells shape word before after place end → is_some before.txn ≡ true
      → is_open_after (is_some before.txn) end ≡ true → KeepsLocks before.txn after.txn
  answer_locks (InTxn at) end stands told some e =
      txn_locks at before.txn end told (subst (λ was. is_open_after was end ≡ true) some e)
  answer_locks (Scanning table low high at) end stands told some e =
      scan_locks table low high before.txn end told (subst (λ was. is_open_after was end ≡ true) some e)
  answer_locks (Beginning txn nth at) end stands told some e = absurd (false≢true (sym stands ∙ some))
  answer_locks (Seeking table key passed) end stands told some e = absurd (false≢true (sym stands ∙ some))
  answer_locks (Moving table key position at) end stands told some e = absurd (false≢true (sym stands ∙ some))
  answer_locks (Snapping bucket at) end stands told some e = absurd (false≢true (sym stands ∙ some))
  answer_locks (Collecting bucket prefix seen at) end stands told some e = absurd (false≢true (sym stands ∙ some))

-- 2. What a call lists that is answered as it is asked

module _ (shape : Shape) (keys : ℕ) (before after : ClientState) where
  own_lists : (attempt : Open) (op : Op) → is_scan op ≡ false → (end : TxnAnswer)
      → OwnTells shape before after attempt op end
      → Listed 1 (ended keys true (has_passed end)) 0 before.log after.log
  own_lists attempt op one txn_answer.Declined told =
      ended_more _ _ _ before.log after.log _ _ (found_few op _ one) told.log
  own_lists attempt op one (txn_answer.Value value) told =
      reads_more _ _ _ before.log after.log _ (found_few op _ one) told.log
  own_lists attempt op one _ told = reads_more _ _ _ before.log after.log _ (found_few op _ one) told.log

  own_locks : (attempt : Open) (op : Op) (end : TxnAnswer) → OwnTells shape before after attempt op end
      → has_passed end ≡ true → KeepsLocks (Some attempt) after.txn
  own_locks attempt op txn_answer.Declined told e = absurd (false≢true e)
  own_locks attempt op _ told e = subst (KeepsLocks (Some attempt)) (sym told.opened) (omega arith)

-- 3. A call that goes on lists nothing but a commit's locks, and a collection's snapshot

-- a collection has listed its snapshot
abbrev pub collects_snap : Option (Now CallPoint Answer) → ℕ
collects_snap (Some (At (Collecting bucket prefix seen at))) = 1
collects_snap _ = 0

pub record SameLists (before after : ClientState) : Type 0 where
  pub reads : after.log.reads ≡ before.log.reads
  pub writes : after.log.writes ≡ before.log.writes
  pub locks : length after.log.locks + open_locks before.txn ≡ length before.log.locks + open_locks after.txn
  pub snaps : length after.log.snaps + collects_snap before.call ≡ length before.log.snaps + collects_snap after.call

abbrev pub NowSame : ClientState → ClientState → Option (Now CallPoint Answer) → Type 0
NowSame before after (Some (At place)) = SameLists before after
NowSame before after _ = Unit {0}

abbrev pub Same : ClientState → ClientState → Type 0
Same before after = NowSame before after after.call

stepped_same : (client : ClientState) (attempt again : Open) (before : ℕ) (step : Stepped)
    → again.locks ≡ attempt.locks → collects_snap client.call ≡ 0
    → Same (record client { txn = Some attempt }) (stepped (record client { txn = Some attempt }) again before step)
stepped_same client attempt again before step same none =
    stepped_goes (Same (record client { txn = Some attempt })) (record client { txn = Some attempt }) again before step
    (λ place e. let new = new_locks step.state before (taken_now step.state step.call) in
    record {
      reads = refl;
      writes = refl;
      locks = (let l = length-append client.log.locks new in omega arith);
      snaps = omega arith;
    })
    (λ end e. tt)

module _ (shape : Shape) (found : ℕ) where
  take_txn_same : (client : ClientState) (at : TxnPoint) (opened : Option Open)
      → let c = record client { call = Some (At (InTxn at)); txn = opened } in IsSome opened
      → Same c (take_txn shape c at opened found)
  take_txn_same client at None some = absurd (cc)
  take_txn_same client at (Some attempt) some =
      stepped_same (record client { call = Some (At (InTxn at)) }) attempt attempt _ _ refl refl

  take_scan_same : (client : ClientState) (table low high : ℕ) (at : ScanPoint) (opened : Option Open)
      → let c = record client { call = Some (At (Scanning table low high at)); txn = opened } in IsSome opened
      → Same c (take_scan shape c table low high at opened found)
  take_scan_same client table low high at None some = absurd (cc)
  take_scan_same client table low high at (Some attempt) some =
      let c = record client { call = Some (At (Scanning table low high at)); txn = Some attempt } in
      scan_goes (Same c) shape c attempt table low high _ _
      (λ next e. record { reads = refl; writes = refl; locks = refl; snaps = refl })
      (λ key e. record { reads = refl; writes = refl; locks = refl; snaps = refl })
      (λ rows e. record { reads = refl; writes = refl; locks = refl; snaps = refl }) (λ rows. tt) (λ how end e. tt)

  pub word_same : (client : ClientState) (place : CallPoint) → IsOpenAt client.txn place
      → Same (go client place) (call_after shape (go client place) place found)
  word_same client (Beginning txn nth at) stands =
      let c = go client (Beginning txn nth at) in
      begin_goes (Same c) shape c txn nth _
      (λ next e. record { reads = refl; writes = refl; locks = refl; snaps = refl }) (λ seen e. tt)
      (λ worker first second e. tt)
  word_same client (InTxn at) stands = take_txn_same client at client.txn stands
  word_same client (Scanning table low high at) stands = take_scan_same client table low high at client.txn stands
  word_same client (Seeking table key passed) stands =
      let c = go client (Seeking table key passed) in
      seek_goes (Same c) shape c table key _
      (λ next e. record { reads = refl; writes = refl; locks = refl; snaps = refl })
      (λ position e. record { reads = refl; writes = refl; locks = refl; snaps = refl }) (λ e. tt)
  word_same client (Moving table key position at) stands =
      let c = go client (Moving table key position at) in
      move_goes (Same c) shape c table key position _ _
      (λ next e. record { reads = refl; writes = refl; locks = refl; snaps = refl }) (λ stamp e. tt) (λ stamp e. tt)
      (λ e. tt) (λ full e. tt)
  word_same client (Snapping bucket at) stands =
      let c = go client (Snapping bucket at) in
      snap_goes (Same c) shape c bucket _
      (λ next e. record { reads = refl; writes = refl; locks = refl; snaps = refl })
      (λ seen e. record {
        reads = refl;
        writes = refl;
        locks = refl;
        snaps = (let l = length_push client.log.snaps seen in omega arith);
      })
      (λ worker first second e. tt)
  word_same client (Collecting bucket prefix seen at) stands =
      let c = go client (Collecting bucket prefix seen at) in
      collect_goes (Same c) shape c bucket prefix seen _
      (λ next e. record { reads = refl; writes = refl; locks = refl; snaps = refl }) (λ known e. tt)

-- 4. A call is asked

module _ (shape : Shape) (keys : ℕ) (before after : ClientState) where
  abbrev asked_paid : Option Open → Answer → ℕ
  asked_paid opened end = ended keys (is_some opened) (is_open_after (is_some opened) end)

  commit_asked_lists : (attempt : Open) (end : TxnAnswer) → CommitAskTells shape before after attempt end
      → Listed 0 (ended keys true (has_passed end)) 0 before.log after.log
  commit_asked_lists attempt txn_answer.ReadOnly told = event_more _ _ _ before.log after.log _ told.1
  commit_asked_lists attempt txn_answer.Spent told = event_more _ _ _ before.log after.log _ told.2
  commit_asked_lists attempt _ told = absurd told

  commit_asked_passes : (attempt : Open) (end : TxnAnswer) → CommitAskTells shape before after attempt end
      → has_passed end ≡ false
  commit_asked_passes attempt txn_answer.ReadOnly told = refl
  commit_asked_passes attempt txn_answer.Spent told = refl
  commit_asked_passes attempt _ told = absurd told

  txn_asked_lists : (asked : TxnCall) (opened : Option Open) (end : Answer)
      → OpenAskTells shape before after asked opened end
      → Listed (call_room shape (call.Txn asked)).ops (asked_paid opened end) 0 before.log after.log
  txn_asked_lists asked None end told = absurd told
  txn_asked_lists (Get t k) (Some attempt) (answer.Txn end) told =
      own_lists shape keys before after (with_call attempt (Get t k)) (op.Get t k) refl end told.1
  txn_asked_lists (Put t k v) (Some attempt) (answer.Txn end) told =
      own_lists shape keys before after (with_call attempt (Put t k v)) (op.Put t k v) refl end told.1
  txn_asked_lists (Add t k f up by) (Some attempt) (answer.Txn end) told =
      own_lists shape keys before after (with_call attempt (Add t k f up by)) (op.Add t k f up by) refl end told.1
  txn_asked_lists (Del t k) (Some attempt) (answer.Txn end) told =
      own_lists shape keys before after (with_call attempt (Del t k)) (op.Del t k) refl end told.1
  txn_asked_lists (Need t k f least) (Some attempt) (answer.Txn end) told =
      own_lists shape keys before after (with_call attempt (Need t k f least)) (op.Need t k f least) refl end told.1
  txn_asked_lists (Guard t k) (Some attempt) (answer.Txn end) told =
      own_lists shape keys before after (with_call attempt (Guard t k)) (op.Guard t k) refl end told.1
  txn_asked_lists Commit (Some attempt) (answer.Txn end) told = commit_asked_lists attempt end told
  txn_asked_lists asked (Some attempt) _ told = absurd told

  pub asked_lists : (asked : Call) (end : Answer) → AskTells shape before after asked end
      → Listed (call_room shape asked).ops (asked_paid before.txn end) 0 before.log after.log
  asked_lists (call.Txn asked) end told = txn_asked_lists asked before.txn end told
  asked_lists _ end told = absurd told

  txn_asked_locks : (asked : TxnCall) (opened : Option Open) (end : Answer)
      → OpenAskTells shape before after asked opened end → is_open_after true end ≡ true → KeepsLocks opened after.txn
  txn_asked_locks asked None end told e = absurd told
  txn_asked_locks (Get t k) (Some attempt) (answer.Txn end) told e =
      own_locks shape keys before after (with_call attempt (Get t k)) (op.Get t k) end told.1 e
  txn_asked_locks (Put t k v) (Some attempt) (answer.Txn end) told e =
      own_locks shape keys before after (with_call attempt (Put t k v)) (op.Put t k v) end told.1 e
  txn_asked_locks (Add t k f up by) (Some attempt) (answer.Txn end) told e =
      own_locks shape keys before after (with_call attempt (Add t k f up by)) (op.Add t k f up by) end told.1 e
  txn_asked_locks (Del t k) (Some attempt) (answer.Txn end) told e =
      own_locks shape keys before after (with_call attempt (Del t k)) (op.Del t k) end told.1 e
  txn_asked_locks (Need t k f least) (Some attempt) (answer.Txn end) told e =
      own_locks shape keys before after (with_call attempt (Need t k f least)) (op.Need t k f least) end told.1 e
  txn_asked_locks (Guard t k) (Some attempt) (answer.Txn end) told e =
      own_locks shape keys before after (with_call attempt (Guard t k)) (op.Guard t k) end told.1 e
  txn_asked_locks Commit (Some attempt) (answer.Txn end) told e =
      absurd (false≢true (sym (commit_asked_passes attempt end told) ∙ e))
  txn_asked_locks asked (Some attempt) _ told e = absurd told

  pub asked_locks : (asked : Call) (end : Answer) → AskTells shape before after asked end
      → is_some before.txn ≡ true → is_open_after (is_some before.txn) end ≡ true → KeepsLocks before.txn after.txn
  asked_locks (call.Txn asked) end told some e =
      txn_asked_locks asked before.txn end told (subst (λ was. is_open_after was end ≡ true) some e)
  asked_locks _ end told some e = absurd told

pub rests_snap : (now : Option (Now CallPoint Answer)) → Rests now → collects_snap now ≡ 0
rests_snap None rests = refl
rests_snap (Some (Over end)) rests = refl
rests_snap (Some (At place)) rests = absurd rests

module _ (shape : Shape) where
  ask_txn_same : (client : ClientState) (asked : TxnCall) (opened : Option Open) → collects_snap client.call ≡ 0
      → IsSome opened
      → let c = record client { txn = opened } in Same c (ask_txn shape c asked opened)
  ask_txn_same client asked None none some = absurd (cc)
  ask_txn_same client (Get t k) (Some attempt) none some =
      stepped_same client attempt (with_call attempt (Get t k)) 0 _ refl none
  ask_txn_same client (Put t k v) (Some attempt) none some =
      stepped_same client attempt (with_call attempt (Put t k v)) 0 _ refl none
  ask_txn_same client (Add t k f up by) (Some attempt) none some =
      stepped_same client attempt (with_call attempt (Add t k f up by)) 0 _ refl none
  ask_txn_same client (Del t k) (Some attempt) none some =
      stepped_same client attempt (with_call attempt (Del t k)) 0 _ refl none
  ask_txn_same client (Need t k f least) (Some attempt) none some =
      stepped_same client attempt (with_call attempt (Need t k f least)) 0 _ refl none
  ask_txn_same client (Guard t k) (Some attempt) none some =
      stepped_same client attempt (with_call attempt (Guard t k)) 0 _ refl none
  ask_txn_same client Commit (Some attempt) none some = stepped_same client attempt attempt 0 _ refl none

  ask_scan_same : (client : ClientState) (table low high : ℕ) (opened : Option Open)
      → collects_snap client.call ≡ 0 → IsSome opened
      → let c = record client { txn = opened } in Same c (ask_scan shape c table low high opened)
  ask_scan_same client table low high None none some = absurd (cc)
  ask_scan_same client table low high (Some attempt) none some =
      record { reads = refl; writes = refl; locks = refl; snaps = omega arith }

  pub ask_same : (client : ClientState) (asked : Call) → Rests client.call → CallFits shape client.txn asked
      → Same client (client_ask shape client asked)
  ask_same client (call.Begin txn nth) rests fits =
      let none = rests_snap client.call rests in
      record { reads = refl; writes = refl; locks = refl; snaps = omega arith }
  ask_same client (call.Txn asked) rests fits =
      ask_txn_same client asked client.txn (rests_snap client.call rests) (some_open shape client.txn asked fits)
  ask_same client (call.Scan table low high) rests fits =
      ask_scan_same client table low high client.txn (rests_snap client.call rests) fits.0
  ask_same client (call.Tidy table key) rests fits =
      let none = rests_snap client.call rests in
      record { reads = refl; writes = refl; locks = refl; snaps = omega arith }
  ask_same client (call.Collect bucket) rests fits =
      let none = rests_snap client.call rests in
      record { reads = refl; writes = refl; locks = refl; snaps = omega arith }

-- 5. A client is closed: only a commit that has published lists its writes then

abbrev pub closing_writes : ℕ → Option (Now CallPoint Answer) → ℕ
closing_writes keys (Some (At (InTxn (Committing at)))) = keys
closing_writes keys _ = 0

abbrev pub WritesNow : ℕ → Option Open → Option (Now CallPoint Answer) → Type 0
WritesNow keys opened (Some (At place)) = WritesWithin keys opened place
WritesNow keys opened _ = Unit {0}

module _ (shape : Shape) (keys : ℕ) (client : ClientState) where
  abbrev Closed : Option (Now CallPoint Answer) → ClientState → Type 0
  Closed now after = Listed 0 (closing_writes keys now) 0 client.log after.log

  ended_closed : (now : Option (Now CallPoint Answer)) (opened : Option Open) → Closed now (left_open client opened)
  ended_closed now None = no_more _ _ _ client.log client.log refl
  ended_closed now (Some attempt) = event_more _ _ _ client.log _ _ refl

  tail_closed : (attempt : Open) (at : CommitPoint) → length attempt.state.writes ≤ keys
      → Closed (Some (At (InTxn (Committing at)))) (cut_tail client attempt)
  tail_closed attempt at few = record {
    reads = omega arith;
    writes = (let l = length-append client.log.writes attempt.state.writes in omega arith);
    locks = refl;
    snaps = omega arith;
  }

  commit_closed : (attempt : Open) (at : CommitPoint) → length attempt.state.writes ≤ keys
      → Closed (Some (At (InTxn (Committing at)))) (cut_in_txn client attempt (Committing at))
  commit_closed attempt (Freeing nth) few = tail_closed attempt (Freeing nth) few
  commit_closed attempt Ending few = tail_closed attempt Ending few
  commit_closed attempt _ few = event_more _ _ _ client.log _ _ refl

  cut_closed : (at : TxnPoint) (opened : Option Open) → WritesWithin keys opened (InTxn at)
      → Closed (Some (At (InTxn at))) (cut_open client at opened)
  cut_closed at None few = no_more _ _ _ client.log client.log refl
  cut_closed (Committing at) (Some attempt) few = commit_closed attempt at few
  cut_closed (Finding op passed) (Some attempt) few = event_more _ _ _ client.log _ _ refl
  cut_closed (Reading op position at) (Some attempt) few = event_more _ _ _ client.log _ _ refl
  cut_closed (Claiming op at) (Some attempt) few = event_more _ _ _ client.log _ _ refl

  move_closed : (now : Option (Now CallPoint Answer)) (table key bucket : ℕ) (stamp : Option Stamp)
      → Closed now (cut_move client table key bucket stamp)
  move_closed now table key bucket None = event_more _ _ _ client.log _ _ refl
  move_closed now table key bucket (Some stamp) = event_more _ _ _ client.log _ _ refl

  closed_lists : (now : Option (Now CallPoint Answer)) → WritesNow keys client.txn now
      → Closed now (closed_call shape client now)
  closed_lists None few = ended_closed None client.txn
  closed_lists (Some (Over end)) few = ended_closed (Some (Over end)) client.txn
  closed_lists (Some (At (Beginning txn nth at))) few = event_more _ _ _ client.log _ _ refl
  closed_lists (Some (At (InTxn at))) few = cut_closed at client.txn few
  closed_lists (Some (At (Scanning table low high at))) few =
      ended_closed (Some (At (Scanning table low high at))) client.txn
  closed_lists (Some (At (Seeking table key passed))) few = event_more _ _ _ client.log _ _ refl
  closed_lists (Some (At (Moving table key position at))) few =
      let place = place_of shape table position in
      move_closed (Some (At (Moving table key position at))) table key (bucket_of shape place.row)
      (move_claimed place at)
  closed_lists (Some (At (Snapping bucket at))) few = event_more _ _ _ client.log _ _ refl
  closed_lists (Some (At (Collecting bucket prefix seen at))) few = event_more _ _ _ client.log _ _ refl

  -- the medic has finished it
  more_event : (now : Option (Now CallPoint Answer)) (after : ClientState) (event : Event) → Closed now after
      → Closed now (with_listed after event)
  more_event now after event l = record { reads = l.reads; writes = l.writes; locks = l.locks; snaps = l.snaps }

  finished_closed : (at : TxnPoint) (how : Finish) (opened : Option Open) → WritesWithin keys opened (InTxn at)
      → Closed (Some (At (InTxn at))) (finished_in_txn client at how opened)
  finished_closed at how None few = no_more _ _ _ client.log client.log refl
  finished_closed (Committing at) how (Some attempt) few =
      either (Closed (Some (At (InTxn (Committing at))))) (has_committed (Committing at) how)
      (with_commit client attempt (attempt.state.last + 1)) (with_end client attempt outcome.Cut)
      (record {
        reads = omega arith;
        writes = (let l = length-append client.log.writes attempt.state.writes in omega arith);
        locks = refl;
        snaps = omega arith;
      })
      (event_more _ _ _ client.log _ _ refl)
  finished_closed (Finding op passed) how (Some attempt) few = event_more _ _ _ client.log _ _ refl
  finished_closed (Reading op position at) how (Some attempt) few = event_more _ _ _ client.log _ _ refl
  finished_closed (Claiming op at) how (Some attempt) few = event_more _ _ _ client.log _ _ refl

  finished_lists : (how : Finish) (now : Option (Now CallPoint Answer)) → WritesNow keys client.txn now
      → Closed now (finished_call shape client how now)
  finished_lists how (Some (At (InTxn at))) few = finished_closed at how client.txn few
  finished_lists how now few = closed_lists now few

  pub log_lists : (finish : Option Finish) (now : Option (Now CallPoint Answer)) → WritesNow keys client.txn now
      → Closed now (closed_client shape client finish now)
  log_lists None now few = closed_lists now few
  log_lists (Some how) now few =
      more_event now (finished_call shape client how now) (Finished how) (finished_lists how now few)
