-- A client's log only grows, case by case of what the client does.
use Rattle.std.proofs.Common.{ℕ, ◌+◌, List, [], ◌∷◌, ◌++◌, length, Option, Some, None, refl, sym, ◌∙◌, ap}
use Rattle.std.proofs.lemmas.Bool.{cond_both}
use Rattle.std.proofs.lemmas.List.{append-nil, append_assoc}
use Rattle.si_model.specs.Lists.{IsFront}
use Rattle.si_model.specs.declared.row.Item.{Item}
use Rattle.si_model.specs.declared.log.Lock.{Lock}
use Rattle.si_model.specs.declared.log.Outcome.{Outcome}
use Rattle.si_model.specs.declared.log.Event.{Event}
use Rattle.si_model.specs.declared.log.Event.TheVariants.{TailCut, Finished}
use Rattle.si_model.specs.declared.log.Finish.{Finish}
use Rattle.si_model.specs.declared.log.Outcome.TheVariants as outcome
use Rattle.nam_calls.proofs.FallsTests.{either}
use Rattle.si_model.specs.declared.log.Stamp.{Stamp}
use Rattle.si_model.specs.declared.log.Log.{Log}
use Rattle.si_model.specs.Rows.{key_at, writes_key}
use Rattle.nam_verbs.specs.declared.now.Now.{Now}
use Rattle.nam_verbs.specs.declared.now.Now.TheVariants.{At, Over}
use Rattle.nam_catalog.specs.declared.shape.Shape.{Shape}
use Rattle.nam_vector.specs.declared.snap.SnapPoint.{SnapPoint}
use Rattle.nam_vector.specs.declared.snap.SnapEnd.{SnapEnd}
use Rattle.nam_vector.specs.declared.snap.SnapEnd.TheVariants as snap_end
use Rattle.nam_calls.specs.declared.index.FindEnd.{FindEnd}
use Rattle.nam_calls.specs.declared.horizon.CollectPoint.{CollectPoint}
use Rattle.nam_calls.specs.declared.mover.MovePoint.{MovePoint}
use Rattle.nam_calls.specs.declared.mover.MoveAnswer.{MoveAnswer}
use Rattle.nam_calls.specs.declared.index.FindEnd.TheVariants as found_key
use Rattle.nam_calls.specs.declared.mover.MoveAnswer.TheVariants as move_end
use Rattle.nam_protocol.specs.Txn.{Stepped}
use Rattle.nam_protocol.specs.declared.txn.TxnCall.{TxnCall}
use Rattle.nam_protocol.specs.declared.txn.TxnPoint.{TxnPoint}
use Rattle.nam_protocol.specs.declared.txn.TxnPoint.TheVariants.{Committing}
use Rattle.nam_protocol.specs.declared.txn.CommitPoint.TheVariants.{Freeing, Ending}
use Rattle.nam_protocol.specs.declared.txn.TxnAnswer.{TxnAnswer}
use Rattle.nam_protocol.specs.declared.scan.ScanPoint.{ScanPoint}
use Rattle.nam_protocol.specs.declared.scan.ScanAnswer.{ScanAnswer}
use Rattle.nam_protocol.specs.declared.client.Call.{Call}
use Rattle.nam_protocol.specs.declared.client.Call.TheVariants.{Begin, Txn, Scan, Tidy, Collect}
use Rattle.nam_protocol.specs.declared.client.Answer.{Answer}
use Rattle.nam_protocol.specs.declared.client.CallPoint.{CallPoint}
use Rattle.nam_protocol.specs.declared.client.CallPoint.TheVariants.{Beginning, InTxn, Scanning, Seeking, Moving}
use Rattle.nam_protocol.specs.declared.client.CallPoint.TheVariants.{Snapping, Collecting}
use Rattle.nam_protocol.specs.declared.client.Open.{Open}
use Rattle.nam_protocol.specs.declared.client.ClientState.{ClientState}
use Rattle.nam_protocol.specs.Operations.{own_value}
use Rattle.nam_protocol.specs.TxnCalls.{taken_now}
use Rattle.nam_protocol.specs.Scan.{scan_skip, scan_read}
use Rattle.nam_protocol.specs.Log.{with_event, with_reads, with_locks, with_writes, with_snap}
use Rattle.nam_protocol.specs.Telling.{read_ended, items_of, new_locks, with_commit, on_answer, on_call, stepped}
use Rattle.nam_protocol.specs.Telling.{with_end}
use Rattle.nam_protocol.specs.ScanCall.{with_gathered, on_skip, on_key, on_scan}
use Rattle.nam_protocol.specs.Client.{with_call, ask_txn, ask_scan, client_ask, on_begin, on_seek, on_move, on_snap}
use Rattle.nam_protocol.specs.Client.{on_collect, take_txn, take_scan, call_after, after_call, client_after}
use Rattle.nam_protocol.specs.Client.{abandon_open, client_abandon}
use Rattle.nam_protocol.specs.CutClient.{cut_in_txn, cut_open, left_open, cut_move, cut_call, closed_call}
use Rattle.nam_protocol.specs.CutClient.{finish_of, has_committed, finished_in_txn, finished_call}
use Rattle.nam_protocol.specs.CutClient.{closed_client}
use Rattle.nam_protocol.specs.Grows.{Grows, LogsGrow}
use Rattle.nam_protocol.specs.declared.txn.TxnAnswer.TheVariants as txn_answer
use Rattle.nam_protocol.specs.declared.scan.ScanAnswer.TheVariants as scan_answer

-- 1. Lists and logs

module _ {A : Type 0} where
  same : (xs : List A) → IsFront xs xs
  same xs = ([], append-nil xs)

  more : (xs ys : List A) → IsFront xs (xs ++ ys)
  more xs ys = (ys, refl)

  front_trans : (xs ys zs : List A) → IsFront xs ys → IsFront ys zs → IsFront xs zs
  front_trans xs ys zs f g = (f.0 ++ g.0, sym (append_assoc xs f.0 g.0) ∙ ap (λ k. k ++ g.0) f.1 ∙ g.1)

pub grows_same : (log : Log) → Grows log log
grows_same log =
    record {
      events = same log.events;
      reads = same log.reads;
      locks = same log.locks;
      writes = same log.writes;
      snaps = same log.snaps;
    }

pub grows_trans : (a b c : Log) → Grows a b → Grows b c → Grows a c
grows_trans a b c f g = record {
  events = front_trans a.events b.events c.events f.events g.events;
  reads = front_trans a.reads b.reads c.reads f.reads g.reads;
  locks = front_trans a.locks b.locks c.locks f.locks g.locks;
  writes = front_trans a.writes b.writes c.writes f.writes g.writes;
  snaps = front_trans a.snaps b.snaps c.snaps f.snaps g.snaps;
}

pub event_grows : (log : Log) (event : Event) → Grows log (with_event log event)
event_grows log event =
    record {
      events = more log.events
          (event ∷ []);
      reads = same log.reads;
      locks = same log.locks;
      writes = same log.writes;
      snaps = same log.snaps;
    }

pub reads_grow : (log : Log) (items : List Item) → Grows log (with_reads log items)
reads_grow log items =
    record {
      events = same log.events;
      reads = more log.reads items;
      locks = same log.locks;
      writes = same log.writes;
      snaps = same log.snaps;
    }

pub locks_grow : (log : Log) (locks : List Lock) → Grows log (with_locks log locks)
locks_grow log locks =
    record {
      events = same log.events;
      reads = same log.reads;
      locks = more log.locks locks;
      writes = same log.writes;
      snaps = same log.snaps;
    }

pub writes_grow : (log : Log) (items : List Item) → Grows log (with_writes log items)
writes_grow log items =
    record {
      events = same log.events;
      reads = same log.reads;
      locks = same log.locks;
      writes = more log.writes items;
      snaps = same log.snaps;
    }

pub snap_grows : (log : Log) (seen : List ℕ) → Grows log (with_snap log seen)
snap_grows log seen =
    record {
      events = same log.events;
      reads = same log.reads;
      locks = same log.locks;
      writes = same log.writes;
      snaps = more log.snaps (seen ∷ []);
    }

-- 2. What a transaction's call lists

committed_grows : (client : ClientState) (attempt : Open) (number : ℕ)
    → Grows client.log (with_commit client attempt number).log
committed_grows client attempt number =
    grows_trans client.log (with_event client.log _) _ (event_grows client.log _)
    (writes_grow (with_event client.log _) attempt.state.writes)

-- what was read is listed, and then that the attempt has ended
read_ended_grows : (client : ClientState) (attempt : Open) (items : List Item) (outcome : Outcome)
    → Grows client.log (read_ended client attempt items outcome).log
read_ended_grows client attempt items outcome =
    grows_trans client.log (with_reads client.log items) _ (reads_grow client.log items)
    (event_grows (with_reads client.log items) _)

answer_grows : (client : ClientState) (attempt : Open) (answer : TxnAnswer)
    → Grows client.log (on_answer client attempt answer).log
answer_grows client attempt (txn_answer.Value value) = reads_grow client.log (items_of attempt.state.read)
answer_grows client attempt txn_answer.Written = reads_grow client.log (items_of attempt.state.read)
answer_grows client attempt (txn_answer.Added n) = reads_grow client.log (items_of attempt.state.read)
answer_grows client attempt txn_answer.Met = reads_grow client.log (items_of attempt.state.read)
answer_grows client attempt (txn_answer.Committed number) = committed_grows client attempt number
answer_grows client attempt (txn_answer.NoSpace table) = read_ended_grows client attempt (items_of attempt.state.read) _
answer_grows client attempt txn_answer.Declined = read_ended_grows client attempt (items_of attempt.state.read) _
answer_grows client attempt answer = event_grows client.log _

on_call_grows : (client : ClientState) (attempt : Open) (call : Now TxnPoint TxnAnswer)
    → Grows client.log (on_call client attempt call).log
on_call_grows client attempt (At place) = grows_same client.log
on_call_grows client attempt (Over answer) = answer_grows client attempt answer

stepped_grows : (client : ClientState) (attempt : Open) (before : ℕ) (step : Stepped)
    → Grows client.log (stepped client attempt before step).log
stepped_grows client attempt before step =
    let locks = new_locks step.state before (taken_now step.state step.call) in
    let log = with_locks client.log locks in
    grows_trans client.log log _ (locks_grow client.log locks)
    (on_call_grows (record client { log = log })
    (record attempt { locks = attempt.locks + length locks; state = step.state }) step.call)

-- 3. What a scan lists

gathered_grows : (client : ClientState) (position key : ℕ) (value : Option (List ℕ))
    → Grows client.log (with_gathered client position key value).log
gathered_grows client position key None = grows_same client.log
gathered_grows client position key (Some value) = grows_same client.log

module _ (shape : Shape) where
  skip_grows : (client : ClientState) (attempt : Open) (table low high : ℕ) (now : Now ScanPoint ScanAnswer)
      → Grows client.log (on_skip client attempt table low high now).log
  skip_grows client attempt table low high (At place) = grows_same client.log
  skip_grows client attempt table low high (Over end) = reads_grow client.log _

  gathered_skip_grows : (client : ClientState) (attempt : Open) (table low high position key : ℕ)
      (value : Option (List ℕ))
      (now : Now ScanPoint ScanAnswer)
      → Grows client.log (on_skip (with_gathered client position key value) attempt table low high now).log
  gathered_skip_grows client attempt table low high position key value now =
      let more = with_gathered client position key value in
      grows_trans client.log more.log _ (gathered_grows client position key value)
      (skip_grows more attempt table low high now)

  key_grows : (client : ClientState) (attempt : Open) (table low high position key : ℕ)
      → Grows client.log (on_key shape client attempt table low high position key).log
  key_grows client attempt table low high position key =
      let own = key_at table key in
      cond_both (writes_key attempt.state.writes own) _ _ (λ (c : ClientState). Grows client.log c.log)
      (λ e. gathered_skip_grows client attempt table low high position key (own_value attempt.state.writes own)
      (scan_skip shape table position))
      (λ e. skip_grows client attempt table low high (scan_read position key))

  scan_grows : (client : ClientState) (attempt : Open) (table low high position : ℕ) (now : Now ScanPoint ScanAnswer)
      → Grows client.log (on_scan shape client attempt table low high position now).log
  scan_grows client attempt table low high position (At place) = grows_same client.log
  scan_grows client attempt table low high position (Over (scan_answer.Key key)) =
      key_grows client attempt table low high position key
  scan_grows client attempt table low high position (Over (scan_answer.Row item)) =
      gathered_skip_grows client attempt table low high position item.key item.value (scan_skip shape table position)
  scan_grows client attempt table low high position (Over scan_answer.Done) = reads_grow client.log _
  scan_grows client attempt table low high position (Over (scan_answer.TooOld worker entry horizon)) =
      event_grows client.log _
  scan_grows client attempt table low high position (Over scan_answer.Astray) = event_grows client.log _

  -- 4. What the other calls list

  begin_grows : (client : ClientState) (txn nth : ℕ) (now : Now SnapPoint SnapEnd)
      → Grows client.log (on_begin shape client txn nth now).log
  begin_grows client txn nth (At place) = grows_same client.log
  begin_grows client txn nth (Over (snap_end.Done seen)) = snap_grows client.log seen
  begin_grows client txn nth (Over (snap_end.Again worker first second)) = event_grows client.log _

  seek_grows : (client : ClientState) (table key : ℕ) (now : Now ℕ FindEnd)
      → Grows client.log (on_seek shape client table key now).log
  seek_grows client table key (At passed) = grows_same client.log
  seek_grows client table key (Over (found_key.At position)) = grows_same client.log
  seek_grows client table key (Over found_key.Absent) = grows_same client.log

  move_grows : (client : ClientState) (table key position bucket : ℕ) (now : Now MovePoint MoveAnswer)
      → Grows client.log (on_move shape client table key position bucket now).log
  move_grows client table key position bucket (At place) = grows_same client.log
  move_grows client table key position bucket (Over move_end.Nothing) = grows_same client.log
  move_grows client table key position bucket (Over (move_end.Moved stamp)) = event_grows client.log _
  move_grows client table key position bucket (Over (move_end.Back stamp)) = event_grows client.log _
  move_grows client table key position bucket (Over (move_end.NoRoom full)) = event_grows client.log _

  collect_snap_grows : (client : ClientState) (bucket : ℕ) (now : Now SnapPoint SnapEnd)
      → Grows client.log (on_snap shape client bucket now).log
  collect_snap_grows client bucket (At place) = grows_same client.log
  collect_snap_grows client bucket (Over (snap_end.Done seen)) = snap_grows client.log seen
  collect_snap_grows client bucket (Over (snap_end.Again worker first second)) = event_grows client.log _

  collect_grows : (client : ClientState) (bucket prefix : ℕ) (seen : List ℕ) (now : Now CollectPoint (List ℕ))
      → Grows client.log (on_collect shape client bucket prefix seen now).log
  collect_grows client bucket prefix seen (At place) = grows_same client.log
  collect_grows client bucket prefix seen (Over known) = event_grows client.log _

  -- 5. A word is taken

  take_txn_grows : (client : ClientState) (at : TxnPoint) (txn : Option Open) (found : ℕ)
      → Grows client.log (take_txn shape client at txn found).log
  take_txn_grows client at None found = grows_same client.log
  take_txn_grows client at (Some attempt) found = stepped_grows client attempt _ _

  take_scan_grows : (client : ClientState) (table low high : ℕ) (at : ScanPoint) (txn : Option Open) (found : ℕ)
      → Grows client.log (take_scan shape client table low high at txn found).log
  take_scan_grows client table low high at None found = grows_same client.log
  take_scan_grows client table low high at (Some attempt) found = scan_grows client attempt table low high _ _

  call_grows : (client : ClientState) (place : CallPoint) (found : ℕ)
      → Grows client.log (call_after shape client place found).log
  call_grows client (Beginning txn nth at) found = begin_grows client txn nth _
  call_grows client (InTxn at) found = take_txn_grows client at client.txn found
  call_grows client (Scanning table low high at) found = take_scan_grows client table low high at client.txn found
  call_grows client (Seeking table key passed) found = seek_grows client table key _
  call_grows client (Moving table key position at) found = move_grows client table key position _ _
  call_grows client (Snapping bucket at) found = collect_snap_grows client bucket _
  call_grows client (Collecting bucket prefix seen at) found = collect_grows client bucket prefix seen _

  after_call_grows : (client : ClientState) (call : Option (Now CallPoint Answer)) (found : ℕ)
      → Grows client.log (after_call shape client call found).log
  after_call_grows client None found = grows_same client.log
  after_call_grows client (Some (At place)) found = call_grows client place found
  after_call_grows client (Some (Over answer)) found = grows_same client.log

  pub word_grows : (client : ClientState) (found : ℕ) → Grows client.log (client_after shape client found).log
  word_grows client found = after_call_grows client client.call found

  -- 6. A call is asked, or the transaction given up

  ask_txn_grows : (client : ClientState) (call : TxnCall) (txn : Option Open)
      → Grows client.log (ask_txn shape client call txn).log
  ask_txn_grows client call None = grows_same client.log
  ask_txn_grows client call (Some attempt) = stepped_grows client (with_call attempt call) 0 _

  ask_scan_grows : (client : ClientState) (table low high : ℕ) (txn : Option Open)
      → Grows client.log (ask_scan shape client table low high txn).log
  ask_scan_grows client table low high None = grows_same client.log
  ask_scan_grows client table low high (Some attempt) = grows_same client.log

  pub ask_grows : (client : ClientState) (call : Call) → Grows client.log (client_ask shape client call).log
  ask_grows client (Begin txn nth) = grows_same client.log
  ask_grows client (Txn call) = ask_txn_grows client call client.txn
  ask_grows client (Scan table low high) = ask_scan_grows client table low high client.txn
  ask_grows client (Tidy table key) = grows_same client.log
  ask_grows client (Collect bucket) = grows_same client.log

abandon_open_grows : (client : ClientState) (txn : Option Open) → Grows client.log (abandon_open client txn).log
abandon_open_grows client None = grows_same client.log
abandon_open_grows client (Some attempt) = event_grows client.log _

pub abandon_grows : (client : ClientState) → Grows client.log (client_abandon client).log
abandon_grows client = abandon_open_grows client client.txn

-- 7. The client is closed

tail_cut_grows : (client : ClientState) (attempt : Open)
    → Grows client.log (with_event (with_commit client attempt (attempt.state.last + 1)).log TailCut)
tail_cut_grows client attempt =
    let done = with_commit client attempt (attempt.state.last + 1) in
    grows_trans client.log done.log _ (committed_grows client attempt (attempt.state.last + 1))
    (event_grows done.log TailCut)

cut_in_txn_grows : (client : ClientState) (attempt : Open) (at : TxnPoint)
    → Grows client.log (cut_in_txn client attempt at).log
cut_in_txn_grows client attempt (Committing (Freeing nth)) = tail_cut_grows client attempt
cut_in_txn_grows client attempt (Committing Ending) = tail_cut_grows client attempt
cut_in_txn_grows client attempt at = event_grows client.log _

cut_open_grows : (client : ClientState) (at : TxnPoint) (txn : Option Open)
    → Grows client.log (cut_open client at txn).log
cut_open_grows client at None = grows_same client.log
cut_open_grows client at (Some attempt) = cut_in_txn_grows client attempt at

left_open_grows : (client : ClientState) (txn : Option Open) → Grows client.log (left_open client txn).log
left_open_grows client None = grows_same client.log
left_open_grows client (Some attempt) = event_grows client.log _

cut_move_grows : (client : ClientState) (table key bucket : ℕ) (stamp : Option Stamp)
    → Grows client.log (cut_move client table key bucket stamp).log
cut_move_grows client table key bucket None = event_grows client.log _
cut_move_grows client table key bucket (Some stamp) = event_grows client.log _

module _ (shape : Shape) where
  cut_call_grows : (client : ClientState) (place : CallPoint) → Grows client.log (cut_call shape client place).log
  cut_call_grows client (Beginning txn nth at) = event_grows client.log _
  cut_call_grows client (InTxn at) = cut_open_grows client at client.txn
  cut_call_grows client (Scanning table low high at) = left_open_grows client client.txn
  cut_call_grows client (Seeking table key passed) = event_grows client.log _
  cut_call_grows client (Moving table key position at) = cut_move_grows client table key _ _
  cut_call_grows client (Snapping bucket at) = event_grows client.log _
  cut_call_grows client (Collecting bucket prefix seen at) = event_grows client.log _

  closed_call_grows : (client : ClientState) (call : Option (Now CallPoint Answer))
      → Grows client.log (closed_call shape client call).log
  closed_call_grows client None = left_open_grows client client.txn
  closed_call_grows client (Some (At place)) = cut_call_grows client place
  closed_call_grows client (Some (Over answer)) = left_open_grows client client.txn

  finished_grows : (client : ClientState) (at : TxnPoint) (how : Finish) (txn : Option Open)
      → Grows client.log (finished_in_txn client at how txn).log
  finished_grows client at how None = grows_same client.log
  finished_grows client at how (Some attempt) =
      either (λ (c : ClientState). Grows client.log c.log) (has_committed at how)
      (with_commit client attempt (attempt.state.last + 1)) (with_end client attempt outcome.Cut)
      (committed_grows client attempt (attempt.state.last + 1)) (event_grows client.log _)

  finished_call_grows : (client : ClientState) (how : Finish) (call : Option (Now CallPoint Answer))
      → Grows client.log (finished_call shape client how call).log
  finished_call_grows client how (Some (At (InTxn at))) = finished_grows client at how client.txn
  finished_call_grows client how call = closed_call_grows client call

  closed_grows : (client : ClientState) (finish : Option Finish)
      → Grows client.log (closed_client shape client finish client.call).log
  closed_grows client None = closed_call_grows client client.call
  closed_grows client (Some how) =
      let done = finished_call shape client how client.call in
      grows_trans client.log done.log _ (finished_call_grows client how client.call)
      (event_grows done.log (Finished how))

  pub logs_grow : LogsGrow shape
  logs_grow = record {
    word = word_grows shape;
    asked = ask_grows shape;
    abandoned = abandon_grows;
    cut = λ client. refl;
    closed = λ client. closed_grows client (finish_of client.medic);
  }
