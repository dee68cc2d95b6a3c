-- How many events a client lists with each word and each answer, and when a transaction is open.
use Rattle.std.proofs.Common.{◌≡◌, ℕ, ◌+◌, ◌≤◌, List, [], ◌∷◌, ◌++◌, length, length-append, refl, sym, subst}
use Rattle.std.proofs.Common.{arith, Bool, true, false, Option, Some, None}
use Rattle.std.specs.Prelude.{if◌then◌else◌, is_some, IsSome}
use Rattle.std.proofs.lemmas.Bool.{false≢true}
use Rattle.si_model.specs.declared.log.Event.{Event}
use Rattle.si_model.specs.declared.log.Event.TheVariants.{Finished}
use Rattle.si_model.specs.declared.log.Finish.{Finish}
use Rattle.si_model.specs.declared.log.Outcome.TheVariants as outcome
use Rattle.si_model.specs.declared.log.Stamp.{Stamp}
use Rattle.si_model.specs.declared.log.Log.{Log}
use Rattle.si_model.specs.Rows.{key_at, writes_key}
use Rattle.nam_verbs.specs.declared.now.Now.{Now}
use Rattle.nam_verbs.specs.declared.now.Now.TheVariants.{At, Over}
use Rattle.nam_catalog.specs.declared.shape.Shape.{Shape}
use Rattle.nam_layout.specs.Place.{place_of, bucket_of, cells_of, cells_by}
use Rattle.nam_vector.specs.declared.snap.SnapPoint.{SnapPoint}
use Rattle.nam_vector.specs.declared.snap.SnapEnd.{SnapEnd}
use Rattle.nam_vector.specs.Snap.{snap_after}
use Rattle.nam_vector.specs.declared.snap.SnapEnd.TheVariants as snap_end
use Rattle.nam_calls.specs.declared.index.FindEnd.{FindEnd}
use Rattle.nam_calls.specs.declared.horizon.CollectPoint.{CollectPoint}
use Rattle.nam_calls.specs.declared.mover.MovePoint.{MovePoint}
use Rattle.nam_calls.specs.declared.mover.MoveAnswer.{MoveAnswer}
use Rattle.nam_calls.specs.Words.{path_of}
use Rattle.nam_calls.specs.Index.{find_after}
use Rattle.nam_calls.specs.Mover.{move_after, move_claimed}
use Rattle.nam_calls.specs.Horizon.{collect_after}
use Rattle.nam_calls.proofs.FallsTests.{either}
use Rattle.nam_calls.specs.declared.index.FindEnd.TheVariants as found_key
use Rattle.nam_calls.specs.declared.mover.MoveAnswer.TheVariants as move_end
use Rattle.nam_protocol.specs.Txn.{Stepped}
use Rattle.nam_protocol.specs.declared.txn.TxnCall.{TxnCall}
use Rattle.nam_protocol.specs.declared.txn.TxnPoint.{TxnPoint}
use Rattle.nam_protocol.specs.declared.txn.TxnPoint.TheVariants.{Committing}
use Rattle.nam_protocol.specs.declared.txn.CommitPoint.TheVariants.{Freeing, Ending}
use Rattle.nam_protocol.specs.declared.txn.TxnAnswer.{TxnAnswer}
use Rattle.nam_protocol.specs.declared.scan.ScanPoint.{ScanPoint}
use Rattle.nam_protocol.specs.declared.scan.ScanAnswer.{ScanAnswer}
use Rattle.nam_protocol.specs.declared.client.Call.{Call}
use Rattle.nam_protocol.specs.declared.client.Call.TheVariants.{Begin, Txn, Scan, Tidy, Collect}
use Rattle.nam_protocol.specs.declared.client.Answer.{Answer}
use Rattle.nam_protocol.specs.declared.client.CallPoint.{CallPoint}
use Rattle.nam_protocol.specs.declared.client.CallPoint.TheVariants.{Beginning, InTxn, Scanning, Seeking, Moving}
use Rattle.nam_protocol.specs.declared.client.CallPoint.TheVariants.{Snapping, Collecting}
use Rattle.nam_protocol.specs.declared.client.Open.{Open}
use Rattle.nam_protocol.specs.declared.client.ClientState.{ClientState}
use Rattle.nam_protocol.specs.Operations.{own_value}
use Rattle.nam_protocol.specs.TxnCalls.{txn_ask, txn_after, taken_at, taken_now}
use Rattle.nam_protocol.specs.Scan.{scan_skip, scan_read, scan_after, position_of}
use Rattle.nam_protocol.specs.Log.{with_locks}
use Rattle.nam_protocol.specs.Telling.{new_locks, on_call, stepped, with_commit, with_end}
use Rattle.nam_protocol.specs.ScanCall.{with_gathered, on_skip, on_scan}
use Rattle.nam_protocol.specs.Client.{with_call, ask_txn, ask_scan, client_ask, on_begin, on_seek, on_move, on_snap}
use Rattle.nam_protocol.specs.Client.{on_collect, take_txn, take_scan, call_after, after_call}
use Rattle.nam_protocol.specs.CutClient.{cut_in_txn, cut_open, left_open, cut_move, closed_call, finish_of}
use Rattle.nam_protocol.specs.CutClient.{has_committed, finished_in_txn, finished_call, closed_client}
use Rattle.nam_protocol.specs.CutClient.{into_log}
use Rattle.nam_protocol.specs.ClientFits.{CallPointFits, OpenPointFits}
use Rattle.nam_protocol.specs.ClientEvents.{ClientLists, NeedsOpen, closing, ClientEventsLaw}
use Rattle.nam_protocol.specs.declared.txn.TxnAnswer.TheVariants as txn_answer
use Rattle.nam_protocol.specs.declared.scan.ScanAnswer.TheVariants as scan_answer

-- 1. Events

one_event : (n : ℕ) (events : List Event) (event : Event) → length events ≤ n → length (events ++ event ∷ []) ≤ n + 1
one_event n events event l = let e = length-append events (event ∷ []) in omega arith

module _ (n : ℕ) where
  -- 2. Calls of a transaction

  module _ (client : ClientState) (within : length client.log.events ≤ n) (attempt : Open) where
    on_call_lists : (now : Now TxnPoint TxnAnswer) → ClientLists n true (on_call client attempt now)
    on_call_lists (At place) = (within, refl)
    on_call_lists (Over (txn_answer.Value value)) = (omega arith, refl)
    on_call_lists (Over txn_answer.Written) = (omega arith, refl)
    on_call_lists (Over (txn_answer.Added m)) = (omega arith, refl)
    on_call_lists (Over txn_answer.Met) = (omega arith, refl)
    on_call_lists (Over (txn_answer.Committed number)) = (one_event n client.log.events _ within, refl)
    on_call_lists (Over txn_answer.ReadOnly) = (one_event n client.log.events _ within, refl)
    on_call_lists (Over (txn_answer.TooOld worker entry horizon)) = (one_event n client.log.events _ within, refl)
    on_call_lists (Over (txn_answer.NoSpace table)) = (one_event n client.log.events _ within, refl)
    on_call_lists (Over txn_answer.Declined) = (one_event n client.log.events _ within, refl)
    on_call_lists (Over txn_answer.Spent) = (one_event n client.log.events _ within, refl)
    on_call_lists (Over (txn_answer.Locked lock)) = (one_event n client.log.events _ within, refl)
    on_call_lists (Over (txn_answer.Newer lock)) = (one_event n client.log.events _ within, refl)
    on_call_lists (Over (txn_answer.Full lock)) = (one_event n client.log.events _ within, refl)
    on_call_lists (Over txn_answer.Astray) = (one_event n client.log.events _ within, refl)

  stepped_lists : (client : ClientState) → length client.log.events ≤ n → (attempt : Open) (before : ℕ)
      (step : Stepped)
      → ClientLists n true (stepped client attempt before step)
  stepped_lists client within attempt before step =
      let locks = new_locks step.state before (taken_now step.state step.call) in
      on_call_lists (record client { log = with_locks client.log locks }) within
      (record attempt { locks = attempt.locks + length locks; state = step.state }) step.call

  module _ (shape : Shape) where
    take_txn_lists : (client : ClientState) → length client.log.events ≤ n → (opened : Option Open) (at : TxnPoint)
        (found : ℕ)
        → OpenPointFits shape opened at
        → ClientLists n (is_some opened) (take_txn shape client at opened found)
    take_txn_lists client within None at found p = absurd p
    take_txn_lists client within (Some attempt) at found p =
        stepped_lists client within attempt (length (taken_at attempt.state at))
        (txn_after shape attempt.state at found)

    -- 3. A scan

    gathered_lists : (P : Log → Option Open → Type 0) (client : ClientState) (position key : ℕ)
        (value : Option (List ℕ))
        → P client.log client.txn
        → P (with_gathered client position key value).log (with_gathered client position key value).txn
    gathered_lists P client position key None p = p
    gathered_lists P client position key (Some value) p = p

    abbrev Stands : Log → Option Open → Type 0
    Stands log txn = (length log.events ≤ n) × (is_some txn ≡ true)

    module _ (attempt : Open) (table low high : ℕ) where
      on_skip_lists : (client : ClientState) → Stands client.log client.txn → (now : Now ScanPoint ScanAnswer)
          → ClientLists n true (on_skip client attempt table low high now)
      on_skip_lists client s (At place) = s
      on_skip_lists client s (Over end) = (let l = s.0 in omega arith, refl)

      skipped_lists : (client : ClientState) → Stands client.log client.txn → (position key : ℕ)
          (value : Option (List ℕ))
          → ClientLists n true
          (on_skip (with_gathered client position key value) attempt table low high (scan_skip shape table position))
      skipped_lists client s position key value =
          on_skip_lists (with_gathered client position key value) (gathered_lists Stands client position key value s)
          (scan_skip shape table position)

      on_scan_lists : (client : ClientState) → Stands client.log client.txn → (position : ℕ)
          (now : Now ScanPoint ScanAnswer)
          → ClientLists n true (on_scan shape client attempt table low high position now)
      on_scan_lists client s position (At place) = s
      on_scan_lists client s position (Over (scan_answer.Key key)) =
          let own = key_at table key in
          either (ClientLists n true) (writes_key attempt.state.writes own)
          (on_skip (with_gathered client position key (own_value attempt.state.writes own)) attempt table low high
          (scan_skip shape table position))
          (on_skip client attempt table low high (scan_read position key))
          (skipped_lists client s position key (own_value attempt.state.writes own))
          (on_skip_lists client s (scan_read position key))
      on_scan_lists client s position (Over (scan_answer.Row item)) =
          skipped_lists client s position item.key item.value
      on_scan_lists client s position (Over scan_answer.Done) = (let l = s.0 in omega arith, refl)
      on_scan_lists client s position (Over (scan_answer.TooOld worker entry horizon)) =
          (one_event n client.log.events _ s.0, refl)
      on_scan_lists client s position (Over scan_answer.Astray) = (one_event n client.log.events _ s.0, refl)

    take_scan_lists : (client : ClientState) → length client.log.events ≤ n → (table low high : ℕ) (at : ScanPoint)
        (opened : Option Open) (found : ℕ)
        → is_some client.txn ≡ true → is_some opened ≡ true
        → ClientLists n true (take_scan shape client table low high at opened found)
    take_scan_lists client within table low high at None found o p = absurd (false≢true p)
    take_scan_lists client within table low high at (Some attempt) found o p =
        on_scan_lists attempt table low high client (within, o) (position_of at)
        (scan_after shape table low high attempt.state.seen at found)

    -- 4. The other calls

    module _ (client : ClientState) (within : length client.log.events ≤ n) where
      abbrev Lists : ClientState → Type 0
      Lists after = ClientLists n (is_some client.txn) after

      on_begin_lists : (txn nth : ℕ) (now : Now SnapPoint SnapEnd) → Lists (on_begin shape client txn nth now)
      on_begin_lists txn nth (At place) = (within, refl)
      on_begin_lists txn nth (Over (snap_end.Done seen)) = (omega arith, refl)
      on_begin_lists txn nth (Over (snap_end.Again worker first second)) =
          (one_event n client.log.events _ within, refl)

      on_seek_lists : (table key : ℕ) (now : Now ℕ FindEnd) → Lists (on_seek shape client table key now)
      on_seek_lists table key (At passed) = (within, refl)
      on_seek_lists table key (Over (found_key.At position)) = (within, refl)
      on_seek_lists table key (Over found_key.Absent) = (omega arith, refl)

      on_move_lists : (table key position bucket : ℕ) (now : Now MovePoint MoveAnswer)
          → Lists (on_move shape client table key position bucket now)
      on_move_lists table key position bucket (At place) = (within, refl)
      on_move_lists table key position bucket (Over (move_end.Moved stamp)) =
          (one_event n client.log.events _ within, refl)
      on_move_lists table key position bucket (Over (move_end.Back stamp)) =
          (one_event n client.log.events _ within, refl)
      on_move_lists table key position bucket (Over move_end.Nothing) = (omega arith, refl)
      on_move_lists table key position bucket (Over (move_end.NoRoom full)) =
          (one_event n client.log.events _ within, refl)

      on_snap_lists : (bucket : ℕ) (now : Now SnapPoint SnapEnd) → Lists (on_snap shape client bucket now)
      on_snap_lists bucket (At place) = (within, refl)
      on_snap_lists bucket (Over (snap_end.Done seen)) = (within, refl)
      on_snap_lists bucket (Over (snap_end.Again worker first second)) = (one_event n client.log.events _ within, refl)

      on_collect_lists : (bucket prefix : ℕ) (seen : List ℕ) (now : Now CollectPoint (List ℕ))
          → Lists (on_collect shape client bucket prefix seen now)
      on_collect_lists bucket prefix seen (At place) = (within, refl)
      on_collect_lists bucket prefix seen (Over known) = (one_event n client.log.events _ within, refl)

      -- 5. A word is taken

      pub word_lists : (place : CallPoint) (found : ℕ) → CallPointFits shape client.txn place
          → Lists (call_after shape client place found)
      word_lists (Beginning txn nth at) found p = on_begin_lists txn nth (snap_after shape.workers at found)
      word_lists (InTxn at) found p = take_txn_lists client within client.txn at found p
      word_lists (Scanning table low high at) found p =
          subst (λ was. ClientLists n was (take_scan shape client table low high at client.txn found)) (sym p.0)
          (take_scan_lists client within table low high at client.txn found p.0 p.0)
      word_lists (Seeking table key passed) found p =
          on_seek_lists table key (find_after (path_of shape table key) passed found)
      word_lists (Moving table key position at) found p =
          let place = place_of shape table position in
          on_move_lists table key position (bucket_of shape place.row)
          (move_after place (cells_by shape place) at found)
      word_lists (Snapping bucket at) found p = on_snap_lists bucket (snap_after shape.workers at found)
      word_lists (Collecting bucket prefix seen at) found p =
          on_collect_lists bucket prefix seen (collect_after (cells_of shape bucket) shape.workers seen at found)

      -- 6. A call is asked

      ask_txn_lists : (call : TxnCall) (opened : Option Open) → IsSome opened
          → ClientLists n true (ask_txn shape client call opened)
      ask_txn_lists call None some = absurd (false≢true some)
      ask_txn_lists call (Some attempt) some =
          stepped_lists client within (with_call attempt call) 0 (txn_ask shape attempt.state call)

      ask_scan_lists : (table low high : ℕ) (opened : Option Open) → IsSome opened
          → ClientLists n true (ask_scan shape client table low high opened)
      ask_scan_lists table low high None some = absurd (false≢true some)
      ask_scan_lists table low high (Some attempt) some = (within, refl)

      pub ask_lists : (call : Call) → NeedsOpen client call → Lists (client_ask shape client call)
      ask_lists (Begin txn nth) some = (within, refl)
      ask_lists (Txn call) some =
          subst (λ was. ClientLists n was (ask_txn shape client call client.txn)) (sym some)
          (ask_txn_lists call client.txn some)
      ask_lists (Scan table low high) some =
          subst (λ was. ClientLists n was (ask_scan shape client table low high client.txn)) (sym some)
          (ask_scan_lists table low high client.txn some)
      ask_lists (Tidy table key) some = (within, refl)
      ask_lists (Collect bucket) some = (within, refl)

-- 7. A client is closed

two_events : (events : List Event) (a b : Event) → length ((events ++ a ∷ []) ++ b ∷ []) ≤ length events + 2
two_events events a b =
    let one = length-append events (a ∷ []) in
    let two = length-append (events ++ a ∷ []) (b ∷ []) in
    omega arith

up_to_two : (events : List Event) (a : Event) → length (events ++ a ∷ []) ≤ length events + 2
up_to_two events a = let one = length-append events (a ∷ []) in omega arith

one_more : (events : List Event) (a : Event) → length (events ++ a ∷ []) ≤ length events + 1
one_more events a = one_event (length events) events a (omega arith)

cut_in_txn_lists : (client : ClientState) (attempt : Open) (at : TxnPoint)
    → length (cut_in_txn client attempt at).log.events ≤ length client.log.events + 2
cut_in_txn_lists client attempt (Committing (Freeing nth)) = two_events client.log.events _ _
cut_in_txn_lists client attempt (Committing Ending) = two_events client.log.events _ _
cut_in_txn_lists client attempt at = up_to_two client.log.events _

cut_open_lists : (client : ClientState) (at : TxnPoint) (opened : Option Open)
    → length (cut_open client at opened).log.events ≤ length client.log.events + 2
cut_open_lists client at None = omega arith
cut_open_lists client at (Some attempt) = cut_in_txn_lists client attempt at

left_open_lists : (client : ClientState) (opened : Option Open)
    → length (left_open client opened).log.events ≤ length client.log.events + (if is_some opened then 1 else 0)
left_open_lists client None = omega arith
left_open_lists client (Some attempt) = one_more client.log.events _

cut_move_lists : (client : ClientState) (table key bucket : ℕ) (stamp : Option Stamp)
    → length (cut_move client table key bucket stamp).log.events ≤ length client.log.events + 1
cut_move_lists client table key bucket None = one_more client.log.events _
cut_move_lists client table key bucket (Some stamp) = one_more client.log.events _

up_to_one : (some : Bool) (m n : ℕ) → m ≤ n + (if some then 1 else 0) → m ≤ n + 1
up_to_one true m n l = l
up_to_one false m n l = omega arith

finished_lists : (client : ClientState) (at : TxnPoint) (how : Finish) (opened : Option Open)
    → length (finished_in_txn client at how opened).log.events ≤ length client.log.events + 1
finished_lists client at how None = omega arith
finished_lists client at how (Some attempt) =
    either (λ (c : ClientState). length c.log.events ≤ length client.log.events + 1)
    (has_committed at how) (with_commit client attempt (attempt.state.last + 1))
    (with_end client attempt outcome.Cut) (one_more client.log.events _) (one_more client.log.events _)

module _ (shape : Shape) where
  call_lists : (client : ClientState) (now : Option (Now CallPoint Answer))
      → length (closed_call shape client now).log.events ≤ length client.log.events + closing None client.txn now
  call_lists client None = let l = left_open_lists client client.txn in omega arith
  call_lists client (Some (Over end)) = let l = left_open_lists client client.txn in omega arith
  call_lists client (Some (At (Beginning txn nth at))) = one_more client.log.events _
  call_lists client (Some (At (InTxn at))) = cut_open_lists client at client.txn
  call_lists client (Some (At (Scanning table low high at))) =
      up_to_one (is_some client.txn) _ _ (left_open_lists client client.txn)
  call_lists client (Some (At (Seeking table key passed))) = one_more client.log.events _
  call_lists client (Some (At (Moving table key position at))) =
      let place = place_of shape table position in
      cut_move_lists client table key (bucket_of shape place.row) (move_claimed place at)
  call_lists client (Some (At (Snapping bucket at))) = one_more client.log.events _
  call_lists client (Some (At (Collecting bucket prefix seen at))) = one_more client.log.events _

  stopped_lists : (client : ClientState) (how : Finish) (now : Option (Now CallPoint Answer))
      → length (finished_call shape client how now).log.events + 1
      ≤ length client.log.events + closing (Some how) client.txn now
  stopped_lists client how None = let l = call_lists client None in omega arith
  stopped_lists client how (Some (Over end)) = let l = call_lists client (Some (Over end)) in omega arith
  stopped_lists client how (Some (At (Beginning txn nth at))) =
      let l = call_lists client (Some (At (Beginning txn nth at))) in omega arith
  stopped_lists client how (Some (At (InTxn at))) = let l = finished_lists client at how client.txn in omega arith
  stopped_lists client how (Some (At (Scanning table low high at))) =
      let l = call_lists client (Some (At (Scanning table low high at))) in omega arith
  stopped_lists client how (Some (At (Seeking table key passed))) =
      let l = call_lists client (Some (At (Seeking table key passed))) in omega arith
  stopped_lists client how (Some (At (Moving table key position at))) =
      let l = call_lists client (Some (At (Moving table key position at))) in omega arith
  stopped_lists client how (Some (At (Snapping bucket at))) =
      let l = call_lists client (Some (At (Snapping bucket at))) in omega arith
  stopped_lists client how (Some (At (Collecting bucket prefix seen at))) =
      let l = call_lists client (Some (At (Collecting bucket prefix seen at))) in omega arith

  closed_lists : (client : ClientState) (finish : Option Finish)
      → length (closed_client shape client finish client.call).log.events
      ≤ length client.log.events + closing finish client.txn client.call
  closed_lists client None = call_lists client client.call
  closed_lists client (Some how) =
      let l = stopped_lists client how client.call in
      let m = one_more (finished_call shape client how client.call).log.events (Finished how) in
      omega arith

  pub log_lists : (client : ClientState) → length (into_log shape client).events
      ≤ length client.log.events + closing (finish_of client.medic) client.txn client.call
  log_lists client = closed_lists client (finish_of client.medic)

pub client_events : ClientEventsLaw
client_events shape = record {
  word = λ client place found e p.
      subst (λ (now : Option (Now CallPoint Answer)). ClientLists (length client.log.events) (is_some client.txn)
      (after_call shape client now found)) (sym e)
      (word_lists (length client.log.events) shape client (omega arith) place found p);
  asked = λ client call some. ask_lists (length client.log.events) shape client (omega arith) call some;
  closed = log_lists shape;
}
