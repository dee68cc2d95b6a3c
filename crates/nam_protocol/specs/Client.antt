-- One worker's client: its calls, one at a time.
use Rattle.std.specs.Prelude.{ℕ, ◌+◌, false, if◌then◌else◌, List, [], length, Option, Some, None}
use Rattle.si_model.specs.declared.log.Outcome.TheVariants as outcome
use Rattle.si_model.specs.declared.log.MoveEnd.TheVariants as moved
use Rattle.si_model.specs.declared.log.Event.TheVariants as event
use Rattle.nam_verbs.specs.declared.now.Now.{Now}
use Rattle.nam_verbs.specs.declared.now.Now.TheVariants.{At, Over}
use Rattle.nam_verbs.specs.VerbAt.{VerbAt, ReadAt}
use Rattle.nam_catalog.specs.declared.shape.Shape.{Shape}
use Rattle.nam_layout.specs.declared.field.Field.TheVariants.{Entry}
use Rattle.nam_layout.specs.Place.{place_of, cells_of, bucket_of, cells_by}
use Rattle.nam_layout.specs.declared.field.Field.{Field}
use Rattle.nam_vector.specs.declared.snap.SnapPoint.{SnapPoint}
use Rattle.nam_vector.specs.declared.snap.SnapEnd.{SnapEnd}
use Rattle.nam_vector.specs.Snap.{snap_begin, snap_verb, snap_after}
use Rattle.nam_vector.specs.declared.snap.SnapEnd.TheVariants as snap_end
use Rattle.nam_calls.specs.declared.index.FindEnd.{FindEnd}
use Rattle.nam_calls.specs.declared.horizon.CollectPoint.{CollectPoint}
use Rattle.nam_calls.specs.declared.mover.MovePoint.{MovePoint}
use Rattle.nam_calls.specs.declared.mover.MoveAnswer.{MoveAnswer}
use Rattle.nam_calls.specs.Words.{capacity_of, path_of}
use Rattle.nam_calls.specs.Index.{find_begin, find_verb, find_after}
use Rattle.nam_calls.specs.Mover.{move_begin, move_verb, move_after}
use Rattle.nam_calls.specs.Horizon.{collect_begin, collect_verb, collect_after}
use Rattle.nam_calls.specs.declared.index.FindEnd.TheVariants as found_key
use Rattle.nam_calls.specs.declared.mover.MoveAnswer.TheVariants as move_end
use Rattle.nam_protocol.specs.declared.txn.TxnCall.{TxnCall}
use Rattle.nam_protocol.specs.declared.txn.TxnCall.TheVariants.{Commit}
use Rattle.nam_protocol.specs.declared.txn.TxnPoint.{TxnPoint}
use Rattle.nam_protocol.specs.declared.scan.ScanPoint.{ScanPoint}
use Rattle.nam_protocol.specs.declared.client.Call.{Call}
use Rattle.nam_protocol.specs.declared.client.Call.TheVariants.{Begin, Txn, Scan, Tidy, Collect}
use Rattle.nam_protocol.specs.declared.client.Answer.{Answer}
use Rattle.nam_protocol.specs.declared.client.CallPoint.{CallPoint}
use Rattle.nam_protocol.specs.declared.client.CallPoint.TheVariants.{Beginning, InTxn, Scanning, Seeking, Moving}
use Rattle.nam_protocol.specs.declared.client.CallPoint.TheVariants.{Snapping, Collecting}
use Rattle.nam_protocol.specs.declared.client.Open.{Open}
use Rattle.nam_protocol.specs.declared.client.ClientState.{ClientState}
use Rattle.nam_protocol.specs.TxnCalls.{txn_ask, txn_verb, txn_after, taken_at}
use Rattle.nam_protocol.specs.Scan.{scan_begin, scan_verb, scan_after, position_of}
use Rattle.nam_protocol.specs.Log.{with_snap, prefix_of, unbegun}
use Rattle.nam_protocol.specs.Telling.{go, with_answer, new_attempt, with_listed, with_end, stepped}
use Rattle.nam_protocol.specs.ScanCall.{on_scan}
use Rattle.nam_protocol.specs.declared.client.Answer.TheVariants as client_answer

-- an operation counts as one; the commit is none
abbrev pub with_call : Open → TxnCall → Open
with_call attempt Commit = attempt
with_call attempt call = record attempt { ops = attempt.ops + 1; ops_so_far = attempt.ops_so_far + 1 }

module _ (shape : Shape) where
  -- 1. A call is asked

  abbrev pub ask_txn : ClientState → TxnCall → Option Open → ClientState
  ask_txn client call None = client
  ask_txn client call (Some attempt) = stepped client (with_call attempt call) 0 (txn_ask shape attempt.state call)

  abbrev pub ask_scan : ClientState → ℕ → ℕ → ℕ → Option Open → ClientState
  ask_scan client table low high None = client
  ask_scan client table low high (Some attempt) =
      let with_scan =
      record attempt { ops = attempt.ops + 1; ops_so_far = attempt.ops_so_far + capacity_of shape table } in
      go (record client { txn = Some with_scan; scanned = [] }) (Scanning table low high scan_begin)

  abbrev pub client_ask : ClientState → Call → ClientState
  client_ask client (Begin txn nth) = go client (Beginning txn nth snap_begin)
  client_ask client (Txn call) = ask_txn client call client.txn
  client_ask client (Scan table low high) = ask_scan client table low high client.txn
  client_ask client (Tidy table key) = go client (Seeking table key find_begin)
  client_ask client (Collect bucket) = go client (Snapping bucket snap_begin)

  -- 2. The verb that stands

  -- a call of a transaction stands only where one is open
  abbrev pub open_verb : Option Open → TxnPoint → VerbAt Field
  open_verb None at = ReadAt (Entry 1)
  open_verb (Some attempt) at = txn_verb shape attempt.state at

  abbrev pub call_verb : ClientState → CallPoint → VerbAt Field
  call_verb client (Beginning txn nth at) = snap_verb at
  call_verb client (InTxn at) = open_verb client.txn at
  call_verb client (Scanning table low high at) = scan_verb shape table at
  call_verb client (Seeking table key passed) = find_verb (path_of shape table key) passed
  call_verb client (Moving table key position at) =
      let place = place_of shape table position in move_verb place (cells_by shape place) at
  call_verb client (Snapping bucket at) = snap_verb at
  call_verb client (Collecting bucket prefix seen at) = collect_verb (cells_of shape bucket) seen at

  abbrev pub verb_of : ClientState → Option (Now CallPoint Answer) → Option (VerbAt Field)
  verb_of client (Some (At place)) = Some (call_verb client place)
  verb_of client _ = None

  abbrev pub client_verb : ClientState → Option (VerbAt Field)
  client_verb client = if client.cut then None else verb_of client client.call

  -- 3. A word is taken

  abbrev pub on_begin : ClientState → ℕ → ℕ → Now SnapPoint SnapEnd → ClientState
  on_begin client txn nth (At place) = go client (Beginning txn nth place)
  on_begin client txn nth (Over (snap_end.Done seen)) =
      let prefix = prefix_of client.start seen in
      with_answer (record client {
        log = with_snap client.log seen;
        txn = Some (new_attempt client txn nth prefix seen);
      })
      (client_answer.Begun prefix)
  on_begin client txn nth (Over (snap_end.Again worker first second)) =
      with_answer (with_listed client (unbegun txn nth (outcome.Again worker first second)))
      (client_answer.Again worker first second)

  abbrev pub on_seek : ClientState → ℕ → ℕ → Now ℕ FindEnd → ClientState
  on_seek client table key (At passed) = go client (Seeking table key passed)
  on_seek client table key (Over (found_key.At position)) = go client (Moving table key position move_begin)
  on_seek client table key (Over found_key.Absent) = with_answer client client_answer.Nothing

  -- a move that claimed a cell is listed, and one that found none; one that had nothing to do is not
  abbrev pub on_move : ClientState → ℕ → ℕ → ℕ → ℕ → Now MovePoint MoveAnswer → ClientState
  on_move client table key position bucket (At place) = go client (Moving table key position place)
  on_move client table key position bucket (Over (move_end.Moved stamp)) =
      with_answer (with_listed client (event.Moved bucket table key stamp moved.Done)) client_answer.Moved
  on_move client table key position bucket (Over (move_end.Back stamp)) =
      with_answer (with_listed client (event.Moved bucket table key stamp moved.Back)) client_answer.Back
  on_move client table key position bucket (Over move_end.Nothing) = with_answer client client_answer.Nothing
  on_move client table key position bucket (Over (move_end.NoRoom full)) =
      with_answer (with_listed client (event.NoRoom full)) (client_answer.NoRoom full)

  abbrev pub on_snap : ClientState → ℕ → Now SnapPoint SnapEnd → ClientState
  on_snap client bucket (At place) = go client (Snapping bucket place)
  on_snap client bucket (Over (snap_end.Done seen)) =
      go (record client { log = with_snap client.log seen })
      (Collecting bucket (prefix_of client.start seen) seen collect_begin)
  on_snap client bucket (Over (snap_end.Again worker first second)) =
      with_answer (with_listed client (event.CollectAgain bucket worker first second))
      (client_answer.Again worker first second)

  abbrev pub on_collect : ClientState → ℕ → ℕ → List ℕ → Now CollectPoint (List ℕ) → ClientState
  on_collect client bucket prefix seen (At place) = go client (Collecting bucket prefix seen place)
  on_collect client bucket prefix seen (Over known) =
      with_answer (with_listed client (event.Collected bucket prefix seen false)) (client_answer.Collected known)

  abbrev pub take_txn : ClientState → TxnPoint → Option Open → ℕ → ClientState
  take_txn client at None found = client
  take_txn client at (Some attempt) found =
      stepped client attempt (length (taken_at attempt.state at)) (txn_after shape attempt.state at found)

  abbrev pub take_scan : ClientState → ℕ → ℕ → ℕ → ScanPoint → Option Open → ℕ → ClientState
  take_scan client table low high at None found = client
  take_scan client table low high at (Some attempt) found =
      on_scan shape client attempt table low high (position_of at)
      (scan_after shape table low high attempt.state.seen at found)

  abbrev pub call_after : ClientState → CallPoint → ℕ → ClientState
  call_after client (Beginning txn nth at) found = on_begin client txn nth (snap_after shape.workers at found)
  call_after client (InTxn at) found = take_txn client at client.txn found
  call_after client (Scanning table low high at) found = take_scan client table low high at client.txn found
  call_after client (Seeking table key passed) found =
      on_seek client table key (find_after (path_of shape table key) passed found)
  call_after client (Moving table key position at) found =
      let place = place_of shape table position in
      on_move client table key position (bucket_of shape place.row) (move_after place (cells_by shape place) at found)
  call_after client (Snapping bucket at) found = on_snap client bucket (snap_after shape.workers at found)
  call_after client (Collecting bucket prefix seen at) found =
      on_collect client bucket prefix seen (collect_after (cells_of shape bucket) shape.workers seen at found)

  abbrev pub after_call : ClientState → Option (Now CallPoint Answer) → ℕ → ClientState
  after_call client (Some (At place)) found = call_after client place found
  after_call client _ found = client

  abbrev pub client_after : ClientState → ℕ → ClientState
  client_after client found = after_call client client.call found

-- 4. The transaction is given up between two calls

abbrev pub abandon_open : ClientState → Option Open → ClientState
abandon_open client None = client
abandon_open client (Some attempt) = with_end client attempt outcome.Left

abbrev pub client_abandon : ClientState → ClientState
client_abandon client = abandon_open client client.txn
