-- What each step of a client makes of its teller.
use Rattle.std.specs.Prelude.{List, None, Option, Some, [], false, if◌then◌else◌, length, ℕ, ◌++◌, ◌∷◌}
use Rattle.si_model.specs.Rows.{key_at, writes_key}
use Rattle.si_model.specs.Tells.{Tell}
use Rattle.si_model.specs.declared.log.Event.TheVariants as event
use Rattle.si_model.specs.declared.log.Event.{Event}
use Rattle.si_model.specs.declared.log.Lock.{Lock}
use Rattle.si_model.specs.declared.log.MoveEnd.TheVariants as moved
use Rattle.si_model.specs.declared.log.Outcome.TheVariants as outcome
use Rattle.si_model.specs.declared.op.Op.TheVariants as op
use Rattle.si_model.specs.declared.op.Op.{Op}
use Rattle.si_model.specs.declared.row.Item.{Item}
use Rattle.nam_verbs.specs.declared.now.Now.TheVariants.{At, Over}
use Rattle.nam_verbs.specs.declared.now.Now.{Now}
use Rattle.nam_catalog.specs.declared.shape.Shape.{Shape}
use Rattle.nam_layout.specs.Place.{bucket_of, cells_by, cells_of, place_of}
use Rattle.nam_vector.specs.Snap.{snap_after}
use Rattle.nam_vector.specs.declared.snap.SnapEnd.TheVariants as snap_end
use Rattle.nam_vector.specs.declared.snap.SnapEnd.{SnapEnd}
use Rattle.nam_vector.specs.declared.snap.SnapPoint.{SnapPoint}
use Rattle.nam_calls.specs.Horizon.{collect_after}
use Rattle.nam_calls.specs.Mover.{move_after}
use Rattle.nam_calls.specs.declared.horizon.CollectPoint.{CollectPoint}
use Rattle.nam_calls.specs.declared.mover.MoveAnswer.TheVariants as move_end
use Rattle.nam_calls.specs.declared.mover.MoveAnswer.{MoveAnswer}
use Rattle.nam_calls.specs.declared.mover.MovePoint.{MovePoint}
use Rattle.nam_protocol.specs.Client.{with_call}
use Rattle.nam_protocol.specs.Log.{unbegun}
use Rattle.nam_protocol.specs.Operations.{own_value}
use Rattle.nam_protocol.specs.Scan.{position_of, scan_after, scan_read, scan_skip}
use Rattle.nam_protocol.specs.ScanCall.{scanned_items, with_gathered}
use Rattle.nam_protocol.specs.Telling.{items_of, new_locks}
use Rattle.nam_protocol.specs.Txn.{Stepped}
use Rattle.nam_protocol.specs.TxnCalls.{taken_at, taken_now, txn_after, txn_ask}
use Rattle.nam_protocol.specs.declared.client.Answer.{Answer}
use Rattle.nam_protocol.specs.declared.client.Call.TheVariants.{Scan, Txn}
use Rattle.nam_protocol.specs.declared.client.Call.{Call}
use Rattle.nam_protocol.specs.declared.client.CallPoint.TheVariants.{Beginning, Collecting, InTxn, Moving, Scanning}
use Rattle.nam_protocol.specs.declared.client.CallPoint.TheVariants.{Seeking, Snapping}
use Rattle.nam_protocol.specs.declared.client.CallPoint.{CallPoint}
use Rattle.nam_protocol.specs.declared.client.ClientState.{ClientState}
use Rattle.nam_protocol.specs.declared.client.Open.{Open}
use Rattle.nam_protocol.specs.declared.scan.ScanAnswer.TheVariants as scan_answer
use Rattle.nam_protocol.specs.declared.scan.ScanAnswer.{ScanAnswer}
use Rattle.nam_protocol.specs.declared.scan.ScanPoint.{ScanPoint}
use Rattle.nam_protocol.specs.declared.txn.TxnAnswer.TheVariants.{Added, Astray, Committed, Declined, Full, Locked, Met}
use Rattle.nam_protocol.specs.declared.txn.TxnAnswer.TheVariants.{Newer, NoSpace, ReadOnly, Spent, TooOld, Value}
use Rattle.nam_protocol.specs.declared.txn.TxnAnswer.TheVariants.{Written}
use Rattle.nam_protocol.specs.declared.txn.TxnAnswer.{TxnAnswer}
use Rattle.nam_protocol.specs.declared.txn.TxnCall.TheVariants as call
use Rattle.nam_protocol.specs.declared.txn.TxnCall.{TxnCall}
use Rattle.nam_protocol.specs.declared.txn.TxnPoint.{TxnPoint}
use Rattle.nam_store.specs.Everyone.{put}
use Rattle.nam_store.specs.Reached.{GhostStep}
use Rattle.nam_store.specs.Store.{Abandons, Asks, Cuts, Takes, found_word}
use Rattle.nam_tells.specs.Teller.{Teller, attempt_tell, bare_tell, commit_tell, new_teller}

-- 1. What happens to a teller

-- operations are asked
abbrev pub asking : Teller → List Op → Teller
asking teller ops = record teller { ops = teller.ops ++ ops }

-- locks are taken, and rows are read
abbrev pub locking : Teller → List Lock → Teller
locking teller locks = record teller { locks = teller.locks ++ locks }

abbrev pub reading : Teller → List Item → Teller
reading teller items = record teller { reads = teller.reads ++ items }

-- the operation that was asked last has passed, and has read these
abbrev pub passing : Teller → List Item → Teller
passing teller items = record teller { passed = teller.ops; reads = teller.reads ++ items }

-- the event has ended: nothing of an attempt is left
abbrev pub ended : Teller → Tell → Teller
ended teller t = record { front = teller.front ++ t ∷ []; ops = []; passed = []; reads = []; locks = [] }

abbrev pub listing : Teller → Event → Teller
listing teller e = ended teller (bare_tell e [])

-- 2. A call of the transaction has stepped

-- the operation that a call is; the commit is none
abbrev pub txn_ops : TxnCall → List Op
txn_ops (call.Get t k) = op.Get t k ∷ []
txn_ops (call.Put t k v) = op.Put t k v ∷ []
txn_ops (call.Add t k f up by) = op.Add t k f up by ∷ []
txn_ops (call.Del t k) = op.Del t k ∷ []
txn_ops (call.Need t k f least) = op.Need t k f least ∷ []
txn_ops (call.Guard t k) = op.Guard t k ∷ []
txn_ops call.Commit = []

abbrev pub call_ops : Call → List Op
call_ops (Txn asked) = txn_ops asked
call_ops (Scan table low high) = op.Scan table low high ∷ []
call_ops _ = []

-- it was answered: an operation has passed, or the attempt has ended, some of them with what the operation has read
abbrev pub told_answer : Teller → Open → TxnAnswer → Teller
told_answer teller attempt (Value value) = passing teller (items_of attempt.state.read)
told_answer teller attempt Written = passing teller (items_of attempt.state.read)
told_answer teller attempt (Added n) = passing teller (items_of attempt.state.read)
told_answer teller attempt Met = passing teller (items_of attempt.state.read)
told_answer teller attempt (Committed number) = ended teller (commit_tell teller attempt number)
told_answer teller attempt ReadOnly = ended teller (attempt_tell teller attempt outcome.ReadOnly [])
told_answer teller attempt (TooOld worker entry horizon) =
    ended teller (attempt_tell teller attempt (outcome.TooOld worker entry horizon) [])
told_answer teller attempt (NoSpace table) =
    let read = reading teller (items_of attempt.state.read) in
    ended read (attempt_tell read attempt (outcome.NoSpace table) [])
told_answer teller attempt Declined =
    let read = reading teller (items_of attempt.state.read) in
    ended read (attempt_tell read attempt (outcome.Declined attempt.ops) [])
told_answer teller attempt Spent = ended teller (attempt_tell teller attempt outcome.Spent [])
told_answer teller attempt (Locked lock) = ended teller (attempt_tell teller attempt (outcome.Locked lock) [])
told_answer teller attempt (Newer lock) = ended teller (attempt_tell teller attempt (outcome.Newer lock) [])
told_answer teller attempt (Full lock) = ended teller (attempt_tell teller attempt (outcome.Full lock) [])
told_answer teller attempt Astray = ended teller (attempt_tell teller attempt outcome.Left [])

abbrev pub told_call : Teller → Open → Now TxnPoint TxnAnswer → Teller
told_call teller attempt (At place) = teller
told_call teller attempt (Over answer) = told_answer teller attempt answer

-- each lock that the step has taken beyond the first so many is told at once
abbrev pub told_stepped : Teller → Open → ℕ → Stepped → Teller
told_stepped teller attempt before step =
    told_call (locking teller (new_locks step.state before (taken_now step.state step.call)))
    (record attempt { state = step.state }) step.call

-- 3. Another call has stepped

abbrev pub told_begin : Teller → ℕ → ℕ → Now SnapPoint SnapEnd → Teller
told_begin teller txn nth (Over (snap_end.Again worker first second)) =
    listing teller (unbegun txn nth (outcome.Again worker first second))
told_begin teller txn nth _ = teller

abbrev pub told_move : Teller → ℕ → ℕ → ℕ → Now MovePoint MoveAnswer → Teller
told_move teller table key bucket (Over (move_end.Moved stamp)) =
    listing teller (event.Moved bucket table key stamp moved.Done)
told_move teller table key bucket (Over (move_end.Back stamp)) =
    listing teller (event.Moved bucket table key stamp moved.Back)
told_move teller table key bucket (Over (move_end.NoRoom full)) = listing teller (event.NoRoom full)
told_move teller table key bucket _ = teller

abbrev pub told_snap : Teller → ℕ → Now SnapPoint SnapEnd → Teller
told_snap teller bucket (Over (snap_end.Again worker first second)) =
    listing teller (event.CollectAgain bucket worker first second)
told_snap teller bucket _ = teller

abbrev pub told_collect : Teller → ℕ → ℕ → List ℕ → Now CollectPoint (List ℕ) → Teller
told_collect teller bucket prefix seen (At place) = teller
told_collect teller bucket prefix seen (Over known) =
    ended teller (bare_tell (event.Collected bucket prefix seen false) seen)

-- a scan that is done has passed, with the rows that were gathered
abbrev pub told_skip : Teller → ClientState → ℕ → Now ScanPoint ScanAnswer → Teller
told_skip teller client table (At place) = teller
told_skip teller client table (Over end) = passing teller (scanned_items table client.scanned)

module _ (shape : Shape) where
  abbrev pub told_key : Teller → ClientState → Open → ℕ → ℕ → ℕ → Teller
  told_key teller client attempt table position key =
      let own = key_at table key in
      if writes_key attempt.state.writes own
      then told_skip teller (with_gathered client position key (own_value attempt.state.writes own)) table
      (scan_skip shape table position)
      else told_skip teller client table (scan_read position key)

  abbrev pub told_scan : Teller → ClientState → Open → ℕ → ℕ → Now ScanPoint ScanAnswer → Teller
  told_scan teller client attempt table position (At place) = teller
  told_scan teller client attempt table position (Over (scan_answer.Key key)) =
      told_key teller client attempt table position key
  told_scan teller client attempt table position (Over (scan_answer.Row item)) =
      told_skip teller (with_gathered client position item.key item.value) table (scan_skip shape table position)
  told_scan teller client attempt table position (Over scan_answer.Done) =
      passing teller (scanned_items table client.scanned)
  told_scan teller client attempt table position (Over (scan_answer.TooOld worker entry horizon)) =
      ended teller (attempt_tell teller attempt (outcome.TooOld worker entry horizon) [])
  told_scan teller client attempt table position (Over scan_answer.Astray) =
      ended teller (attempt_tell teller attempt outcome.Left [])

  -- 4. A word is taken

  abbrev pub told_txn : Teller → TxnPoint → Option Open → ℕ → Teller
  told_txn teller at None found = teller
  told_txn teller at (Some attempt) found =
      told_stepped teller attempt (length (taken_at attempt.state at)) (txn_after shape attempt.state at found)

  abbrev pub told_scanning : Teller → ClientState → ℕ → ℕ → ℕ → ScanPoint → Option Open → ℕ → Teller
  told_scanning teller client table low high at None found = teller
  told_scanning teller client table low high at (Some attempt) found =
      told_scan teller client attempt table (position_of at)
      (scan_after shape table low high attempt.state.seen at found)

  abbrev pub told_place : ClientState → CallPoint → ℕ → Teller → Teller
  told_place client (Beginning txn nth at) found teller =
      told_begin teller txn nth (snap_after shape.workers at found)
  told_place client (InTxn at) found teller = told_txn teller at client.txn found
  told_place client (Scanning table low high at) found teller =
      told_scanning teller client table low high at client.txn found
  told_place client (Seeking table key passed) found teller = teller
  told_place client (Moving table key position at) found teller =
      let place = place_of shape table position in
      told_move teller table key (bucket_of shape place.row) (move_after place (cells_by shape place) at found)
  told_place client (Snapping bucket at) found teller = told_snap teller bucket (snap_after shape.workers at found)
  told_place client (Collecting bucket prefix seen at) found teller =
      told_collect teller bucket prefix seen (collect_after (cells_of shape bucket) shape.workers seen at found)

  abbrev pub told_now : ClientState → Option (Now CallPoint Answer) → ℕ → Teller → Teller
  told_now client (Some (At place)) found teller = told_place client place found teller
  told_now client _ found teller = teller

  abbrev pub told_after : ClientState → ℕ → Teller → Teller
  told_after client found teller = told_now client client.call found teller

  -- 5. A call is asked

  abbrev pub told_txn_asked : Teller → TxnCall → Option Open → Teller
  told_txn_asked teller asked None = teller
  told_txn_asked teller asked (Some attempt) =
      told_stepped (asking teller (txn_ops asked)) (with_call attempt asked) 0 (txn_ask shape attempt.state asked)

  abbrev pub told_asked : ClientState → Call → Teller → Teller
  told_asked client (Txn asked) teller = told_txn_asked teller asked client.txn
  told_asked client (Scan table low high) teller = asking teller (op.Scan table low high ∷ [])
  told_asked client _ teller = teller

-- 6. The transaction is given up

abbrev pub told_left : Option Open → Teller → Teller
told_left None teller = teller
told_left (Some attempt) teller = ended teller (attempt_tell teller attempt outcome.Left [])

abbrev pub told_abandoned : ClientState → Teller → Teller
told_abandoned client teller = told_left client.txn teller

-- 7. The tellers of a store's clients, which count from 0; a client that is stopped tells nothing by that

abbrev pub no_tells : ℕ → Teller
no_tells nth = new_teller

abbrev pub tells_next : (shape : Shape) → GhostStep shape (ℕ → Teller)
tells_next shape before _ (Takes nth client place here runs at) tellers =
    put tellers nth (told_after shape client (found_word shape before client) (tellers nth))
tells_next shape before _ (Asks nth client asked here may words) tellers =
    put tellers nth (told_asked shape client asked (tellers nth))
tells_next shape before _ (Abandons nth client here rests) tellers =
    put tellers nth (told_abandoned client (tellers nth))
tells_next shape before _ (Cuts nth client here) tellers = tellers
