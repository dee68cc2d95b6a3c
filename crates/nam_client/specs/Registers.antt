-- The client that a client's registers are.
use Rattle.std.specs.Prelude.{if◌then◌else◌, ℕ, ◌+◌, ◌-◌, true, List, drop, length, [], Option, Some, None}
use Rattle.si_model.specs.declared.log.Event.{Event}
use Rattle.si_model.specs.declared.log.Event.TheVariants as event
use Rattle.si_model.specs.declared.log.MoveEnd.TheVariants as moved_how
use Rattle.si_model.specs.declared.log.Finish.{Finish}
use Rattle.nam_verbs.specs.declared.now.Now.{Now}
use Rattle.nam_verbs.specs.declared.now.Now.TheVariants.{At, Over}
use Rattle.nam_catalog.specs.declared.shape.Shape.{Shape}
use Rattle.nam_layout.specs.Place.{cells_of}
use Rattle.nam_vector.specs.declared.snap.SnapPoint.{SnapPoint}
use Rattle.nam_vector.specs.declared.snap.SnapEnd.{SnapEnd}
use Rattle.nam_vector.specs.declared.snap.SnapEnd.TheVariants as snap_end
use Rattle.nam_calls.specs.declared.mover.MoveAnswer.{MoveAnswer}
use Rattle.nam_calls.specs.declared.mover.MoveAnswer.TheVariants as move_end
use Rattle.nam_calls.specs.declared.medic.MedicPoint.{MedicPoint}
use Rattle.nam_protocol.specs.declared.scan.ScanPoint.{ScanPoint}
use Rattle.nam_protocol.specs.declared.scan.ScanAnswer.{ScanAnswer}
use Rattle.nam_protocol.specs.declared.txn.TxnPoint.{TxnPoint}
use Rattle.nam_protocol.specs.declared.txn.TxnAnswer.{TxnAnswer}
use Rattle.nam_protocol.specs.declared.txn.TxnAnswer.TheVariants as txn_answer
use Rattle.nam_protocol.specs.declared.client.Answer.{Answer}
use Rattle.nam_protocol.specs.declared.client.Answer.TheVariants as answer
use Rattle.nam_protocol.specs.declared.client.CallPoint.{CallPoint}
use Rattle.nam_protocol.specs.declared.client.CallPoint.TheVariants.{Beginning, InTxn, Scanning, Seeking, Moving}
use Rattle.nam_protocol.specs.declared.client.CallPoint.TheVariants.{Snapping, Collecting}
use Rattle.nam_protocol.specs.declared.client.Open.{Open}
use Rattle.nam_protocol.specs.declared.client.ClientState.{ClientState}
use Rattle.nam_protocol.specs.Log.{with_event, with_locks, with_snap, prefix_of}
use Rattle.nam_protocol.specs.Telling.{locks_from}
use Rattle.nam_scan.specs.Scan.{Scanning as ScanValue}
use Rattle.nam_upkeep.specs.Collector.{collection}
use Rattle.nam_client.specs.declared.registers.Registers.{Registers}
use Rattle.nam_client.specs.declared.registers.Step.{Step}
use Rattle.nam_client.specs.declared.registers.Step.TheVariants as step
use Rattle.nam_client.specs.declared.registers.Told.{Told}
use Rattle.nam_client.specs.declared.registers.Told.TheVariants as told

-- 1. The call

-- a call stands where its machine does, and is answered as that ended
abbrev pub runs : {P E : Type 0} → (P → CallPoint) → (E → Answer) → Now P E → Option (Now CallPoint Answer)
runs place answered (At at) = Some (At (place at))
runs place answered (Over end) = Some (Over (answered end))

abbrev pub begun : ℕ → SnapEnd → Answer
begun prefix (snap_end.Done seen) = answer.Begun prefix
begun prefix (snap_end.Again worker first second) = answer.Again worker first second

abbrev pub moved : MoveAnswer → Answer
moved (move_end.Moved stamp) = answer.Moved
moved (move_end.Back stamp) = answer.Back
moved move_end.Nothing = answer.Nothing
moved (move_end.NoRoom bucket) = answer.NoRoom bucket

abbrev pub answer_told : Told → Answer
answer_told told.Nothing = answer.Nothing
answer_told (told.Scanned items) = answer.Scanned items
answer_told (told.TooOld worker entry horizon) = answer.Txn (txn_answer.TooOld worker entry horizon)
answer_told told.Astray = answer.Txn txn_answer.Astray

-- the snapshot that was taken
abbrev pub seen_in : Now SnapPoint SnapEnd → List ℕ
seen_in (Over (snap_end.Done seen)) = seen
seen_in _ = []

abbrev pub in_txn : Option (Now TxnPoint TxnAnswer) → Option (Now CallPoint Answer)
in_txn None = None
in_txn (Some now) = runs InTxn answer.Txn now

abbrev pub in_scan : Option ScanValue → Option (Now CallPoint Answer)
in_scan None = None
in_scan (Some scan) = runs (Scanning scan.range.table scan.range.low scan.range.high) (λ end. answer.Nothing) scan.state

abbrev pub call_of : Step → Registers → Option (Now CallPoint Answer)
call_of step.Resting a = None
call_of (step.Beginning txn nth) a = runs (Beginning txn nth) (begun a.attempt.prefix) a.snapper.state
call_of step.InTxn a = in_txn a.txn.call
call_of step.Scanning a = in_scan a.scan
call_of (step.Seeking table key passed) a = Some (At (Seeking table key passed))
call_of (step.Moving table key position) a = runs (Moving table key position) moved a.mover.state
call_of (step.Snapping bucket) a = runs (Snapping bucket) (begun 0) a.snapper.state
call_of (step.Collecting bucket prefix) a =
    runs (Collecting bucket prefix (seen_in a.snapper.state)) answer.Collected a.collector.state
call_of (step.Answered end) a = Some (Over (answer_told end))

-- 2. The client

abbrev pub open_of : Registers → Open
open_of a = record {
  txn = a.attempt.txn;
  nth = a.attempt.nth;
  prefix = a.attempt.prefix;
  ops = a.attempt.ops;
  ops_so_far = a.attempt.ops_so_far;
  reads = a.attempt.reads;
  locks = a.attempt.locks;
  state = a.txn.state;
}

abbrev pub medic_of : Option Finish → Option (Now MedicPoint Finish)
medic_of None = None
medic_of (Some how) = Some (Over how)

abbrev pub client_of : Registers → ClientState
client_of a = record {
  worker = a.worker;
  start = a.start;
  last = a.last;
  log = a.log.log;
  txn = if a.is_open then Some (open_of a) else None;
  scanned = a.scanned.items;
  call = call_of a.step a;
  cut = a.is_cut;
  medic = medic_of a.finish;
}

-- 3. What a step does with the registers

-- one event more is listed
abbrev pub listed : Registers → Event → Registers
listed a event = record a {
  log = record { log = with_event a.log.log event; room = record a.log.room { events = a.log.room.events - 1 } };
}

-- a transaction is open on the snapshot that was taken, but for what it has at hand
abbrev pub opened : Registers → ℕ → ℕ → Registers
opened a txn nth =
    let seen = seen_in a.snapper.state in
    record a {
      log = record { log = with_snap a.log.log seen; room = record a.log.room { snaps = a.log.room.snaps - 1 } };
      is_open = true;
      attempt = record {
        txn = txn;
        nth = nth;
        prefix = prefix_of a.start seen;
        ops = 0;
        ops_so_far = 0;
        reads = 0;
        locks = 0;
      };
    }

-- a move has ended: it is listed where it claimed a cell or found none
abbrev pub after_move : Registers → ℕ → ℕ → MoveAnswer → Registers
after_move a table key (move_end.Moved stamp) =
    listed a (event.Moved a.mover.cells.bucket table key stamp moved_how.Done)
after_move a table key (move_end.Back stamp) =
    listed a (event.Moved a.mover.cells.bucket table key stamp moved_how.Back)
after_move a table key move_end.Nothing = a
after_move a table key (move_end.NoRoom bucket) = listed a (event.NoRoom bucket)

-- a collection begins on the snapshot that was taken
abbrev pub collecting : Shape → Registers → ℕ → Registers
collecting shape a bucket =
    let seen = seen_in a.snapper.state in
    record a {
      log = record { log = with_snap a.log.log seen; room = record a.log.room { snaps = a.log.room.snaps - 1 } };
      collector = collection (cells_of shape bucket) shape.workers;
      step = step.Collecting bucket (prefix_of a.start seen);
    }

-- the transaction's locks beyond those listed are listed
abbrev pub with_new_locks : Registers → Registers
with_new_locks a =
    let locks = locks_from a.txn.state a.attempt.locks (drop a.attempt.locks a.txn.state.held) in
    record a {
      log = record {
        log = with_locks a.log.log locks;
        room = record a.log.room { locks = a.log.room.locks - length locks };
      };
      attempt = record a.attempt { locks = a.attempt.locks + length locks };
    }
