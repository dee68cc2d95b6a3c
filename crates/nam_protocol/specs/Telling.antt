-- A client, what it lists, and what follows each step of its transaction.
use Rattle.std.specs.Prelude.{ℕ, ◌+◌, false, List, [], ◌∷◌, length, drop, Option, Some, None}
use Rattle.si_model.specs.declared.row.Item.{Item}
use Rattle.si_model.specs.declared.log.Lock.{Lock}
use Rattle.si_model.specs.declared.log.Outcome.{Outcome}
use Rattle.si_model.specs.declared.log.Event.{Event}
use Rattle.si_model.specs.declared.log.Outcome.TheVariants as outcome
use Rattle.nam_verbs.specs.declared.now.Now.{Now}
use Rattle.nam_verbs.specs.declared.now.Now.TheVariants.{At, Over}
use Rattle.nam_protocol.specs.declared.txn.TxnState.{TxnState}
use Rattle.nam_protocol.specs.declared.txn.TxnPoint.{TxnPoint}
use Rattle.nam_protocol.specs.declared.txn.TxnAnswer.{TxnAnswer}
use Rattle.nam_protocol.specs.declared.client.Answer.{Answer}
use Rattle.nam_protocol.specs.declared.client.CallPoint.{CallPoint}
use Rattle.nam_protocol.specs.declared.client.CallPoint.TheVariants.{InTxn}
use Rattle.nam_protocol.specs.declared.client.Open.{Open}
use Rattle.nam_protocol.specs.declared.client.ClientState.{ClientState}
use Rattle.nam_protocol.specs.Txn.{Stepped, new_txn}
use Rattle.nam_protocol.specs.Commit.{lock_at}
use Rattle.nam_protocol.specs.TxnCalls.{taken_now}
use Rattle.nam_protocol.specs.Log.{no_log, with_event, with_reads, with_locks, with_writes, attempt_of}
use Rattle.nam_protocol.specs.declared.txn.TxnAnswer.TheVariants as txn_answer
use Rattle.nam_protocol.specs.declared.client.Answer.TheVariants as client_answer

abbrev pub new_client : ℕ → ℕ → ClientState
new_client worker start = record {
  worker = worker;
  start = start;
  last = start;
  log = no_log;
  txn = None;
  scanned = [];
  call = None;
  cut = false;
  medic = None;
}

-- the client at a point of its call, and with the call's answer
abbrev pub go : ClientState → CallPoint → ClientState
go client place = record client { call = Some (At place) }

abbrev pub with_answer : ClientState → Answer → ClientState
with_answer client answer = record client { call = Some (Over answer) }

-- an attempt that has got its snapshot
abbrev pub new_attempt : ClientState → ℕ → ℕ → ℕ → List ℕ → Open
new_attempt client txn nth prefix seen = record {
  txn = txn;
  nth = nth;
  prefix = prefix;
  ops = 0;
  ops_so_far = 0;
  reads = 0;
  locks = 0;
  state = new_txn client.worker client.last seen;
}

-- 1. What is listed

abbrev pub with_listed : ClientState → Event → ClientState
with_listed client event = record client { log = with_event client.log event }

-- the attempt has ended so: the transaction is no longer open
abbrev pub with_end : ClientState → Open → Outcome → ClientState
with_end client attempt outcome =
    record client { txn = None; log = with_event client.log (attempt_of attempt outcome 0) }

-- it has committed, and lists what it wrote
abbrev pub with_commit : ClientState → Open → ℕ → ClientState
with_commit client attempt number = record client {
  last = number;
  txn = None;
  log = with_writes (with_event client.log (attempt_of attempt (outcome.Commit number) (length attempt.state.writes)))
      attempt.state.writes;
}

-- the attempt with so many more reads
abbrev pub with_read : Open → List Item → Open
with_read attempt items = record attempt { reads = attempt.reads + length items }

-- what its call has read is no longer at hand
abbrev pub unread : Open → Open
unread attempt = record attempt { state = record attempt.state { read = None } }

-- the items that were read are listed, and the transaction stays open
abbrev pub read_listed : ClientState → Open → List Item → ClientState
read_listed client attempt items =
    record client { txn = Some (with_read attempt items); log = with_reads client.log items }

-- the items that were read are listed, and the attempt has ended so
abbrev pub read_ended : ClientState → Open → List Item → Outcome → ClientState
read_ended client attempt items outcome =
    with_end (record client { log = with_reads client.log items }) (with_read attempt items) outcome

abbrev pub items_of : Option Item → List Item
items_of None = []
items_of (Some item) = item ∷ []

-- what the transaction's call has read is listed, and is at hand no longer
abbrev pub call_listed : ClientState → Open → ClientState
call_listed client attempt = read_listed client (unread attempt) (items_of attempt.state.read)

-- the locks of these headers, the first of which is that of this record
abbrev pub locks_from : TxnState → ℕ → List ℕ → List Lock
locks_from state nth [] = []
locks_from state nth (header ∷ headers) = lock_at state nth header ∷ locks_from state (nth + 1) headers

-- the locks taken beyond the first so many
abbrev pub new_locks : TxnState → ℕ → List ℕ → List Lock
new_locks state before headers = locks_from state before (drop before headers)

-- 2. A transaction's call was answered

-- a call lists what it has read when it answers; each end but the first four is the attempt's
abbrev pub on_answer : ClientState → Open → TxnAnswer → ClientState
on_answer client attempt (txn_answer.Value value) = call_listed client attempt
on_answer client attempt txn_answer.Written = call_listed client attempt
on_answer client attempt (txn_answer.Added n) = call_listed client attempt
on_answer client attempt txn_answer.Met = call_listed client attempt
on_answer client attempt (txn_answer.Committed number) = with_commit client attempt number
on_answer client attempt txn_answer.ReadOnly = with_end client attempt outcome.ReadOnly
on_answer client attempt (txn_answer.TooOld worker entry horizon) =
    with_end client attempt (outcome.TooOld worker entry horizon)
on_answer client attempt (txn_answer.NoSpace table) =
    read_ended client attempt (items_of attempt.state.read) (outcome.NoSpace table)
on_answer client attempt txn_answer.Declined =
    read_ended client attempt (items_of attempt.state.read) (outcome.Declined attempt.ops)
on_answer client attempt txn_answer.Spent = with_end client attempt outcome.Spent
on_answer client attempt (txn_answer.Locked lock) = with_end client attempt (outcome.Locked lock)
on_answer client attempt (txn_answer.Newer lock) = with_end client attempt (outcome.Newer lock)
on_answer client attempt (txn_answer.Full lock) = with_end client attempt (outcome.Full lock)
on_answer client attempt txn_answer.Astray = with_end client attempt outcome.Left

abbrev pub on_call : ClientState → Open → Now TxnPoint TxnAnswer → ClientState
on_call client attempt (At place) = go (record client { txn = Some attempt }) (InTxn place)
on_call client attempt (Over answer) = with_answer (on_answer client attempt answer) (client_answer.Txn answer)

-- the transaction has stepped; before it had taken so many locks, and each new one is listed at once
abbrev pub stepped : ClientState → Open → ℕ → Stepped → ClientState
stepped client attempt before step =
    let locks = new_locks step.state before (taken_now step.state step.call) in
    on_call (record client { log = with_locks client.log locks })
    (record attempt { locks = attempt.locks + length locks; state = step.state }) step.call
