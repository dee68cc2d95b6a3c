-- How many operations an open transaction was asked: no more with a call than it takes room for, and with a word no
-- more; and a client stays its worker's.
use Rattle.std.proofs.Common.{◌≡◌, ◌≤◌, ◌+◌, ℕ, Option, Some, None, refl, arith}
use Rattle.nam_verbs.specs.declared.now.Now.{Now}
use Rattle.nam_verbs.specs.declared.now.Now.TheVariants.{At, Over}
use Rattle.nam_catalog.specs.declared.shape.Shape.{Shape}
use Rattle.nam_protocol.specs.declared.client.Answer.{Answer}
use Rattle.nam_protocol.specs.declared.client.Call.{Call}
use Rattle.nam_protocol.specs.declared.client.Call.TheVariants as call
use Rattle.nam_protocol.specs.declared.client.CallPoint.{CallPoint}
use Rattle.nam_protocol.specs.declared.client.CallPoint.TheVariants.{Beginning, InTxn, Scanning, Seeking, Moving}
use Rattle.nam_protocol.specs.declared.client.CallPoint.TheVariants.{Snapping, Collecting}
use Rattle.nam_protocol.specs.declared.client.ClientState.{ClientState}
use Rattle.nam_protocol.specs.declared.client.Open.{Open}
use Rattle.nam_protocol.specs.declared.scan.ScanPoint.{ScanPoint}
use Rattle.nam_protocol.specs.declared.txn.TxnCall.{TxnCall}
use Rattle.nam_protocol.specs.declared.txn.TxnCall.TheVariants as txn_call
use Rattle.nam_protocol.specs.declared.txn.TxnPoint.{TxnPoint}
use Rattle.nam_protocol.specs.Client.{after_call, ask_scan, ask_txn, call_after, client_after, client_ask, take_scan}
use Rattle.nam_protocol.specs.Client.{take_txn, with_call}
use Rattle.nam_protocol.specs.RoomLaw.{call_room}
use Rattle.nam_protocol.specs.Telling.{stepped}
use Rattle.nam_protocol.specs.Txn.{Stepped}
use Rattle.nam_protocol.proofs.GoesClient.{begin_goes, collect_goes, move_goes, on_answer_goes, scan_goes, seek_goes}
use Rattle.nam_protocol.proofs.GoesClient.{snap_goes, step_lists, step_opens, stepped_goes}
use Rattle.nam_client.specs.Client.{ops_so_far}

module _ (shape : Shape) (n worker : ℕ) where
  abbrev Counted : ClientState → Type 0
  Counted client = (ops_so_far client.txn ≤ n) × (client.worker ≡ worker)

  stepped_counted : (client : ClientState) (attempt : Open) (before : ℕ) (step : Stepped) → attempt.ops_so_far ≤ n
      → client.worker ≡ worker → Counted (stepped client attempt before step)
  stepped_counted client attempt before step l w =
      stepped_goes Counted client attempt before step (λ place e. (l, w))
      (λ end e. on_answer_goes Counted (step_lists client before step) (step_opens attempt before step) end
      (λ f. (l, w)) (λ how f. (omega arith, w)) (λ how f. (omega arith, w)) (λ number f. (omega arith, w)))

  -- 1. A word

  take_txn_counted : (client : ClientState) (at : TxnPoint) (opened : Option Open) (found : ℕ) → Counted client
      → ops_so_far opened ≤ n → Counted (take_txn shape client at opened found)
  take_txn_counted client at None found c l = c
  take_txn_counted client at (Some attempt) found c l = stepped_counted client attempt _ _ l c.1

  take_scan_counted : (client : ClientState) (table low high : ℕ) (at : ScanPoint) (opened : Option Open) (found : ℕ)
      → Counted client → ops_so_far opened ≤ n → Counted (take_scan shape client table low high at opened found)
  take_scan_counted client table low high at None found c l = c
  take_scan_counted client table low high at (Some attempt) found c l =
      scan_goes Counted shape client attempt table low high _ _ (λ next e. c) (λ key e. c) (λ rows e. c)
      (λ rows. (l, c.1)) (λ how end e. (omega arith, c.1))

  word_counted : (client : ClientState) (place : CallPoint) (found : ℕ) → Counted client
      → Counted (call_after shape client place found)
  word_counted client (Beginning txn nth at) found c =
      begin_goes Counted shape client txn nth _ (λ next e. c) (λ seen e. (omega arith, c.1))
      (λ worker first second e. c)
  word_counted client (InTxn at) found c = take_txn_counted client at client.txn found c c.0
  word_counted client (Scanning table low high at) found c =
      take_scan_counted client table low high at client.txn found c c.0
  word_counted client (Seeking table key passed) found c =
      seek_goes Counted shape client table key _ (λ next e. c) (λ position e. c) (λ e. c)
  word_counted client (Moving table key position at) found c =
      move_goes Counted shape client table key position _ _ (λ next e. c) (λ stamp e. c) (λ stamp e. c) (λ e. c)
      (λ full e. c)
  word_counted client (Snapping bucket at) found c =
      snap_goes Counted shape client bucket _ (λ next e. c) (λ seen e. c) (λ worker first second e. c)
  word_counted client (Collecting bucket prefix seen at) found c =
      collect_goes Counted shape client bucket prefix seen _ (λ next e. c) (λ known e. c)

  now_counted : (client : ClientState) (now : Option (Now CallPoint Answer)) (found : ℕ) → Counted client
      → Counted (after_call shape client now found)
  now_counted client None found c = c
  now_counted client (Some (At place)) found c = word_counted client place found c
  now_counted client (Some (Over end)) found c = c

  -- 2. A call

  txn_counted : (client : ClientState) (attempt : Open) (asked : TxnCall)
      → attempt.ops_so_far + (call_room shape (call.Txn asked)).ops ≤ n → client.worker ≡ worker
      → Counted (ask_txn shape client asked (Some attempt))
  txn_counted client attempt txn_call.Commit l w = stepped_counted client attempt 0 _ (omega arith) w
  txn_counted client attempt (txn_call.Get t k) l w =
      stepped_counted client (with_call attempt (txn_call.Get t k)) 0 _ l w
  txn_counted client attempt (txn_call.Put t k v) l w =
      stepped_counted client (with_call attempt (txn_call.Put t k v)) 0 _ l w
  txn_counted client attempt (txn_call.Add t k f up by) l w =
      stepped_counted client (with_call attempt (txn_call.Add t k f up by)) 0 _ l w
  txn_counted client attempt (txn_call.Del t k) l w =
      stepped_counted client (with_call attempt (txn_call.Del t k)) 0 _ l w
  txn_counted client attempt (txn_call.Need t k f least) l w =
      stepped_counted client (with_call attempt (txn_call.Need t k f least)) 0 _ l w
  txn_counted client attempt (txn_call.Guard t k) l w =
      stepped_counted client (with_call attempt (txn_call.Guard t k)) 0 _ l w

  open_counted : (client : ClientState) (opened : Option Open) (asked : TxnCall) → Counted client
      → ops_so_far opened + (call_room shape (call.Txn asked)).ops ≤ n → Counted (ask_txn shape client asked opened)
  open_counted client None asked c l = c
  open_counted client (Some attempt) asked c l = txn_counted client attempt asked l c.1

  open_scan_counted : (client : ClientState) (opened : Option Open) (table low high : ℕ) → Counted client
      → ops_so_far opened + (call_room shape (call.Scan table low high)).ops ≤ n
      → Counted (ask_scan shape client table low high opened)
  open_scan_counted client None table low high c l = c
  open_scan_counted client (Some attempt) table low high c l = (l, c.1)

  call_counted : (client : ClientState) (asked : Call)
      → ops_so_far client.txn + (call_room shape asked).ops ≤ n → client.worker ≡ worker
      → Counted (client_ask shape client asked)
  call_counted client (call.Begin txn nth) l w = (omega arith, w)
  call_counted client (call.Txn asked) l w = open_counted client client.txn asked (omega arith, w) l
  call_counted client (call.Scan table low high) l w =
      open_scan_counted client client.txn table low high (omega arith, w) l
  call_counted client (call.Tidy table key) l w = (omega arith, w)
  call_counted client (call.Collect bucket) l w = (omega arith, w)

-- 3. So it is

module _ (shape : Shape) (client : ClientState) where
  word_kept : (found : ℕ)
      → Counted shape (ops_so_far client.txn) client.worker (client_after shape client found)
  word_kept found =
      now_counted shape (ops_so_far client.txn) client.worker client client.call found (omega arith, refl)

  asked_kept : (asked : Call)
      → Counted shape (ops_so_far client.txn + (call_room shape asked).ops) client.worker
      (client_ask shape client asked)
  asked_kept asked =
      call_counted shape (ops_so_far client.txn + (call_room shape asked).ops) client.worker client asked (omega arith)
      refl

  pub word_ops : (found : ℕ) → ops_so_far (client_after shape client found).txn ≤ ops_so_far client.txn
  word_ops found = (word_kept found).0

  pub word_worker : (found : ℕ) → (client_after shape client found).worker ≡ client.worker
  word_worker found = (word_kept found).1

  pub asked_ops : (asked : Call)
      → ops_so_far (client_ask shape client asked).txn ≤ ops_so_far client.txn + (call_room shape asked).ops
  asked_ops asked = (asked_kept asked).0

  pub asked_worker : (asked : Call) → (client_ask shape client asked).worker ≡ client.worker
  asked_worker asked = (asked_kept asked).1
