-- Each word that a client takes is a step of one of the sorts, and each call that it is asked too.
use Rattle.std.specs.Prelude.{IsSome}
use Rattle.std.proofs.Common.{None, Option, Some, ap, refl, subst, sym, ℕ, ◌≡◌}
use Rattle.si_model.specs.declared.op.Op.{Op}
use Rattle.si_model.specs.Evaluation.{op_key}
use Rattle.si_model.specs.declared.op.Op.TheVariants as op
use Rattle.nam_verbs.specs.declared.now.Now.{Now}
use Rattle.nam_verbs.specs.declared.now.Now.TheVariants.{At}
use Rattle.nam_catalog.specs.declared.shape.Shape.{Shape}
use Rattle.nam_calls.specs.declared.mover.MovePoint.{MovePoint}
use Rattle.nam_calls.specs.Index.{find_begin}
use Rattle.nam_calls.specs.Mover.{move_begin}
use Rattle.nam_calls.specs.Reading.{read_after, sight_of}
use Rattle.nam_protocol.specs.declared.client.Answer.{Answer}
use Rattle.nam_protocol.specs.declared.client.Call.{Call}
use Rattle.nam_protocol.specs.declared.client.CallPoint.{CallPoint}
use Rattle.nam_protocol.specs.declared.client.CallPoint.TheVariants.{Beginning, InTxn, Scanning, Seeking, Moving}
use Rattle.nam_protocol.specs.declared.client.CallPoint.TheVariants.{Snapping, Collecting}
use Rattle.nam_protocol.specs.declared.client.ClientState.{ClientState}
use Rattle.nam_protocol.specs.declared.client.Open.{Open}
use Rattle.nam_protocol.specs.declared.scan.ScanPoint.{ScanPoint}
use Rattle.nam_protocol.specs.declared.scan.ScanPoint.TheVariants.{ScanKey, ScanRead}
use Rattle.nam_protocol.specs.declared.txn.TxnCall.{TxnCall}
use Rattle.nam_protocol.specs.declared.txn.TxnCall.TheVariants.{Get, Put, Add, Del, Need, Guard, Commit}
use Rattle.nam_protocol.specs.declared.txn.TxnPoint.{TxnPoint}
use Rattle.nam_protocol.specs.declared.txn.TxnPoint.TheVariants.{Finding, Reading, Claiming, Committing}
use Rattle.nam_protocol.specs.Client.{ask_scan, ask_txn, client_after, client_ask, with_call, take_scan, take_txn}
use Rattle.nam_protocol.specs.ClientFits.{CallFits, CallPointFits, ClientFits, NowFits, OpenPointFits}
use Rattle.nam_protocol.specs.Plain.{KeepsOpen, Plain, SameBegin}
use Rattle.nam_protocol.specs.Reader.{Reader, ReadsAnew, reader_at, reader_of}
use Rattle.nam_protocol.specs.Sorts.{AskOf, StepOf, word_taken, AsksPlain, AsksBegin, AsksCollect, AsksCommit, Finds}
use Rattle.nam_protocol.specs.Sorts.{Reads, Moves, Collects, Begins, Snaps, Commits}
use Rattle.nam_protocol.specs.Telling.{go, stepped}
use Rattle.nam_protocol.specs.Txn.{ask_op}
use Rattle.nam_protocol.proofs.FallsClient.{some_open}
use Rattle.nam_protocol.proofs.GoesClient.{seek_goes}
use Rattle.nam_protocol.proofs.PlainLemmas.{ask_op_plain, ask_scan_plain, collect_plain, move_plain, operation_plain}
use Rattle.nam_protocol.proofs.PlainLemmas.{scan_plain, seek_plain, tidy_plain}
use Rattle.nam_protocol.proofs.ReaderLemmas.{ask_reads, claim_reads, find_reads, on_read_reads, scan_key_reads}
use Rattle.nam_protocol.proofs.ReaderLemmas.{scan_read_reads}
use Rattle.nam_protocol.specs.declared.client.Call.TheVariants as call

module _ (shape : Shape) (found : ℕ) where
  -- 1. A word is taken

  txn_sort : (client : ClientState) (at : TxnPoint) (opened : Option Open) → OpenPointFits shape opened at
      → let c = record client { call = Some (At (InTxn at)); txn = opened } in
      StepOf shape found c (take_txn shape c at opened found)
  txn_sort client at None fits = absurd fits
  txn_sort client (Finding op passed) (Some attempt) fits =
      let c = record client { call = Some (At (InTxn (Finding op passed))); txn = Some attempt } in
      Finds c (InTxn (Finding op passed)) tt (operation_plain c attempt 0 shape (Finding op passed) found tt)
      (find_reads shape c attempt 0 op passed found)
  txn_sort client (Reading op position at) (Some attempt) fits =
      let c = record client { call = Some (At (InTxn (Reading op position at))); txn = Some attempt } in
      let reader : Reader =
      record { sight = sight_of shape (op_key op).table position; seen = attempt.state.seen; at = at } in
      Reads c (InTxn (Reading op position at)) reader refl
      (operation_plain c attempt 0 shape (Reading op position at) found tt)
      (on_read_reads shape c attempt 0 op position at (read_after reader.sight reader.seen at found))
  txn_sort client (Claiming op at) (Some attempt) fits =
      let c = record client { call = Some (At (InTxn (Claiming op at))); txn = Some attempt } in
      Finds c (InTxn (Claiming op at)) tt (operation_plain c attempt 0 shape (Claiming op at) found tt)
      (claim_reads shape c attempt 0 op at found)
  txn_sort client (Committing at) (Some attempt) fits = Commits client attempt at

  scan_sort : (client : ClientState) (table low high : ℕ) (at : ScanPoint) (opened : Option Open) → IsSome opened
      → let c = record client { call = Some (At (Scanning table low high at)); txn = opened } in
      StepOf shape found c (take_scan shape c table low high at opened found)
  scan_sort client table low high at None some = absurd (cc)
  scan_sort client table low high (ScanKey position) (Some attempt) some =
      let c = record client { call = Some (At (Scanning table low high (ScanKey position))); txn = Some attempt } in
      Finds c (Scanning table low high (ScanKey position)) tt
      (scan_plain shape client table low high (ScanKey position) (Some attempt) found)
      (scan_key_reads shape client attempt table low high position found)
  scan_sort client table low high (ScanRead position key at) (Some attempt) some =
      let place = ScanRead position key at in
      let c = record client { call = Some (At (Scanning table low high place)); txn = Some attempt } in
      let reader : Reader = record { sight = sight_of shape table position; seen = attempt.state.seen; at = at } in
      Reads c (Scanning table low high place) reader refl
      (scan_plain shape client table low high place (Some attempt) found)
      (scan_read_reads shape client attempt table low high position key at
      (read_after reader.sight reader.seen at found))

  -- a tidying reads no version, whatever transaction is open
  seeks : (opened : Option Open) (table key passed : ℕ) → ReadsAnew (reader_at shape opened (Seeking table key passed))
  seeks None table key passed = tt
  seeks (Some attempt) table key passed = tt

  moves : (opened : Option Open) (table key position : ℕ) (at : MovePoint)
      → ReadsAnew (reader_at shape opened (Moving table key position at))
  moves None table key position at = tt
  moves (Some attempt) table key position at = tt

  seek_reads : (client : ClientState) (table key passed : ℕ)
      → ReadsAnew (reader_of shape (word_taken shape found client (Seeking table key passed)))
  seek_reads client table key passed =
      seek_goes (λ d. ReadsAnew (reader_of shape d)) shape (go client (Seeking table key passed)) table key _
      (λ next e. seeks client.txn table key next) (λ position e. moves client.txn table key position move_begin)
      (λ e. tt)

  pub step_sort : (client : ClientState) (place : CallPoint) → CallPointFits shape client.txn place
      → StepOf shape found (go client place) (word_taken shape found client place)
  step_sort client (Beginning txn nth at) fits = Begins client txn nth at
  step_sort client (InTxn at) fits = txn_sort client at client.txn fits
  step_sort client (Scanning table low high at) fits = scan_sort client table low high at client.txn fits.0
  step_sort client (Seeking table key passed) fits =
      Finds client (Seeking table key passed) tt
      (seek_plain shape (go client (Seeking table key passed)) table key passed found)
      (seek_reads client table key passed)
  step_sort client (Moving table key position at) fits =
      Moves client table key position at
      (move_plain shape (go client (Moving table key position at)) table key position at found)
  step_sort client (Snapping bucket at) fits = Snaps client bucket at
  step_sort client (Collecting bucket prefix seen at) fits =
      Collects client bucket prefix seen at
      (collect_plain shape (go client (Collecting bucket prefix seen at)) bucket prefix seen at found)

  -- of a client whose call runs
  pub word_sort : (client : ClientState) (place : CallPoint) → ClientFits shape client → client.call ≡ Some (At place)
      → StepOf shape found client (client_after shape client found)
  word_sort client place fits e =
      let fits_here : CallPointFits shape client.txn place = subst (NowFits shape client.txn) e fits.2 in
      let same : go client place ≡ client =
      ap (λ (call : Option (Now CallPoint Answer)). record client { call = call }) (sym e) in
      subst (λ c. StepOf shape found c (client_after shape c found)) same (step_sort client place fits_here)

-- 2. A call is asked

module _ (shape : Shape) where
  -- the call is counted, and the transaction is as it was
  recounted : (attempt counts : Open) (later : Option Open) → counts.state ≡ attempt.state
      → KeepsOpen (Some counts) later → KeepsOpen (Some attempt) later
  recounted attempt counts None same kept = tt
  recounted attempt counts (Some later) same kept = subst (λ state. SameBegin state later.state) same kept

  asked_plain : (client : ClientState) (attempt counts : Open) (op : Op) → counts.state ≡ attempt.state
      → Plain (record client { txn = Some attempt })
      (stepped (record client { txn = Some attempt }) counts 0 (ask_op shape counts.state op))
  asked_plain client attempt counts op same =
      let c = record client { txn = Some attempt } in
      let p = ask_op_plain c counts 0 shape op in
      record {
        worker = p.worker;
        start = p.start;
        last = p.last;
        cut = p.cut;
        snaps = p.snaps;
        opened = recounted attempt counts _ same p.opened;
        aside = p.aside;
      }

  ask_txn_sort : (client : ClientState) (call : TxnCall) (opened : Option Open) → IsSome opened
      → let c = record client { txn = opened } in AskOf shape c (ask_txn shape c call opened)
  ask_txn_sort client call None some = absurd (cc)
  ask_txn_sort client (Get t k) (Some attempt) some =
      let c = record client { txn = Some attempt } in
      AsksPlain c (call.Txn (Get t k))
      (asked_plain client attempt (with_call attempt (Get t k)) (op.Get t k) refl)
      (ask_reads shape c (with_call attempt (Get t k)) 0 (op.Get t k))
  ask_txn_sort client (Put t k v) (Some attempt) some =
      let c = record client { txn = Some attempt } in
      AsksPlain c (call.Txn (Put t k v))
      (asked_plain client attempt (with_call attempt (Put t k v)) (op.Put t k v) refl)
      (ask_reads shape c (with_call attempt (Put t k v)) 0 (op.Put t k v))
  ask_txn_sort client (Add t k f up by) (Some attempt) some =
      let c = record client { txn = Some attempt } in
      AsksPlain c (call.Txn (Add t k f up by))
      (asked_plain client attempt (with_call attempt (Add t k f up by)) (op.Add t k f up by) refl)
      (ask_reads shape c (with_call attempt (Add t k f up by)) 0 (op.Add t k f up by))
  ask_txn_sort client (Del t k) (Some attempt) some =
      let c = record client { txn = Some attempt } in
      AsksPlain c (call.Txn (Del t k))
      (asked_plain client attempt (with_call attempt (Del t k)) (op.Del t k) refl)
      (ask_reads shape c (with_call attempt (Del t k)) 0 (op.Del t k))
  ask_txn_sort client (Need t k f least) (Some attempt) some =
      let c = record client { txn = Some attempt } in
      AsksPlain c (call.Txn (Need t k f least))
      (asked_plain client attempt (with_call attempt (Need t k f least)) (op.Need t k f least) refl)
      (ask_reads shape c (with_call attempt (Need t k f least)) 0 (op.Need t k f least))
  ask_txn_sort client (Guard t k) (Some attempt) some =
      let c = record client { txn = Some attempt } in
      AsksPlain c (call.Txn (Guard t k))
      (asked_plain client attempt (with_call attempt (Guard t k)) (op.Guard t k) refl)
      (ask_reads shape c (with_call attempt (Guard t k)) 0 (op.Guard t k))
  ask_txn_sort client Commit (Some attempt) some = AsksCommit client attempt

  ask_scan_sort : (client : ClientState) (table low high : ℕ) (opened : Option Open) → IsSome opened
      → let c = record client { txn = opened } in AskOf shape c (ask_scan shape c table low high opened)
  ask_scan_sort client table low high None some = absurd (cc)
  ask_scan_sort client table low high (Some attempt) some =
      AsksPlain (record client { txn = Some attempt }) (call.Scan table low high)
      (ask_scan_plain shape client table low high (Some attempt) some) refl

  tidy_reads : (opened : Option Open) (table key : ℕ)
      → reader_at shape opened (Seeking table key find_begin) ≡ None
  tidy_reads None table key = refl
  tidy_reads (Some attempt) table key = refl

  pub ask_sort : (client : ClientState) (asked : Call) → CallFits shape client.txn asked
      → AskOf shape client (client_ask shape client asked)
  ask_sort client (call.Begin txn nth) fits = AsksBegin client txn nth
  ask_sort client (call.Txn asked) fits = ask_txn_sort client asked client.txn (some_open shape client.txn asked fits)
  ask_sort client (call.Scan table low high) fits = ask_scan_sort client table low high client.txn fits.0
  ask_sort client (call.Tidy table key) fits =
      AsksPlain client (call.Tidy table key) (tidy_plain shape client table key) (tidy_reads client.txn table key)
  ask_sort client (call.Collect bucket) fits = AsksCollect client bucket
