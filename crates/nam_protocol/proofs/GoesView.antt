-- How a group of invariants says that a call does not concern it, shown on the view of a client's commit in progress.
use Rattle.std.proofs.Common.{◌≡◌, ℕ, List, Option, Some, None, refl}
use Rattle.si_model.specs.declared.op.Op.{Op}
use Rattle.nam_verbs.specs.declared.now.Now.{Now}
use Rattle.nam_verbs.specs.declared.now.Now.TheVariants.{At}
use Rattle.nam_catalog.specs.declared.shape.Shape.{Shape}
use Rattle.nam_calls.specs.declared.index.ClaimKeyPoint.{ClaimKeyPoint}
use Rattle.nam_calls.specs.declared.reading.ReadPoint.{ReadPoint}
use Rattle.nam_calls.specs.declared.ring.CopyPoint.{CopyPoint}
use Rattle.nam_calls.specs.Record.{install_begin}
use Rattle.nam_protocol.specs.declared.scan.ScanPoint.{ScanPoint}
use Rattle.nam_protocol.specs.declared.txn.Record.{Record}
use Rattle.nam_protocol.specs.declared.txn.CommitPoint.{CommitPoint}
use Rattle.nam_protocol.specs.declared.txn.CommitPoint.TheVariants.{Copying, Installing}
use Rattle.nam_protocol.specs.declared.txn.TxnPoint.{TxnPoint}
use Rattle.nam_protocol.specs.declared.txn.TxnPoint.TheVariants.{Finding, Reading, Claiming, Committing}
use Rattle.nam_protocol.specs.declared.client.Answer.{Answer}
use Rattle.nam_protocol.specs.declared.client.CallPoint.{CallPoint}
use Rattle.nam_protocol.specs.declared.client.CallPoint.TheVariants.{Beginning, InTxn, Scanning, Seeking, Moving}
use Rattle.nam_protocol.specs.declared.client.CallPoint.TheVariants.{Snapping, Collecting}
use Rattle.nam_protocol.specs.declared.client.Open.{Open}
use Rattle.nam_protocol.specs.declared.client.ClientState.{ClientState}
use Rattle.nam_protocol.specs.Txn.{Stepped, ask_op}
use Rattle.nam_protocol.specs.TxnCalls.{txn_after}
use Rattle.nam_protocol.specs.Commit.{value_at}
use Rattle.nam_protocol.specs.Telling.{go, stepped}
use Rattle.nam_protocol.specs.Client.{take_txn, take_scan, client_after}
use Rattle.nam_protocol.proofs.GoesTxn.{ask_goes, finding_goes, reading_goes, claiming_goes}
use Rattle.nam_protocol.proofs.GoesCommit.{on_copy_goes}
use Rattle.nam_protocol.proofs.GoesClient.{scan_goes, begin_goes, seek_goes, move_goes, snap_goes, collect_goes}

-- 1. The view: of a commit in progress its records, the headers of its locks, and its point

pub record CommitView : Type 0 where
  pub records : List Record
  pub held : List ℕ
  pub place : CommitPoint

abbrev pub commit_in : Option (Now CallPoint Answer) → Option Open → Option CommitView
commit_in (Some (At (InTxn (Committing place)))) (Some attempt) =
    Some record { records = attempt.state.records; held = attempt.state.held; place = place }
commit_in _ _ = None

abbrev pub commit_view : ClientState → Option CommitView
commit_view client = commit_in client.call client.txn

-- the client commits nothing
abbrev pub Idle : ClientState → Type 0
Idle client = commit_view client ≡ None

-- 2. An operation's word is quiet: one line for each point that may follow, and one for the answers

module _ (shape : Shape) (client : ClientState) (attempt : Open) where
  abbrev Quiet : Stepped → Type 0
  Quiet step = Idle (stepped client attempt 0 step)

  pub finding_quiet : (op : Op) (passed found : ℕ) → Quiet (txn_after shape attempt.state (Finding op passed) found)
  finding_quiet op passed found =
      finding_goes shape Quiet op attempt.state passed found (λ next e. refl) (λ position e. refl)
      (λ e f. refl) (λ e answer s. refl)

  pub reading_quiet : (op : Op) (position : ℕ) (place : ReadPoint) (found : ℕ)
      → Quiet (txn_after shape attempt.state (Reading op position place) found)
  reading_quiet op position place found =
      reading_goes shape Quiet op attempt.state position place found (λ next e. refl)
      (λ value e f. refl) (λ value e answer s. refl) (λ worker entry horizon e. refl) (λ e. refl)

  pub claiming_quiet : (op : Op) (place : ClaimKeyPoint) (found : ℕ)
      → Quiet (txn_after shape attempt.state (Claiming op place) found)
  claiming_quiet op place found =
      claiming_goes shape Quiet op attempt.state place found (λ next e. refl) (λ e. refl)
      (λ position e answer s f. refl)

  pub ask_quiet : (op : Op) → Quiet (ask_op shape attempt.state op)
  ask_quiet op = ask_goes shape Quiet op attempt.state (λ e f. refl) (λ e f. refl) (λ e f. refl) (λ e f. refl)

  -- a commit that copies keeps its records and its locks
  pub copying_keeps : (nth before found : ℕ) (old : List ℕ) (at : CopyPoint)
      → (next : CommitPoint) × (commit_view
      (stepped client attempt before (txn_after shape attempt.state (Committing (Copying nth old at)) found))
      ≡ Some record { records = attempt.state.records; held = attempt.state.held; place = next })
  copying_keeps nth before found old at =
      on_copy_goes (λ step. (next : CommitPoint) × (commit_view (stepped client attempt before step)
      ≡ Some record { records = attempt.state.records; held = attempt.state.held; place = next })) attempt.state nth
      old _
      (λ place e. (Copying nth old place, refl))
      (λ e. (Installing nth (install_begin (value_at attempt.state nth)), refl))

-- 3. So is each word of a client that commits nothing

abbrev in_txn : ClientState → TxnPoint → Option Open → ClientState
in_txn client place txn = record client { call = Some (At (InTxn place)); txn = txn }

module _ (shape : Shape) where
  take_quiet : (client : ClientState) (place : TxnPoint) (txn : Option Open) (found : ℕ)
      → Idle (in_txn client place txn) → Idle (take_txn shape (in_txn client place txn) place txn found)
  take_quiet client place None found idle = idle
  take_quiet client (Finding op passed) (Some attempt) found idle =
      finding_quiet shape (in_txn client (Finding op passed) (Some attempt)) attempt op passed found
  take_quiet client (Reading op position place) (Some attempt) found idle =
      reading_quiet shape (in_txn client (Reading op position place) (Some attempt)) attempt op position place found
  take_quiet client (Claiming op place) (Some attempt) found idle =
      claiming_quiet shape (in_txn client (Claiming op place) (Some attempt)) attempt op place found
  take_quiet client (Committing place) (Some attempt) found idle = absurd (cc)

  scan_quiet : (client : ClientState) (table low high : ℕ) (place : ScanPoint) (txn : Option Open) (found : ℕ)
      → Idle (take_scan shape (record client { call = Some (At (Scanning table low high place)); txn = txn }) table
      low high place txn found)
  scan_quiet client table low high place None found = refl
  scan_quiet client table low high place (Some attempt) found =
      scan_goes Idle shape _ attempt table low high _ _ (λ next e. refl) (λ key e. refl)
      (λ rows e. refl) (λ rows. refl) (λ outcome end e. refl)

  pub word_quiet : (client : ClientState) (place : CallPoint) (found : ℕ)
      → Idle (go client place) → Idle (client_after shape (go client place) found)
  word_quiet client (Beginning txn nth at) found idle =
      begin_goes Idle shape (go client (Beginning txn nth at)) txn nth _ (λ next e. refl) (λ seen e. refl)
      (λ worker first second e. refl)
  word_quiet client (InTxn at) found idle = take_quiet client at client.txn found idle
  word_quiet client (Scanning table low high at) found idle = scan_quiet client table low high at client.txn found
  word_quiet client (Seeking table key passed) found idle =
      seek_goes Idle shape (go client (Seeking table key passed)) table key _ (λ next e. refl) (λ position e. refl)
      (λ e. refl)
  word_quiet client (Moving table key position at) found idle =
      move_goes Idle shape (go client (Moving table key position at)) table key position _ _
      (λ next e. refl) (λ stamp e. refl) (λ stamp e. refl) (λ e. refl) (λ full e. refl)
  word_quiet client (Snapping bucket at) found idle =
      snap_goes Idle shape (go client (Snapping bucket at)) bucket _ (λ next e. refl) (λ seen e. refl)
      (λ worker first second e. refl)
  word_quiet client (Collecting bucket prefix seen at) found idle =
      collect_goes Idle shape (go client (Collecting bucket prefix seen at)) bucket prefix seen _ (λ next e. refl)
      (λ known e. refl)
