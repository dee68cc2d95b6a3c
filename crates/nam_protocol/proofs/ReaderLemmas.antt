-- A client as a reader, after each word: of a read it stands where the word leads, and elsewhere it begins one at most.
use Rattle.std.proofs.Common.{List, None, Option, Some, refl, ℕ, ◌+◌, ◌-◌, ◌≡◌}
use Rattle.std.proofs.lemmas.Bool.{cond_both}
use Rattle.si_model.specs.declared.op.Op.{Op}
use Rattle.si_model.specs.Evaluation.{op_key}
use Rattle.si_model.specs.Rows.{key_at, writes_key}
use Rattle.nam_verbs.specs.declared.now.Now.{Now}
use Rattle.nam_verbs.specs.declared.now.Now.TheVariants.{At, Over}
use Rattle.nam_verbs.proofs.TestLemmas.{by_equal, by_test}
use Rattle.nam_catalog.specs.declared.shape.Shape.{Shape}
use Rattle.nam_calls.specs.declared.index.ClaimKeyPoint.{ClaimKeyPoint}
use Rattle.nam_calls.specs.declared.reading.ReadPoint.{ReadPoint}
use Rattle.nam_calls.specs.declared.reading.ReadingEnd.{ReadingEnd}
use Rattle.nam_calls.specs.Reading.{sight_of}
use Rattle.nam_calls.specs.Words.{capacity_of}
use Rattle.nam_calls.specs.declared.reading.ReadingEnd.TheVariants as read_end
use Rattle.nam_protocol.specs.declared.client.CallPoint.TheVariants.{Scanning}
use Rattle.nam_protocol.specs.declared.client.ClientState.{ClientState}
use Rattle.nam_protocol.specs.declared.client.Open.{Open}
use Rattle.nam_protocol.specs.declared.scan.ScanPoint.{ScanPoint}
use Rattle.nam_protocol.specs.declared.scan.ScanPoint.TheVariants.{ScanKey, ScanRead}
use Rattle.nam_protocol.specs.declared.txn.TxnPoint.TheVariants.{Finding, Claiming}
use Rattle.nam_protocol.specs.declared.txn.TxnState.{TxnState}
use Rattle.nam_protocol.specs.Client.{take_scan}
use Rattle.nam_protocol.specs.Operations.{own_value}
use Rattle.nam_protocol.specs.Reader.{Reader, ReadsAnew, ReadsOn, reader_of}
use Rattle.nam_protocol.specs.Scan.{in_range, on_scan_read, scan_skip}
use Rattle.nam_protocol.specs.ScanCall.{on_scan}
use Rattle.nam_protocol.specs.Telling.{stepped}
use Rattle.nam_protocol.specs.Txn.{Stepped, ask_op, on_read, on_value}
use Rattle.nam_protocol.specs.TxnCalls.{txn_after}
use Rattle.nam_protocol.proofs.GoesClient.{left_goes}
use Rattle.nam_protocol.proofs.GoesTxn.{ask_goes, claiming_goes, finding_goes, valued_goes}
use Rattle.nam_protocol.specs.declared.scan.ScanAnswer.TheVariants as scan_answer

module _ (shape : Shape) where
  -- 1. A transaction's call

  module _ (client : ClientState) (attempt : Open) (before : ℕ) where
    abbrev later : Stepped → Option Reader
    later step = reader_of shape (stepped client attempt before step)

    abbrev state : TxnState
    state = attempt.state

    valued_reads : (op : Op) (value : Option (List ℕ)) → later (on_value shape state op value) ≡ None
    valued_reads op value =
        valued_goes shape (λ step. later step ≡ None) op state value (λ e. refl) (λ answer silent. refl)

    pub on_read_reads : (op : Op) (position : ℕ) (at : ReadPoint) (now : Now ReadPoint ReadingEnd)
        → ReadsOn record { sight = sight_of shape (op_key op).table position; seen = state.seen; at = at }
        (later (on_read shape state op position now)) now
    on_read_reads op position at (At next) = refl
    on_read_reads op position at (Over (read_end.Got value)) = valued_reads op value
    on_read_reads op position at (Over (read_end.Passed worker entry horizon)) = refl
    on_read_reads op position at (Over read_end.Astray) = refl

    pub find_reads : (op : Op) (passed found : ℕ) → ReadsAnew (later (txn_after shape state (Finding op passed) found))
    find_reads op passed found =
        finding_goes shape (λ step. ReadsAnew (later step)) op state passed found (λ next e. tt) (λ position e. refl)
        (λ e f. tt) (λ e answer silent. tt)

    pub claim_reads : (op : Op) (at : ClaimKeyPoint) (found : ℕ)
        → ReadsAnew (later (txn_after shape state (Claiming op at) found))
    claim_reads op at found =
        claiming_goes shape (λ step. ReadsAnew (later step)) op state at found (λ next e. tt) (λ e. tt)
        (λ position e answer silent f. tt)

    pub ask_reads : (op : Op) → later (ask_op shape state op) ≡ None
    ask_reads op =
        ask_goes shape (λ step. later step ≡ None) op state (λ e f. refl) (λ e f. refl) (λ e f. refl) (λ e f. refl)

  -- 2. A scan

  module _ (client : ClientState) (attempt : Open) (table low high position : ℕ) where
    abbrev scans_at : ScanPoint → ClientState
    scans_at at = record client { call = Some (At (Scanning table low high at)); txn = Some attempt }

    pub scan_key_reads : (found : ℕ) → let at = ScanKey position in
        ReadsAnew (reader_of shape (take_scan shape (scans_at at) table low high at (Some attempt) found))
    scan_key_reads found =
        let c = scans_at (ScanKey position) in
        let Anew : ClientState → Type 0 = λ d. ReadsAnew (reader_of shape d) in
        let key = found - 1 in
        let own = key_at table key in
        by_test (λ now. Anew (on_scan shape c attempt table low high position now)) (in_range low high found)
        (Over (scan_answer.Key key)) (scan_skip shape table position)
        (λ e. cond_both (writes_key attempt.state.writes own) _ _ Anew
        (λ f. left_goes Anew shape c attempt table low high position key (own_value attempt.state.writes own)
        (λ rows g. tt) (λ rows. tt))
        (λ f. refl))
        (λ e. by_equal (λ now. Anew (on_scan shape c attempt table low high position now)) (position + 1)
        (capacity_of shape table) (Over scan_answer.Done) (At (ScanKey (position + 1))) (λ f. tt) (λ f. tt))

    pub scan_read_reads : (key : ℕ) (at : ReadPoint) (now : Now ReadPoint ReadingEnd)
        → let c = scans_at (ScanRead position key at) in
        ReadsOn record { sight = sight_of shape table position; seen = attempt.state.seen; at = at }
        (reader_of shape (on_scan shape c attempt table low high position (on_scan_read table position key now))) now
    scan_read_reads key at (At next) = refl
    scan_read_reads key at (Over (read_end.Got value)) =
        left_goes (λ d. reader_of shape d ≡ None) shape (scans_at (ScanRead position key at)) attempt table low high
        position key value (λ rows e. refl) (λ rows. refl)
    scan_read_reads key at (Over (read_end.Passed worker entry horizon)) = refl
    scan_read_reads key at (Over read_end.Astray) = refl
