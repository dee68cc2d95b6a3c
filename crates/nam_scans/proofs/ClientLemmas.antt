-- What a client's scan has gathered after each word that the client takes and each call that it is asked.
use Rattle.std.proofs.Common.{List, None, Option, Some, arith, refl, subst, sym, ℕ, ◌∙◌, ◌≡◌}
use Rattle.nam_calls.specs.Horizon.{collect_after}
use Rattle.nam_calls.specs.Index.{find_after}
use Rattle.nam_calls.specs.Mover.{move_after}
use Rattle.nam_calls.specs.Reading.{read_after}
use Rattle.nam_calls.specs.Words.{path_of}
use Rattle.nam_calls.specs.declared.reading.ReadingEnd.TheVariants.{Got}
use Rattle.nam_catalog.specs.declared.shape.Shape.{Shape}
use Rattle.nam_ghost.proofs.IdleLemmas.{place_is}
use Rattle.nam_ghost.specs.Keys.{ViewOk, key_view}
use Rattle.nam_ghost.specs.Versions.{Chain}
use Rattle.nam_ghost.specs.Wanted.{IsNewest}
use Rattle.nam_layout.specs.Place.{bucket_of, cells_by, cells_of, place_of}
use Rattle.nam_layout.specs.declared.field.Field.{Field}
use Rattle.nam_protocol.proofs.GoesClient.{begin_goes, collect_goes, move_goes, seek_goes, snap_goes, stepped_goes}
use Rattle.nam_protocol.specs.Client.{ask_scan, ask_txn, call_after, call_verb, client_after, client_ask, take_scan}
use Rattle.nam_protocol.specs.Client.{take_txn, with_call}
use Rattle.nam_protocol.specs.Reader.{Reader, reader_at, reader_of}
use Rattle.nam_protocol.specs.Scan.{scan_verb}
use Rattle.nam_protocol.specs.Telling.{go, stepped}
use Rattle.nam_protocol.specs.Txn.{Stepped}
use Rattle.nam_protocol.specs.TxnCalls.{txn_after, txn_ask}
use Rattle.nam_protocol.specs.declared.client.Call.{Call}
use Rattle.nam_protocol.specs.declared.client.CallPoint.{CallPoint}
use Rattle.nam_protocol.specs.declared.client.CallPoint.TheVariants.{Beginning, Collecting, InTxn, Moving, Scanning}
use Rattle.nam_protocol.specs.declared.client.CallPoint.TheVariants.{Seeking, Snapping}
use Rattle.nam_protocol.specs.declared.client.ClientState.{ClientState}
use Rattle.nam_protocol.specs.declared.client.Open.{Open}
use Rattle.nam_protocol.specs.declared.scan.ScanPoint.{ScanPoint}
use Rattle.nam_protocol.specs.declared.scan.ScanPoint.TheVariants.{ScanKey, ScanRead}
use Rattle.nam_protocol.specs.declared.txn.TxnCall.{TxnCall}
use Rattle.nam_protocol.specs.declared.txn.TxnPoint.{TxnPoint}
use Rattle.nam_scans.proofs.WordLemmas.{key_goes, read_goes}
use Rattle.nam_scans.specs.Gathered.{ScanClientOk}
use Rattle.nam_store.specs.Changed.{Changed}
use Rattle.nam_store.specs.Store.{next_verb}
use Rattle.nam_vector.specs.Snap.{snap_after}
use Rattle.nam_verbs.specs.VerbAt.{VerbAt, found_at, left_at, target}
use Rattle.nam_verbs.specs.declared.now.Now.TheVariants.{At, Over}
use Rattle.nam_protocol.specs.declared.client.Call.TheVariants as call

module _ (shape : Shape) (now : Field → ℕ) (chains : ℕ → Chain) where
  abbrev pub Keeps : ClientState → Type 0
  Keeps client = ScanClientOk shape now chains client.call client.txn client.scanned

  -- a step of a transaction leads to no scan
  stepped_keeps : (client : ClientState) (attempt : Open) (before : ℕ) (step : Stepped)
      → Keeps (stepped client attempt before step)
  stepped_keeps client attempt before step =
      stepped_goes Keeps client attempt before step (λ place e. tt) (λ answer e. tt)

  -- 1. A word is taken

  module _ (m : Field → ℕ) (found : ℕ) where
    -- what the verb finds and leaves
    abbrev pub Did : VerbAt Field → Type 0
    Did verb = (found ≡ found_at m verb) × Changed shape m now (target verb) (left_at m verb)

    -- a read that the word ends gets the newest version that its snapshot sees
    abbrev pub ReadsNewest : Option Reader → Type 0
    ReadsNewest opened = (reader : Reader) → opened ≡ Some reader → (value : Option (List ℕ))
        → read_after reader.sight reader.seen reader.at found ≡ Over (Got value)
        → IsNewest reader.seen (chains reader.sight.place.row) value

    scan_word : (client : ClientState) (table low high : ℕ) (at : ScanPoint) (opened : Option Open)
        → let place = Scanning table low high at in
        let before = record client { call = Some (At place); txn = opened } in
        ViewOk shape now (key_view (Some (At place))) → Keeps before → Did (scan_verb shape table at)
        → ReadsNewest (reader_at shape opened place) → Keeps (take_scan shape before table low high at opened found)
    scan_word client table low high at None view ok did newest = tt
    scan_word client table low high (ScanKey position) (Some attempt) view ok did newest =
        key_goes shape now chains (record client { call = Some (At (Scanning table low high (ScanKey position))) })
        attempt table low high position Keeps (λ rows gathered. record { gathered = gathered; key = tt; others = tt })
        (λ rows gathered all. tt) client.scanned found (did.1.here ∙ sym did.0) ok.gathered (λ key reads. reads)
    scan_word client table low high (ScanRead position key at) (Some attempt) view ok did newest =
        read_goes shape now chains
        (record client { call = Some (At (Scanning table low high (ScanRead position key at))) }) attempt table low high
        position Keeps (λ rows gathered. record { gathered = gathered; key = tt; others = tt })
        (λ rows gathered all. tt) client.scanned key at found view ok (λ value e. newest _ refl value e)
        (λ later. record { gathered = ok.gathered; key = ok.key; others = ok.others }) (λ outcome end. tt)

    txn_word : (client : ClientState) (at : TxnPoint) (opened : Option Open)
        → Keeps (take_txn shape (record client { call = Some (At (InTxn at)); txn = opened }) at opened found)
    txn_word client at None = tt
    txn_word client at (Some attempt) =
        stepped_keeps (record client { call = Some (At (InTxn at)); txn = Some attempt }) attempt _
        (txn_after shape attempt.state at found)

    word_keeps : (client : ClientState) (place : CallPoint) → let before = go client place in
        ViewOk shape now (key_view (Some (At place))) → Keeps before → Did (call_verb shape before place)
        → ReadsNewest (reader_at shape client.txn place) → Keeps (call_after shape before place found)
    word_keeps client (Beginning txn nth at) view ok did newest =
        begin_goes Keeps shape (go client (Beginning txn nth at)) txn nth (snap_after shape.workers at found)
        (λ place e. tt) (λ seen e. tt) (λ worker first second e. tt)
    word_keeps client (InTxn at) view ok did newest = txn_word client at client.txn
    word_keeps client (Scanning table low high at) view ok did newest =
        scan_word client table low high at client.txn view ok did newest
    word_keeps client (Seeking table key passed) view ok did newest =
        seek_goes Keeps shape (go client (Seeking table key passed)) table key
        (find_after (path_of shape table key) passed found) (λ later e. tt) (λ position e. tt) (λ e. tt)
    word_keeps client (Moving table key position at) view ok did newest =
        let place = place_of shape table position in
        move_goes Keeps shape (go client (Moving table key position at)) table key position (bucket_of shape place.row)
        (move_after place (cells_by shape place) at found) (λ later e. tt) (λ stamp e. tt) (λ stamp e. tt) (λ e. tt)
        (λ full e. tt)
    word_keeps client (Snapping bucket at) view ok did newest =
        snap_goes Keeps shape (go client (Snapping bucket at)) bucket (snap_after shape.workers at found)
        (λ place e. tt) (λ seen e. tt) (λ worker first second e. tt)
    word_keeps client (Collecting bucket prefix seen at) view ok did newest =
        collect_goes Keeps shape (go client (Collecting bucket prefix seen at)) bucket prefix seen
        (collect_after (cells_of shape bucket) shape.workers seen at found) (λ place e. tt) (λ known e. tt)

    pub client_keeps : (client : ClientState) (place : CallPoint) → client.call ≡ Some (At place)
        → ViewOk shape now (key_view client.call) → Keeps client → Did (next_verb shape client)
        → ReadsNewest (reader_of shape client) → Keeps (client_after shape client found)
    client_keeps client place e =
        subst (λ c. ViewOk shape now (key_view c.call) → Keeps c → Did (next_verb shape c)
        → ReadsNewest (reader_of shape c) → Keeps (client_after shape c found)) (place_is client place e)
        (word_keeps client place)

  -- 2. A call is asked

  ask_txn_keeps : (client : ClientState) (asked : TxnCall) (opened : Option Open)
      → let before = record client { txn = opened } in
      Keeps before → Keeps (ask_txn shape before asked opened)
  ask_txn_keeps client asked None ok = ok
  ask_txn_keeps client asked (Some attempt) ok =
      stepped_keeps (record client { txn = Some attempt }) (with_call attempt asked) 0
      (txn_ask shape attempt.state asked)

  -- a scan begins with no rows, as there are none before its first position
  ask_scan_keeps : (client : ClientState) (table low high : ℕ) (opened : Option Open)
      → let before = record client { txn = opened } in
      Keeps before → Keeps (ask_scan shape before table low high opened)
  ask_scan_keeps client table low high None ok = ok
  ask_scan_keeps client table low high (Some attempt) ok = record {
    gathered = record {
      only = λ row listed. absurd listed;
      each = λ row less is. absurd (omega arith);
      order = tt;
    };
    key = tt;
    others = tt;
  }

  pub ask_keeps : (client : ClientState) (asked : Call) → Keeps client → Keeps (client_ask shape client asked)
  ask_keeps client (call.Begin txn nth) ok = tt
  ask_keeps client (call.Txn asked) ok = ask_txn_keeps client asked client.txn ok
  ask_keeps client (call.Scan table low high) ok = ask_scan_keeps client table low high client.txn ok
  ask_keeps client (call.Tidy table key) ok = tt
  ask_keeps client (call.Collect bucket) ok = tt
