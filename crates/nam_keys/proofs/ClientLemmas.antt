-- What a client knows of keys after each word that it takes and each call that it is asked, and which key words its
-- verb changes.
use Rattle.std.proofs.Common.{None, Option, Some, inl, subst, sym, ℕ, ◌∙◌, ◌≡◌, ◌≢◌}
use Rattle.std.proofs.lemmas.Option.{none-some}
use Rattle.nam_calls.proofs.FieldLemmas.{row_within}
use Rattle.nam_calls.specs.Horizon.{collect_after}
use Rattle.nam_calls.specs.Index.{nth_key}
use Rattle.nam_calls.specs.Mover.{move_after}
use Rattle.nam_calls.specs.Words.{key_word, path_of}
use Rattle.nam_calls.specs.declared.index.ClaimKeyPoint.TheVariants.{KeyLook, KeyTake}
use Rattle.nam_catalog.specs.Fits.{FitsLimits}
use Rattle.nam_catalog.specs.declared.shape.Shape.{Shape}
use Rattle.nam_ghost.proofs.IdleLemmas.{place_is}
use Rattle.nam_ghost.proofs.KeyLemmas.{view_fits}
use Rattle.nam_ghost.specs.Keys.{KeyClientOk, KeyView, KeysNext, LooksFor, ViewFits, claim_view, key_view, txn_view}
use Rattle.nam_keys.proofs.ScanLemmas.{key_tells, read_tells}
use Rattle.nam_keys.proofs.TellLemmas.{find_tells, look_tells, none_past, take_tells}
use Rattle.nam_keys.proofs.TxnLemmas.{asked_tells, claiming_tells, committing_tells, finding_tells, reading_tells}
use Rattle.nam_keys.proofs.TxnLemmas.{stepped_tells}
use Rattle.nam_keys.proofs.WordLemmas.{claim_goes}
use Rattle.nam_keys.specs.Tells.{FindTells, KeysGo}
use Rattle.nam_layout.specs.Address.{IsRow}
use Rattle.nam_layout.specs.Place.{bucket_of, cells_by, cells_of, place_of}
use Rattle.nam_layout.specs.Rows.{row_of}
use Rattle.nam_layout.specs.declared.field.Field.{Field}
use Rattle.nam_layout.specs.declared.field.Field.TheVariants.{Key}
use Rattle.nam_protocol.proofs.GoesClient.{begin_goes, collect_goes, move_goes, seek_goes, snap_goes}
use Rattle.nam_protocol.specs.CallWrites.{call_writes, open_writes}
use Rattle.nam_protocol.specs.Client.{ask_scan, ask_txn, call_after, call_verb, client_after, client_ask, open_verb}
use Rattle.nam_protocol.specs.Client.{take_scan, take_txn, with_call}
use Rattle.nam_protocol.specs.ClientFits.{CallPointFits, ClientFits, OpenPointFits}
use Rattle.nam_protocol.specs.Scan.{scan_verb}
use Rattle.nam_protocol.specs.Telling.{go}
use Rattle.nam_protocol.specs.TxnCalls.{txn_after, txn_ask}
use Rattle.nam_protocol.specs.declared.client.Call.{Call}
use Rattle.nam_protocol.specs.declared.client.CallPoint.{CallPoint}
use Rattle.nam_protocol.specs.declared.client.CallPoint.TheVariants.{Beginning, Collecting, InTxn, Moving, Scanning}
use Rattle.nam_protocol.specs.declared.client.CallPoint.TheVariants.{Seeking, Snapping}
use Rattle.nam_protocol.specs.declared.client.ClientState.{ClientState}
use Rattle.nam_protocol.specs.declared.client.Open.{Open}
use Rattle.nam_protocol.specs.declared.scan.ScanPoint.{ScanPoint}
use Rattle.nam_protocol.specs.declared.scan.ScanPoint.TheVariants.{ScanKey, ScanRead}
use Rattle.nam_protocol.specs.declared.txn.TxnCall.{TxnCall}
use Rattle.nam_protocol.specs.declared.txn.TxnPoint.{TxnPoint}
use Rattle.nam_protocol.specs.declared.txn.TxnPoint.TheVariants.{Claiming, Committing, Finding, Reading}
use Rattle.nam_store.proofs.PathLemmas.{on_row, row_on}
use Rattle.nam_store.specs.Changed.{Changed, OthersStay, written_of}
use Rattle.nam_store.specs.Kinds.{MayWrite, Writes}
use Rattle.nam_store.specs.Store.{next_verb}
use Rattle.nam_vector.specs.Snap.{snap_after}
use Rattle.nam_verbs.proofs.TestLemmas.{by_equal}
use Rattle.nam_verbs.specs.VerbAt.{VerbAt, found_at, left_at, target}
use Rattle.nam_verbs.specs.declared.now.Now.TheVariants.{At}
use Rattle.si_model.specs.Evaluation.{op_key}
use Rattle.si_model.specs.Rows.{key_at}
use Rattle.nam_protocol.specs.declared.client.Call.TheVariants as call
use Rattle.si_model.specs.declared.row.Key as row_key

-- 1. A word is taken

module _ (shape : Shape) (limits : FitsLimits shape) (m now : Field → ℕ) (next : KeysNext shape m now) (found : ℕ) where
  -- what the verb finds and leaves
  abbrev pub Did : VerbAt Field → Type 0
  Did verb = (found ≡ found_at m verb) × Changed shape m now (target verb) (left_at m verb)

  -- a key word that was found stands
  says : (row : ℕ) → IsRow shape row → found ≡ m (Key row) → found ≢ 0 → now (Key row) ≡ found
  says row is e some = next row is (λ none. some (e ∙ none)) ∙ sym e

  says_on : (key : row_key.Key) (passed : ℕ) → ViewFits shape (LooksFor key.table key.key passed)
      → (let spot = nth_key (path_of shape key.table key.key) passed in
      found ≡ m spot → found ≢ 0 → now spot ≡ found)
  says_on key passed fits =
      says (row_on shape key.table key.key passed) (on_row shape key.table fits.0 key.key passed fits.1).within

  txn_word : (client : ClientState) (at : TxnPoint) (opened : Option Open)
      → let before = record client { call = Some (At (InTxn at)); txn = opened } in
      OpenPointFits shape opened at → KeyClientOk shape now before → Did (open_verb shape opened at)
      → KeyClientOk shape now (take_txn shape before at opened found)
  txn_word client at None fits ok did = absurd fits
  txn_word client (Finding op passed) (Some attempt) fits ok did =
      let at = Finding op passed in
      stepped_tells shape now (record client { call = Some (At (InTxn at)); txn = Some attempt }) attempt 0
      (txn_after shape attempt.state at found)
      (finding_tells shape now attempt.state ok.claims op passed found
      (find_tells shape now (op_key op) passed found ok.at
      (says_on (op_key op) passed (view_fits shape limits (Some attempt) (Some (At (InTxn at))) fits) did.0)))
  txn_word client (Reading op position read) (Some attempt) fits ok did =
      let at = Reading op position read in
      stepped_tells shape now (record client { call = Some (At (InTxn at)); txn = Some attempt }) attempt 0
      (txn_after shape attempt.state at found)
      (reading_tells shape now attempt.state ok.claims op position read found ok.at)
  txn_word client (Claiming op (KeyLook passed)) (Some attempt) fits ok did =
      let at = Claiming op (KeyLook passed) in
      stepped_tells shape now (record client { call = Some (At (InTxn at)); txn = Some attempt }) attempt 0
      (txn_after shape attempt.state at found)
      (claiming_tells shape now attempt.state ok.claims op (KeyLook passed) found
      (look_tells shape now (op_key op) passed found ok.at
      (says_on (op_key op) passed (view_fits shape limits (Some attempt) (Some (At (InTxn at))) fits) did.0)))
  txn_word client (Claiming op (KeyTake passed)) (Some attempt) fits ok did =
      let at = Claiming op (KeyTake passed) in
      let key = op_key op in
      let spot = nth_key (path_of shape key.table key.key) passed in
      stepped_tells shape now (record client { call = Some (At (InTxn at)); txn = Some attempt }) attempt 0
      (txn_after shape attempt.state at found)
      (claiming_tells shape now attempt.state ok.claims op (KeyTake passed) found
      (take_tells shape now (op_key op) passed found ok.at
      (says_on (op_key op) passed (view_fits shape limits (Some attempt) (Some (At (InTxn at))) fits) did.0)
      (by_equal (λ word. now spot ≡ word → found ≡ 0 → now spot ≡ key_word key.key) (m spot) 0 _ _
      (λ free here none. here) (λ some here none. absurd (some (sym did.0 ∙ none))) did.1.here)))
  txn_word client (Committing at) (Some attempt) fits ok did =
      stepped_tells shape now (record client { call = Some (At (InTxn (Committing at))); txn = Some attempt }) attempt
      _ (txn_after shape attempt.state (Committing at) found)
      (committing_tells shape now attempt.state ok.claims at found)

  scan_word : (client : ClientState) (table low high : ℕ) (at : ScanPoint) (opened : Option Open)
      → let before = record client { call = Some (At (Scanning table low high at)); txn = opened } in
      CallPointFits shape opened (Scanning table low high at) → KeyClientOk shape now before
      → Did (scan_verb shape table at) → KeyClientOk shape now (take_scan shape before table low high at opened found)
  scan_word client table low high at None fits ok did = ok
  scan_word client table low high (ScanKey position) (Some attempt) fits ok did =
      key_tells shape now attempt ok.claims table low high position
      (record client { call = Some (At (Scanning table low high (ScanKey position))); txn = Some attempt }) ok.claims
      ok.scanned attempt.state.seen found
      (says (row_of shape.tables table position) (row_within shape table position fits.1 fits.2) did.0)
  scan_word client table low high (ScanRead position key at) (Some attempt) fits ok did =
      read_tells shape now attempt ok.claims table low high position
      (record client { call = Some (At (Scanning table low high (ScanRead position key at))); txn = Some attempt })
      ok.claims ok.scanned key at found ok.at

  word_tells : (client : ClientState) (place : CallPoint) → let before = go client place in
      ClientFits shape before → KeyClientOk shape now before → Did (call_verb shape before place)
      → KeyClientOk shape now (call_after shape before place found)
  word_tells client (Beginning txn nth at) fits ok did =
      begin_goes (KeyClientOk shape now) shape (go client (Beginning txn nth at)) txn nth
      (snap_after shape.workers at found) (λ place e. record { at = tt; claims = ok.claims; scanned = tt })
      (λ seen e. record { at = tt; claims = λ claim listed. absurd listed; scanned = tt })
      (λ worker first second e. record { at = tt; claims = ok.claims; scanned = tt })
  word_tells client (InTxn at) fits ok did = txn_word client at client.txn fits.2 ok did
  word_tells client (Scanning table low high at) fits ok did =
      scan_word client table low high at client.txn fits.2 ok did
  word_tells client (Seeking table key passed) fits ok did =
      let tells = find_tells shape now (key_at table key) passed found ok.at
      (says_on (key_at table key) passed (fits.2.0, fits.2.1) did.0) in
      seek_goes (KeyClientOk shape now) shape (go client (Seeking table key passed)) table key _
      (λ later e. record {
        at = subst (FindTells shape now (key_at table key)) e tells;
        claims = ok.claims;
        scanned = tt;
      })
      (λ position e. record {
        at = subst (FindTells shape now (key_at table key)) e tells;
        claims = ok.claims;
        scanned = tt;
      })
      (λ e. record { at = tt; claims = ok.claims; scanned = tt })
  word_tells client (Moving table key position at) fits ok did =
      let place = place_of shape table position in
      move_goes (KeyClientOk shape now) shape (go client (Moving table key position at)) table key position
      (bucket_of shape place.row) (move_after place (cells_by shape place) at found)
      (λ later e. record { at = ok.at; claims = ok.claims; scanned = tt })
      (λ stamp e. record { at = tt; claims = ok.claims; scanned = tt })
      (λ stamp e. record { at = tt; claims = ok.claims; scanned = tt })
      (λ e. record { at = tt; claims = ok.claims; scanned = tt })
      (λ full e. record { at = tt; claims = ok.claims; scanned = tt })
  word_tells client (Snapping bucket at) fits ok did =
      snap_goes (KeyClientOk shape now) shape (go client (Snapping bucket at)) bucket
      (snap_after shape.workers at found) (λ place e. record { at = tt; claims = ok.claims; scanned = tt })
      (λ seen e. record { at = tt; claims = ok.claims; scanned = tt })
      (λ worker first second e. record { at = tt; claims = ok.claims; scanned = tt })
  word_tells client (Collecting bucket prefix seen at) fits ok did =
      collect_goes (KeyClientOk shape now) shape (go client (Collecting bucket prefix seen at)) bucket prefix seen
      (collect_after (cells_of shape bucket) shape.workers seen at found)
      (λ place e. record { at = tt; claims = ok.claims; scanned = tt })
      (λ known e. record { at = tt; claims = ok.claims; scanned = tt })

  pub client_tells : (client : ClientState) (place : CallPoint) → client.call ≡ Some (At place)
      → ClientFits shape client → KeyClientOk shape now client → Did (next_verb shape client)
      → KeyClientOk shape now (client_after shape client found)
  client_tells client place e =
      subst (λ c. ClientFits shape c → KeyClientOk shape now c → Did (next_verb shape c)
      → KeyClientOk shape now (client_after shape c found)) (place_is client place e) (word_tells client place)

-- 2. Which key words its verb changes

module _ (shape : Shape) (m now : Field → ℕ) (worker : ℕ) where
  -- those that may not be written stay
  abbrev pub Keeps : (Field → Type 0) → Type 0
  Keeps May = (row : ℕ) → IsRow shape row → (May (Key row) → ⊥) → now (Key row) ≡ m (Key row)

  -- no key is written
  none_goes : (view : KeyView) → OthersStay shape m now None → KeysGo shape m now view
  none_goes view leaves row is = inl (leaves (Key row) is (λ e. none-some (Key row) e))

  never_goes : (view : KeyView) (May : Field → Type 0) → ((row : ℕ) → May (Key row) → ⊥) → Keeps May
      → KeysGo shape m now view
  never_goes view May never keeps row is = inl (keeps row is (never row))

  txn_goes : (at : TxnPoint) (opened : Option Open) → let verb = open_verb shape opened at in
      Changed shape m now (target verb) (left_at m verb) → OthersStay shape m now (open_writes shape opened at)
      → Keeps (MayWrite worker (InTxn at)) → KeysGo shape m now (txn_view at)
  txn_goes at None changed leaves keeps = none_goes (txn_view at) leaves
  txn_goes (Finding op passed) (Some attempt) changed leaves keeps = none_goes (txn_view (Finding op passed)) leaves
  txn_goes (Reading op position at) (Some attempt) changed leaves keeps =
      none_goes (txn_view (Reading op position at)) leaves
  txn_goes (Claiming op (KeyLook passed)) (Some attempt) changed leaves keeps =
      none_goes (claim_view (op_key op) (KeyLook passed)) leaves
  txn_goes (Claiming op (KeyTake passed)) (Some attempt) changed leaves keeps =
      claim_goes shape m now (op_key op).table (op_key op).key passed changed
  txn_goes (Committing at) (Some attempt) changed leaves keeps =
      never_goes (txn_view (Committing at)) (MayWrite worker (InTxn (Committing at))) (λ row may. may) keeps

  word_goes : (client : ClientState) (place : CallPoint) → let before = go client place in
      Changed shape m now (target (call_verb shape before place)) (left_at m (call_verb shape before place))
      → OthersStay shape m now (call_writes shape before place) → Keeps (MayWrite worker place)
      → KeysGo shape m now (key_view (Some (At place)))
  word_goes client (Beginning txn nth at) changed leaves keeps =
      none_goes (key_view (Some (At (Beginning txn nth at)))) leaves
  word_goes client (InTxn at) changed leaves keeps = txn_goes at client.txn changed leaves keeps
  word_goes client (Scanning table low high at) changed leaves keeps =
      none_goes (key_view (Some (At (Scanning table low high at)))) leaves
  word_goes client (Seeking table key passed) changed leaves keeps =
      none_goes (key_view (Some (At (Seeking table key passed)))) leaves
  word_goes client (Moving table key position at) changed leaves keeps =
      never_goes (key_view (Some (At (Moving table key position at))))
      (MayWrite worker (Moving table key position at)) (λ row may. may) keeps
  word_goes client (Snapping bucket at) changed leaves keeps =
      none_goes (key_view (Some (At (Snapping bucket at)))) leaves
  word_goes client (Collecting bucket prefix seen at) changed leaves keeps =
      never_goes (key_view (Some (At (Collecting bucket prefix seen at))))
      (MayWrite worker (Collecting bucket prefix seen at)) (λ row may. may) keeps

  pub client_goes : (client : ClientState) (place : CallPoint) → client.call ≡ Some (At place)
      → Changed shape m now (target (next_verb shape client)) (left_at m (next_verb shape client))
      → OthersStay shape m now (written_of shape client) → Keeps (Writes worker client)
      → KeysGo shape m now (key_view client.call)
  client_goes client place e =
      subst (λ c. Changed shape m now (target (next_verb shape c)) (left_at m (next_verb shape c))
      → OthersStay shape m now (written_of shape c) → Keeps (Writes worker c) → KeysGo shape m now (key_view c.call))
      (place_is client place e) (word_goes client place)

-- 3. A call is asked

module _ (shape : Shape) (m : Field → ℕ) where
  ask_txn_tells : (client : ClientState) (asked : TxnCall) (opened : Option Open)
      → let before = record client { txn = opened } in
      KeyClientOk shape m before → KeyClientOk shape m (ask_txn shape before asked opened)
  ask_txn_tells client asked None ok = ok
  ask_txn_tells client asked (Some attempt) ok =
      stepped_tells shape m (record client { txn = Some attempt }) (with_call attempt asked) 0
      (txn_ask shape attempt.state asked) (asked_tells shape m attempt.state ok.claims asked)

  ask_scan_tells : (client : ClientState) (table low high : ℕ) (opened : Option Open)
      → let before = record client { txn = opened } in
      KeyClientOk shape m before → KeyClientOk shape m (ask_scan shape before table low high opened)
  ask_scan_tells client table low high None ok = ok
  ask_scan_tells client table low high (Some attempt) ok =
      record { at = tt; claims = ok.claims; scanned = λ row listed. absurd listed }

  pub ask_tells : (client : ClientState) (asked : Call) → KeyClientOk shape m client
      → KeyClientOk shape m (client_ask shape client asked)
  ask_tells client (call.Begin txn nth) ok = record { at = tt; claims = ok.claims; scanned = tt }
  ask_tells client (call.Txn asked) ok = ask_txn_tells client asked client.txn ok
  ask_tells client (call.Scan table low high) ok = ask_scan_tells client table low high client.txn ok
  ask_tells client (call.Tidy table key) ok =
      record { at = none_past shape m table key; claims = ok.claims; scanned = tt }
  ask_tells client (call.Collect bucket) ok = record { at = tt; claims = ok.claims; scanned = tt }
