-- Each verb is at a field of the shape.
use Rattle.std.proofs.Common.{true, ◌+◌, ◌*◌, ◌≤◌, ap, ◌≡◌, ℕ, ◌<◌, List, Option, Some, None, length, refl, sym, ◌∙◌}
use Rattle.std.proofs.Common.{subst, arith}
use Rattle.std.specs.Prelude.{slice_index}
use Rattle.std.proofs.lemmas.Bool.{false≢true}
use Rattle.std.proofs.lemmas.Option.{none-some, same_Some}
use Rattle.si_model.specs.Evaluation.{op_key}
use Rattle.nam_verbs.specs.declared.now.Now.{Now}
use Rattle.nam_verbs.specs.declared.now.Now.TheVariants.{At, Over}
use Rattle.nam_verbs.specs.VerbAt.{VerbAt, target}
use Rattle.nam_verbs.proofs.AddressLemmas.{reached}
use Rattle.nam_verbs.proofs.TestLemmas.{by_test}
use Rattle.nam_catalog.specs.declared.bounds.TheConstants.{INTENT_WORDS}
use Rattle.nam_catalog.specs.declared.form.Form.{Form}
use Rattle.nam_catalog.specs.declared.form.Form.TheVariants.{Narrow, Wide, Held}
use Rattle.nam_catalog.specs.declared.shape.Shape.{Shape}
use Rattle.nam_catalog.specs.Fits.{FitsLimits}
use Rattle.nam_catalog.specs.Words.{intent_words, words_of}
use Rattle.nam_layout.specs.declared.field.Field.{Field}
use Rattle.nam_layout.specs.declared.field.Field.TheVariants.{Intent}
use Rattle.nam_layout.specs.Rows.{row_of}
use Rattle.nam_layout.specs.Address.{IsRow, IsField, address}
use Rattle.nam_layout.specs.FieldAt.{field_at}
use Rattle.nam_layout.specs.Place.{place_at, cells_of, cells_by, bucket_of}
use Rattle.nam_layout.specs.PlaceFits.{FitsPlace}
use Rattle.nam_layout.specs.Known.{IsOfPlace, IsKnown}
use Rattle.nam_layout.proofs.AddressLemmas.{found_there}
use Rattle.nam_layout.proofs.PlaceLemmas.{place_stands, known_stands}
use Rattle.nam_vector.specs.declared.snap.SnapPoint.{SnapPoint}
use Rattle.nam_vector.specs.declared.snap.SnapPoint.TheVariants.{First, Second}
use Rattle.nam_vector.specs.Snap.{snap_verb, SnapFits}
use Rattle.nam_calls.specs.declared.index.ClaimKeyPoint.{ClaimKeyPoint}
use Rattle.nam_calls.specs.declared.index.ClaimKeyPoint.TheVariants.{KeyLook, KeyTake}
use Rattle.nam_calls.specs.declared.lock.LockPoint.{LockPoint}
use Rattle.nam_calls.specs.declared.lock.LockPoint.TheVariants.{Peek, Seize, GiveBack}
use Rattle.nam_calls.specs.declared.horizon.CollectPoint.{CollectPoint}
use Rattle.nam_calls.specs.declared.horizon.CollectPoint.TheVariants.{HorizonLook, HorizonRaise, CollectTag}
use Rattle.nam_calls.specs.declared.horizon.CollectPoint.TheVariants.{CollectEnding, CollectFree}
use Rattle.nam_calls.specs.declared.reading.ReadPoint.{ReadPoint}
use Rattle.nam_calls.specs.Words.{capacity_of, path_of}
use Rattle.nam_calls.specs.Index.{nth_key, claim_key_verb}
use Rattle.nam_calls.specs.Horizon.{collect_verb}
use Rattle.nam_calls.specs.Reading.{sight_of, read_verb}
use Rattle.nam_calls.specs.Lock.{lock_verb}
use Rattle.nam_calls.specs.Mover.{move_verb}
use Rattle.nam_calls.specs.Fits.{FindFits, ClaimKeyFits, LockFits, CollectFits, ReadFits, IsTableOf}
use Rattle.nam_calls.proofs.FallsTables.{place_fits, sight_fits}
use Rattle.nam_calls.proofs.FieldLemmas.{install_field, slot_field, copy_field, move_field, read_field, key_is}
use Rattle.nam_calls.proofs.FieldLemmas.{path_field, row_within}
use Rattle.nam_protocol.specs.declared.scan.ScanPoint.{ScanPoint}
use Rattle.nam_protocol.specs.declared.scan.ScanPoint.TheVariants.{ScanKey, ScanRead}
use Rattle.nam_protocol.specs.declared.txn.TxnState.{TxnState}
use Rattle.nam_protocol.specs.declared.txn.TxnPoint.{TxnPoint}
use Rattle.nam_protocol.specs.declared.txn.TxnPoint.TheVariants.{Finding, Reading, Claiming, Committing}
use Rattle.nam_protocol.specs.declared.txn.CommitPoint.{CommitPoint}
use Rattle.nam_protocol.specs.declared.txn.CommitPoint.TheVariants.{Locking, Checking, Returning, Saving, Copying}
use Rattle.nam_protocol.specs.declared.txn.CommitPoint.TheVariants.{Installing, Publishing, Freeing}
use Rattle.nam_protocol.specs.declared.txn.CommitPoint.TheVariants.{Listing, Counting, Deciding, Clearing, Ending}
use Rattle.nam_protocol.specs.declared.txn.ListPoint.{ListPoint}
use Rattle.nam_protocol.specs.declared.txn.ListPoint.TheVariants.{ListRow, ListKind, ListData, ListNumber, ListState}
use Rattle.nam_protocol.specs.declared.client.Answer.{Answer}
use Rattle.nam_protocol.specs.declared.client.CallPoint.{CallPoint}
use Rattle.nam_protocol.specs.declared.client.CallPoint.TheVariants.{Beginning, InTxn, Scanning, Seeking, Moving}
use Rattle.nam_protocol.specs.declared.client.CallPoint.TheVariants.{Snapping, Collecting}
use Rattle.nam_protocol.specs.declared.client.Open.{Open}
use Rattle.nam_protocol.specs.declared.client.ClientState.{ClientState}
use Rattle.nam_protocol.specs.Commit.{places, record_place, record_at, records_of, value_at, own_stamp, new_header}
use Rattle.nam_protocol.specs.Commit.{commit_verb, has_intents, list_verb, tells_intent}
use Rattle.nam_protocol.specs.TxnCalls.{txn_verb}
use Rattle.nam_protocol.specs.Scan.{scan_verb}
use Rattle.nam_protocol.specs.Client.{open_verb, call_verb, verb_of}
use Rattle.nam_protocol.specs.TxnFits.{StateFits, CommitFits, TxnPointFits, ScanFits}
use Rattle.nam_protocol.specs.ClientFits.{OpenFits, OpenPointFits, CallPointFits, NowFits, ClientFits}
use Rattle.nam_protocol.specs.FieldLaw.{IsAtField, IsRowPlace, TableFieldsLaw, CommitFieldsLaw, TxnFieldsLaw}
use Rattle.nam_protocol.specs.FieldLaw.{CallFieldsLaw, ClientFieldsLaw, WithinLaw}
use Rattle.nam_protocol.proofs.FallsKeys.{place_of_nth, op_table, writes_within, record_is_placed, nth_fits}
use Rattle.nam_protocol.proofs.FallsKeys.{tells_by_form}
use Rattle.nam_protocol.proofs.FewLemmas.{few_keys}
use Rattle.nam_protocol.specs.declared.txn.Record.{Record}

-- 1. The entries of a snapshot

snap_at : (shape : Shape) (at : SnapPoint) → SnapFits shape.workers at → IsAtField shape (snap_verb at)
snap_at shape (First got) l = (omega arith, omega arith)
snap_at shape (Second seen at) l = (omega arith, omega arith)

module _ (shape : Shape) (limits : FitsLimits shape) where
  -- 2. A table's positions

  bucket_less : (row : ℕ) → bucket_of shape row < shape.buckets
  bucket_less row = let b = limits.least_buckets in omega arith

  -- a field of a row, of its bucket, or of a worker
  known_field : (row : ℕ) (f : Field) → IsRow shape row
      → IsKnown (place_at shape row) (cells_by shape (place_at shape row)) shape.workers f → IsField shape f
  known_field row f is known = (known_stands shape row (bucket_of shape row) f known).1 is (bucket_less row)

  module _ (table : ℕ) (is : IsTableOf shape table) where
    pub key_at_field : (key passed : ℕ) → FindFits (capacity_of shape table) passed
        → IsField shape (nth_key (path_of shape table key) passed)
    key_at_field key passed l =
        subst (IsField shape) (sym (key_is shape table key passed)) (path_field shape table key passed is l)

    pub claim_key_at : (key : ℕ) (at : ClaimKeyPoint) → ClaimKeyFits (capacity_of shape table) at
        → IsAtField shape (claim_key_verb (path_of shape table key) at)
    claim_key_at key (KeyLook passed) l = key_at_field key passed l
    claim_key_at key (KeyTake passed) l = key_at_field key passed l

    pub read_at : (position : ℕ) (at : ReadPoint) → position < capacity_of shape table
        → ReadFits (sight_of shape table position) at → IsAtField shape (read_verb (sight_of shape table position) at)
    read_at position at l fits =
        known_field (row_of shape.tables table position) (target (read_verb (sight_of shape table position) at))
        (row_within shape table position is l)
        (read_field (sight_of shape table position) (sight_fits shape limits table position is l) at fits)

    pub scan_at : (at : ScanPoint) → ScanFits shape table at → IsAtField shape (scan_verb shape table at)
    scan_at (ScanKey position) l = row_within shape table position is l
    scan_at (ScanRead position key at) l = read_at position at l.0 l.1

  -- 3. A commit

  module _ (state : TxnState) (fits : StateFits shape state) where
    -- a record's place is that of its row
    pub placed : state.records ≡ records_of state → (nth : ℕ) → nth < length state.records
        → IsRowPlace shape (record_place state nth)
    placed are nth l =
        let p = record_is_placed shape state fits are nth l in
        subst (IsRowPlace shape) (sym (place_of_nth state.records nth ∙ p.2)) record {
          row_is = row_within shape (record_at state nth).key.table p.0 p.1.0 p.1.1;
          place_is = refl;
        }

    -- a written record is one of the commit's
    pub written_less : state.records ≡ records_of state → (nth : ℕ) → nth < length state.writes
        → nth < length state.records
    written_less are nth l = let w = writes_within shape state fits are in omega arith

    -- a field of a record
    of_record : state.records ≡ records_of state → (nth : ℕ) (f : Field) → nth < length state.records
        → (FitsPlace (record_place state nth) → IsOfPlace (record_place state nth) f) → IsField shape f
    of_record are nth f l is =
        let p = placed are nth l in
        (place_stands shape (record_place state nth).row f
        (subst (λ place. IsOfPlace place f) p.place_is (is (nth_fits shape state fits are limits nth l)))).1 p.row_is

    lock_at : state.records ≡ records_of state → (at : LockPoint) → LockFits (length state.records) state.held at
        → IsAtField shape (lock_verb state.worker (places state) state.held at)
    lock_at are Peek l = (placed are (length state.held) l).row_is
    lock_at are (Seize header) l = (placed are (length state.held) l).row_is
    lock_at are (GiveBack given found) l =
        (placed are given (let m = l.0 in let n = l.1 in omega arith)).row_is

    -- a word of the intent of one of its records, and a word before the records
    intent_size : 1 ≤ length state.writes → state.records ≡ records_of state → tells_intent state ≡ true
        → intent_words shape.form ≡ INTENT_WORDS
    intent_size some are tells =
        by_form shape.form (sym (tells_by_form shape state fits are some) ∙ tells)
      where
        by_form : (form : Form) → has_intents form ≡ true → intent_words form ≡ INTENT_WORDS
        by_form Narrow e = absurd (false≢true e)
        by_form Wide e = absurd (false≢true e)
        by_form Held e = refl

    in_intent : (at : CommitPoint) → CommitFits shape state at → tells_intent state ≡ true → (word : ℕ)
        → word < INTENT_WORDS → IsField shape (Intent state.worker word)
    in_intent at c tells word l =
        (fits.worker_is, let e = intent_size c.1 c.0 tells in omega arith)

    pub few_records : state.records ≡ records_of state → length state.records ≤ 16
    few_records are =
        let few = (few_keys shape state fits).records in
        let same = ap (λ (rs : List Record). length rs) are in
        omega arith

    list_at : (at : ListPoint) → CommitFits shape state (Listing at) → IsAtField shape (list_verb state at)
    list_at (ListRow nth) c =
        let n = few_records c.0 in let l = c.2.2 in
        in_intent (Listing (ListRow nth)) c c.2.3 (2 + nth * 11) (omega arith)
    list_at (ListKind nth) c =
        let n = few_records c.0 in let l = c.2.2 in
        in_intent (Listing (ListKind nth)) c c.2.3 (2 + nth * 11 + 1) (omega arith)
    list_at (ListData nth word) c =
        let n = few_records c.0 in let l = c.2.2.0 in let m = c.2.2.1 in
        let w = written_less c.0 nth l in
        let most = (nth_fits shape state fits c.0 limits nth w).most_width in
        in_intent (Listing (ListData nth word)) c c.2.3 (2 + nth * 11 + 3 + word) (omega arith)
    list_at ListNumber c = in_intent (Listing ListNumber) c c.2.3 1 (omega arith)
    list_at ListState c = in_intent (Listing ListState) c c.2.3 0 (omega arith)

    pub commit_at : (at : CommitPoint) → CommitFits shape state at → IsAtField shape (commit_verb state at)
    commit_at (Listing at) c = list_at at c
    commit_at (Locking at) c = lock_at c.0 at c.2.0
    commit_at (Checking at) c =
        let nth = length state.counts in
        of_record c.0 nth (target (commit_verb state (Checking at))) (written_less c.0 nth c.2.1)
        (λ fit. slot_field (record_place state nth) fit at)
    commit_at (Returning given full) c = (placed c.0 given c.2.1).row_is
    commit_at (Counting nth) c =
        let n = few_records c.0 in let l = c.2.2 in let w = written_less c.0 nth c.2.2 in
        in_intent (Counting nth) c c.2.3 (2 + nth * 11 + 2) (omega arith)
    commit_at Deciding c = in_intent Deciding c c.2.2 0 (omega arith)
    commit_at (Saving nth got) c =
        of_record c.0 nth (target (commit_verb state (Saving nth got))) (written_less c.0 nth c.2.2)
        (λ fit. (refl, c.2.3))
    commit_at (Copying nth old at) c =
        of_record c.0 nth (target (commit_verb state (Copying nth old at))) (written_less c.0 nth c.2.2)
        (λ fit. copy_field (record_place state nth) fit (slice_index state.counts nth) (slice_index state.held nth) old
        (own_stamp state) at c.2.4)
    commit_at (Installing nth at) c =
        of_record c.0 nth (target (commit_verb state (Installing nth at))) (written_less c.0 nth c.2.2)
        (λ fit. install_field (record_place state nth) fit (value_at state nth) (slice_index state.counts nth)
        (new_header state nth) at c.2.3)
    commit_at Publishing c = fits.worker_is
    commit_at (Freeing nth) c = (placed c.0 nth c.2.3).row_is
    commit_at (Clearing refusal) c = in_intent (Clearing refusal) c c.2.2 0 (omega arith)
    commit_at Ending c = in_intent Ending c c.2.2 0 (omega arith)

    -- 4. A transaction

    pub txn_at : (place : TxnPoint) → TxnPointFits shape state place → IsAtField shape (txn_verb shape state place)
    txn_at (Finding op passed) p =
        key_at_field (op_key op).table (op_table shape limits state.claims op p.0) (op_key op).key passed p.1
    txn_at (Reading op position at) p =
        read_at (op_key op).table (op_table shape limits state.claims op p.0) position at p.1 p.2
    txn_at (Claiming op at) p =
        claim_key_at (op_key op).table (op_table shape limits state.claims op p.0) (op_key op).key at p.1
    txn_at (Committing at) p = commit_at at p

  -- 5. A client

  collect_at : (bucket : ℕ) (seen : List ℕ) (at : CollectPoint) → bucket < shape.buckets
      → CollectFits (cells_of shape bucket) shape.workers at
      → IsAtField shape (collect_verb (cells_of shape bucket) seen at)
  collect_at bucket seen (HorizonLook known) l c = (omega arith, omega arith)
  collect_at bucket seen (HorizonRaise known found) l c = (omega arith, omega arith)
  collect_at bucket seen (CollectTag known cell) l c = (l, c.1)
  collect_at bucket seen (CollectEnding known cell tag) l c = (l, c.1)
  collect_at bucket seen (CollectFree known cell tag) l c = (l, c.1)

  open_at : (opened : Option Open) (at : TxnPoint) → OpenFits shape opened → OpenPointFits shape opened at
      → IsAtField shape (open_verb shape opened at)
  open_at None at f p = absurd p
  open_at (Some attempt) at f p = txn_at attempt.state f at p

  call_at : (client : ClientState) (place : CallPoint) → OpenFits shape client.txn
      → CallPointFits shape client.txn place → IsAtField shape (call_verb shape client place)
  call_at client (Beginning txn nth at) f p = snap_at shape at p
  call_at client (InTxn at) f p = open_at client.txn at f p
  call_at client (Scanning table low high at) f p = scan_at table p.1 at p.2
  call_at client (Seeking table key passed) f p = key_at_field table p.0 key passed p.1
  call_at client (Moving table key position at) f p =
      let row = row_of shape.tables table position in
      known_field row (target (move_verb (place_at shape row) (cells_by shape (place_at shape row)) at))
      (row_within shape table position p.0 p.1)
      (move_field (place_at shape row) (place_fits shape limits table position p.0 p.1)
      (cells_by shape (place_at shape row)) shape.workers at p.2)
  call_at client (Snapping bucket at) f p = snap_at shape at p.1
  call_at client (Collecting bucket prefix seen at) f p = collect_at bucket seen at p.0 p.2

  module _ (client : ClientState) (fits : ClientFits shape client) where
    now_at : (verb : VerbAt Field) (call : Option (Now CallPoint Answer)) → NowFits shape client.txn call
        → verb_of shape client call ≡ Some verb → IsAtField shape verb
    now_at verb None f e = absurd (none-some verb e)
    now_at verb (Some (Over answer)) f e = absurd (none-some verb e)
    now_at verb (Some (At place)) f e =
        subst (IsAtField shape) (same_Some (call_verb shape client place) verb e) (call_at client place fits.1 f)

-- 6. The laws

pub table_fields : TableFieldsLaw
table_fields shape limits table is = record {
  find = key_at_field shape limits table is;
  claim_key = claim_key_at shape limits table is;
  read = read_at shape limits table is;
  scan = scan_at shape limits table is;
}

pub commit_fields : CommitFieldsLaw
commit_fields shape limits state at fits c =
    record { places = placed shape limits state fits c.0; verb = commit_at shape limits state fits at c }

pub txn_fields : TxnFieldsLaw
txn_fields shape limits state place fits p = txn_at shape limits state fits place p

pub call_fields : CallFieldsLaw
call_fields shape limits client place fits e =
    call_at shape limits client place fits.1 (subst (NowFits shape client.txn) e fits.2)

pub client_fields : ClientFieldsLaw
client_fields shape limits client verb fits e =
    by_test (λ (v : Option (VerbAt Field)). v ≡ Some verb → IsAtField shape verb) client.cut None
    (verb_of shape client client.call) (λ c n. absurd (none-some verb n))
    (λ c. now_at shape limits client fits verb client.call fits.2) e

pub reached_within : WithinLaw
reached_within shape verb is =
    subst (λ at. (at < words_of shape) × (field_at shape at ≡ target verb)) (sym (reached (address shape) verb))
    (found_there shape (target verb) is)
