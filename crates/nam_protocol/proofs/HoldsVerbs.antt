-- Each verb of a client writes a word below 2^64, or none.
use Rattle.std.specs.List.{AllByRecursion}
use Rattle.std.specs.Prelude.{is_some, slice_index, slice_index_or}
use Rattle.std.proofs.Common.{Bool, List, None, Option, Some, [], ap, arith, false, length, not, refl, subst, suc, sym}
use Rattle.std.proofs.Common.{zero, ℕ, ◌+◌, ◌*◌, ◌<◌, ◌∷◌, ◌≡◌, ◌≤◌}
use Rattle.std.proofs.lemmas.Option.{none-some, same_Some}
use Rattle.si_model.specs.declared.op.Op.TheVariants.{Get, Put, Add, Del, Need, Guard, Scan}
use Rattle.si_model.specs.declared.op.Op.{Op}
use Rattle.si_model.specs.declared.row.Item.{Item}
use Rattle.si_model.specs.Evaluation.{op_key}
use Rattle.nam_verbs.specs.declared.now.Now.TheVariants.{At, Over}
use Rattle.nam_verbs.specs.declared.now.Now.{Now}
use Rattle.nam_verbs.specs.VerbAt.{VerbAt}
use Rattle.nam_verbs.proofs.TestLemmas.{by_test}
use Rattle.nam_catalog.specs.declared.bounds.TheConstants.{MOST_WORKERS}
use Rattle.nam_catalog.specs.declared.shape.Shape.{Shape}
use Rattle.nam_catalog.specs.Fits.{FitsLimits}
use Rattle.nam_catalog.specs.Greatest.{greatest_number}
use Rattle.nam_header.specs.Stamp.{version_word}
use Rattle.nam_layout.specs.declared.field.Field.{Field}
use Rattle.nam_layout.specs.declared.field.Place.{Place}
use Rattle.nam_layout.specs.Place.{cells_by, cells_of, place_of}
use Rattle.nam_layout.proofs.ExtentLemmas.{rows_le}
use Rattle.nam_vector.specs.Snap.{snap_verb}
use Rattle.nam_calls.specs.declared.index.ClaimKeyPoint.TheVariants.{KeyLook, KeyTake}
use Rattle.nam_calls.specs.declared.index.ClaimKeyPoint.{ClaimKeyPoint}
use Rattle.nam_calls.specs.declared.intent.IntentKind.{IntentKind}
use Rattle.nam_calls.specs.declared.intent.IntentKind.TheVariants.{Value, Deletion}
use Rattle.nam_calls.specs.declared.intent.IntentKind.TheVariants as intent_kind
use Rattle.nam_calls.specs.Intent.{kind_word}
use Rattle.nam_calls.specs.declared.record.InstallPoint.TheVariants.{InstallCount, InstallHead, InstallWord}
use Rattle.nam_calls.specs.declared.ring.CopyPoint.TheVariants.{CopyEnding, CopyHead, CopyMark, CopyWord}
use Rattle.nam_calls.specs.Fits.{IsOf}
use Rattle.nam_calls.specs.Holds.{HasWords, IsWord, WritesWord}
use Rattle.nam_calls.specs.Index.{claim_key_verb}
use Rattle.nam_calls.specs.Reading.{read_verb, sight_of}
use Rattle.nam_calls.specs.Ring.{slot_verb}
use Rattle.nam_calls.proofs.FieldLemmas.{row_within}
use Rattle.nam_calls.proofs.HoldsCalls.{collect_word, lock_word, move_word}
use Rattle.nam_calls.proofs.HoldsWords.{count_word, mark_word, number_word, stamped_word, value_word, words_at}
use Rattle.nam_calls.proofs.WritesLemmas.{no_word, read_reads, slot_reads, snap_reads}
use Rattle.nam_protocol.specs.declared.client.Answer.{Answer}
use Rattle.nam_protocol.specs.declared.client.CallPoint.TheVariants.{Beginning, InTxn, Scanning, Seeking, Moving}
use Rattle.nam_protocol.specs.declared.client.CallPoint.TheVariants.{Snapping, Collecting}
use Rattle.nam_protocol.specs.declared.client.CallPoint.{CallPoint}
use Rattle.nam_protocol.specs.declared.client.ClientState.{ClientState}
use Rattle.nam_protocol.specs.declared.client.Open.{Open}
use Rattle.nam_protocol.specs.declared.txn.CommitPoint.TheVariants.{Checking, Copying, Freeing, Installing, Locking}
use Rattle.nam_protocol.specs.declared.txn.CommitPoint.TheVariants.{Publishing, Returning, Saving}
use Rattle.nam_protocol.specs.declared.txn.CommitPoint.TheVariants.{Listing, Counting, Deciding, Clearing, Ending}
use Rattle.nam_protocol.specs.declared.txn.ListPoint.{ListPoint}
use Rattle.nam_protocol.specs.declared.txn.ListPoint.TheVariants.{ListRow, ListKind, ListData, ListNumber, ListState}
use Rattle.nam_protocol.specs.declared.txn.CommitPoint.{CommitPoint}
use Rattle.nam_protocol.specs.declared.txn.TxnPoint.TheVariants.{Finding, Reading, Claiming, Committing}
use Rattle.nam_protocol.specs.declared.txn.TxnPoint.{TxnPoint}
use Rattle.nam_protocol.specs.declared.txn.TxnState.{TxnState}
use Rattle.nam_protocol.specs.Client.{call_verb, open_verb, verb_of}
use Rattle.nam_protocol.specs.ClientFits.{CallPointFits, ClientFits, NowFits, OpenFits, OpenPointFits}
use Rattle.nam_protocol.specs.Commit.{commit_verb, kind_at, list_verb, no_item, own_stamp, places, record_place}
use Rattle.nam_protocol.specs.Commit.{value_at}
use Rattle.nam_protocol.specs.FieldLaw.{IsRowPlace}
use Rattle.nam_protocol.specs.HoldsWords.{CallPlaceHolds, CommitPlaceHolds, ItemHolds, OpHolds, OpenHolds, HoldsWords}
use Rattle.nam_protocol.specs.HoldsWords.{OpenPlaceHolds, RunHolds, StateHolds, TxnPlaceHolds}
use Rattle.nam_protocol.specs.Operations.{op_path}
use Rattle.nam_protocol.specs.Scan.{scan_verb}
use Rattle.nam_protocol.specs.TxnCalls.{txn_verb}
use Rattle.nam_protocol.specs.TxnFits.{CommitFits, StateFits, TxnPointFits}
use Rattle.nam_protocol.specs.WordsLaw.{ClientWritesLaw}
use Rattle.nam_protocol.proofs.CallWrites.{scan_reads}
use Rattle.nam_protocol.proofs.FieldLemmas.{few_records, placed, written_less}

module _ (shape : Shape) (limits : FitsLimits shape) where
  -- 1. A commit

  row_word : (place : Place) → IsRowPlace shape place → IsWord place.row
  row_word place is = let r = is.row_is in let l = rows_le shape.tables in let w = limits.words in omega arith

  form_is : (place : Place) → IsRowPlace shape place → place.form ≡ shape.form
  form_is place is = ap (λ (p : Place). p.form) is.place_is

  most : (worker : ℕ) → IsOf shape.workers worker → worker ≤ MOST_WORKERS
  most worker is = let m = limits.most_workers in let l = is.1 in omega arith

  module _ (state : TxnState) (fits : StateFits shape state) (h : StateHolds shape.form state) where
    -- a word of the commit's stamp, in the form of a record
    stamp_is : (nth : ℕ) (deleted : Bool) → IsRowPlace shape (record_place state nth)
        → state.last < greatest_number shape.form
        → IsWord (version_word (record_place state nth).form (own_stamp state) deleted)
    stamp_is nth deleted is room =
        subst (λ form. IsWord (version_word form (own_stamp state) deleted)) (sym (form_is (record_place state nth) is))
        (stamped_word shape.form state.worker (state.last + 1) deleted (most state.worker fits.worker_is) (omega arith))

    item_words : (ws : List Item) (nth : ℕ) → AllByRecursion ItemHolds ws
        → HasWords (slice_index_or ws nth no_item).value
    item_words [] nth all = tt
    item_words (w ∷ ws) zero all = all.0
    item_words (w ∷ ws) (suc nth) all = item_words ws nth all.1

    kind_is : (kind : IntentKind) → IsWord (kind_word kind)
    kind_is Value = omega arith
    kind_is Deletion = omega arith
    kind_is intent_kind.Guard = omega arith

    zero_word : IsWord 0
    zero_word = omega arith

    state_is : length state.records ≤ 16 → (phase : ℕ) → phase ≤ 2 → IsWord (4 * length state.records + phase)
    state_is few phase l = omega arith

    list_word : (at : ListPoint) → CommitFits shape state (Listing at) → state.last < greatest_number shape.form
        → WritesWord (list_verb state at)
    list_word (ListRow nth) c room =
        row_word (record_place state nth) (placed shape limits state fits c.0 nth c.2.2)
    list_word (ListKind nth) c room = kind_is (kind_at state nth)
    list_word (ListData nth word) c room =
        value_word (value_at state nth) word (item_words state.writes nth h.written)
    list_word ListNumber c room = number_word shape.form (state.last + 1) (omega arith)
    list_word ListState c room = state_is (few_records shape limits state fits c.0) 1 (omega arith)

    commit_word : (at : CommitPoint) → CommitFits shape state at → state.last < greatest_number shape.form
        → CommitPlaceHolds at → WritesWord (commit_verb state at)
    commit_word (Listing at) c room p = list_word at c room
    commit_word (Locking at) c room p =
        lock_word (places state) state.worker state.held at (most state.worker fits.worker_is) h.headers p
    commit_word (Checking at) c room p =
        no_word (slot_verb (record_place state (length state.counts)) at)
        (slot_reads (record_place state (length state.counts)) at)
    commit_word (Returning given full) c room p = words_at state.held given h.headers
    commit_word (Counting nth) c room p = words_at state.counts nth h.counted
    commit_word Deciding c room p = state_is (few_records shape limits state fits c.0) 2 (omega arith)
    commit_word (Saving nth got) c room p = tt
    commit_word (Copying nth old CopyMark) c room p = mark_word
    commit_word (Copying nth old CopyEnding) c room p =
        stamp_is nth false
        (placed shape limits state fits c.0 nth (written_less shape limits state fits c.0 nth c.2.2)) room
    commit_word (Copying nth old (CopyWord word)) c room p = words_at old word p
    commit_word (Copying nth old CopyHead) c room p = words_at state.held nth h.headers
    commit_word (Installing nth (InstallWord word)) c room p =
        value_word (value_at state nth) word (item_words state.writes nth h.written)
    commit_word (Installing nth InstallCount) c room p = count_word (slice_index state.counts nth + 1)
    commit_word (Installing nth InstallHead) c room p =
        stamp_is nth (not (is_some (value_at state nth)))
        (placed shape limits state fits c.0 nth (written_less shape limits state fits c.0 nth c.2.2)) room
    commit_word Publishing c room p = number_word shape.form (state.last + 1) (omega arith)
    commit_word (Freeing nth) c room p = words_at state.held nth h.headers
    commit_word (Clearing refusal) c room p = zero_word
    commit_word Ending c room p = zero_word

    -- 2. A transaction

    claim_key_word : (op : Op) (at : ClaimKeyPoint) → OpHolds op → WritesWord (claim_key_verb (op_path shape op) at)
    claim_key_word op (KeyLook passed) o = tt
    claim_key_word (Get t k) (KeyTake passed) o = o
    claim_key_word (Put t k v) (KeyTake passed) o = o.0
    claim_key_word (Add t k f up by) (KeyTake passed) o = o
    claim_key_word (Del t k) (KeyTake passed) o = o
    claim_key_word (Need t k f least) (KeyTake passed) o = o
    claim_key_word (Guard t k) (KeyTake passed) o = o
    claim_key_word (Scan t low high) (KeyTake passed) o = absurd o

    txn_word : (at : TxnPoint) → TxnPointFits shape state at → TxnPlaceHolds shape.form state at
        → WritesWord (txn_verb shape state at)
    txn_word (Finding op passed) f p = tt
    txn_word (Reading op position at) f p =
        let sight = sight_of shape (op_key op).table position in no_word (read_verb sight at) (read_reads sight at)
    txn_word (Claiming op at) f p = claim_key_word op at p.0
    txn_word (Committing at) f p = commit_word at f p.0 p.1

  -- 3. A client

  open_word : (opened : Option Open) (at : TxnPoint) → OpenFits shape opened → OpenPointFits shape opened at
      → OpenHolds shape.form opened → OpenPlaceHolds shape.form opened at → WritesWord (open_verb shape opened at)
  open_word None at f p h r = tt
  open_word (Some attempt) at f p h r = txn_word attempt.state f h at p r

  call_word : (client : ClientState) (place : CallPoint) → OpenFits shape client.txn
      → CallPointFits shape client.txn place → HoldsWords shape client → CallPlaceHolds shape.form client.txn place
      → WritesWord (call_verb shape client place)
  call_word client (Beginning txn nth at) f p h r = no_word (snap_verb at) (snap_reads at)
  call_word client (InTxn at) f p h r = open_word client.txn at f p h.opened r
  call_word client (Scanning table low high at) f p h r =
      no_word (scan_verb shape table at) (scan_reads shape table at)
  call_word client (Seeking table key passed) f p h r = tt
  call_word client (Moving table key position at) f p h r =
      let place = place_of shape table position in
      move_word place (cells_by shape place) at
      (row_word place record { row_is = row_within shape table position p.0 p.1; place_is = refl }) r
  call_word client (Snapping bucket at) f p h r = no_word (snap_verb at) (snap_reads at)
  call_word client (Collecting bucket prefix seen at) f p h r = collect_word (cells_of shape bucket) seen at r.0 r.1

  module _ (client : ClientState) (fits : ClientFits shape client) (h : HoldsWords shape client) where
    now_word : (verb : VerbAt Field) (call : Option (Now CallPoint Answer)) → NowFits shape client.txn call
        → RunHolds shape.form client.txn call → verb_of shape client call ≡ Some verb → WritesWord verb
    now_word verb None f r e = absurd (none-some verb e)
    now_word verb (Some (Over answer)) f r e = absurd (none-some verb e)
    now_word verb (Some (At place)) f r e =
        subst WritesWord (same_Some (call_verb shape client place) verb e) (call_word client place fits.1 f h r)

pub client_writes : ClientWritesLaw
client_writes shape limits client verb fits h e =
    by_test (λ (v : Option (VerbAt Field)). v ≡ Some verb → WritesWord verb) client.cut None
    (verb_of shape client client.call) (λ c n. absurd (none-some verb n))
    (λ c. now_word shape limits client fits h verb client.call fits.2 h.running) e
