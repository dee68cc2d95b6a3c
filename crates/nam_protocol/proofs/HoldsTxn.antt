-- What a transaction may still write is below 2^64 after each word below 2^64, its commit included.
use Rattle.std.specs.List.{AllByRecursion}
use Rattle.std.specs.Prelude.{slice_index}
use Rattle.std.proofs.Common.{Bool, List, None, Option, Some, [], arith, length, replicate, sym, ℕ, ◌+◌, false, true}
use Rattle.std.proofs.Common.{◌-◌, ◌<◌, ◌==◌, ◌∷◌, ◌++◌, ◌≡◌, ◌≤◌}
use Rattle.std.proofs.lemmas.Bool.{false≢true}
use Rattle.std.proofs.lemmas.Bool.Decides.{nat_tests}
use Rattle.si_model.specs.declared.op.Op.{Op}
use Rattle.si_model.specs.declared.op.Op.TheVariants.{Get, Put, Add, Del, Need, Guard, Scan}
use Rattle.si_model.specs.declared.row.Item.{Item}
use Rattle.si_model.specs.declared.row.Key.{Key}
use Rattle.si_model.specs.Evaluation.{can_change, field_of, op_key, writes_after, passes, new_number, with_field}
use Rattle.si_model.specs.Operations.{op_reads}
use Rattle.si_model.specs.Rows.{item_at, item_key, key_at, same_key}
use Rattle.si_model.proofs.ListLemmas.{All-append}
use Rattle.nam_verbs.proofs.TestLemmas.{by_test}
use Rattle.nam_header.specs.Stamp.{is_moved}
use Rattle.nam_layout.specs.Place.{slot_of}
use Rattle.nam_calls.specs.declared.ring.SlotPoint.TheVariants.{CheckCount, CheckHead}
use Rattle.nam_calls.specs.declared.ring.SlotEnd.TheVariants.{Free, NotMoved}
use Rattle.nam_verbs.specs.declared.now.Now.{Now}
use Rattle.nam_verbs.specs.declared.now.Now.TheVariants.{At, Over}
use Rattle.nam_catalog.specs.declared.form.Form.{Form}
use Rattle.nam_catalog.specs.declared.shape.Shape.{Shape}
use Rattle.nam_catalog.specs.Greatest.{greatest_number}
use Rattle.nam_catalog.specs.Tables.{widths_of}
use Rattle.nam_calls.specs.declared.index.ClaimKeyEnd.{ClaimKeyEnd}
use Rattle.nam_calls.specs.declared.index.ClaimKeyPoint.{ClaimKeyPoint}
use Rattle.nam_calls.specs.declared.index.FindEnd.{FindEnd}
use Rattle.nam_calls.specs.declared.lock.LockEnd.{LockEnd}
use Rattle.nam_calls.specs.declared.lock.Locks.{Locks}
use Rattle.nam_calls.specs.declared.reading.ReadPoint.{ReadPoint}
use Rattle.nam_calls.specs.declared.reading.ReadingEnd.{ReadingEnd}
use Rattle.nam_calls.specs.Holds.{AreWords, HasWords, HoldsNow, LockEndHolds, LocksHold, ReadHolds, ReadingHolds}
use Rattle.nam_calls.specs.Holds.{IsWord}
use Rattle.nam_calls.specs.Reading.{sight_of}
use Rattle.nam_calls.proofs.FallsTests.{either}
use Rattle.nam_calls.proofs.HoldsCalls.{lock_holds, read_holds, value_holds}
use Rattle.nam_calls.proofs.HoldsWords.{same_words, words_at, words_set}
use Rattle.nam_calls.specs.declared.index.ClaimKeyEnd.TheVariants as claimed_key
use Rattle.nam_calls.specs.declared.index.FindEnd.TheVariants as found_key
use Rattle.nam_calls.specs.declared.lock.LockEnd.TheVariants as lock_end
use Rattle.nam_calls.specs.declared.reading.ReadingEnd.TheVariants as read_end
use Rattle.nam_protocol.specs.declared.txn.CommitPoint.{CommitPoint}
use Rattle.nam_protocol.specs.declared.txn.CommitPoint.TheVariants.{Checking, Copying, Freeing, Installing, Locking}
use Rattle.nam_protocol.specs.declared.txn.CommitPoint.TheVariants.{Publishing, Returning, Saving}
use Rattle.nam_protocol.specs.declared.txn.CommitPoint.TheVariants.{Listing, Counting, Deciding, Clearing, Ending}
use Rattle.nam_protocol.specs.declared.txn.TxnCall.{TxnCall}
use Rattle.nam_protocol.specs.declared.txn.TxnPoint.{TxnPoint}
use Rattle.nam_protocol.specs.declared.txn.TxnPoint.TheVariants.{Finding, Reading, Claiming, Committing}
use Rattle.nam_protocol.specs.declared.txn.TxnState.{TxnState}
use Rattle.nam_protocol.specs.declared.txn.Refusal.{Refusal}
use Rattle.nam_protocol.specs.declared.txn.Refusal.TheVariants as refusal
use Rattle.nam_protocol.specs.TxnFits.{AnswerFits}
use Rattle.nam_protocol.specs.Commit.{checked, go, next_check, on_slot, tells_intent, lock_at, refused, refusal_answer}
use Rattle.nam_protocol.specs.Commit.{ask_commit, commit_after, next_free, on_lock, on_words, places, record_place}
use Rattle.nam_protocol.specs.HoldsWords.{CommitPlaceHolds, ItemHolds, OpHolds, ResultHolds, StateHolds, StepHolds}
use Rattle.nam_protocol.specs.HoldsWords.{TxnCallHolds, TxnPlaceHolds}
use Rattle.nam_protocol.specs.Operations.{holding, own_value, read_of, value_in}
use Rattle.nam_protocol.specs.Txn.{Stepped, ask_op, on_find, on_read, on_value, with_op, on_claim}
use Rattle.nam_protocol.specs.TxnCalls.{txn_after, txn_ask}
use Rattle.nam_protocol.proofs.FallsKeys.{all_wrote}
use Rattle.nam_protocol.proofs.FallsTxn.{answer_fits}
use Rattle.nam_protocol.proofs.GoesCommit.{ask_commit_goes, next_free_goes, on_copy_goes, on_install_goes}
use Rattle.nam_protocol.proofs.GoesCommit.{on_return_goes, on_list_goes, next_count_goes, refused_goes}
use Rattle.nam_protocol.proofs.GoesCommit.{with_count}
use Rattle.nam_protocol.proofs.GoesTxn.{ask_goes, decided_goes, knowing}
use Rattle.nam_protocol.specs.declared.txn.TxnCall.TheVariants as txn_call

-- 1. Operations

field_words : (width f n : ℕ) (value : Option (List ℕ)) → HasWords value → IsWord n
    → AreWords (with_field width value f n)
field_words width f n None has is = words_set (replicate width 0) (f - 1) n (same_words width 0 (omega arith)) is
field_words width f n (Some v) has is = words_set v (f - 1) n has is

field_word : (value : Option (List ℕ)) (f : ℕ) → HasWords value → IsWord (field_of value f)
field_word None f has = omega arith
field_word (Some v) f has = words_at v (f - 1) has

changed_word : (up : Bool) (n by : ℕ) → IsWord n → can_change up n by ≡ true → IsWord (new_number up n by)
changed_word true n by is e = grind (arith, nat_tests)
changed_word false n by is e = omega arith

-- an operation that passes leaves a word in its field
pub passed_result : (op : Op) (value : Option (List ℕ)) → HasWords value → passes op (holding value) ≡ true
    → ResultHolds op value
passed_result (Get t k) value has e = tt
passed_result (Put t k v) value has e = tt
passed_result (Add t k f up by) value has e = changed_word up (field_of value f) by (field_word value f has) e
passed_result (Del t k) value has e = tt
passed_result (Need t k f least) value has e = tt
passed_result (Guard t k) value has e = tt
passed_result (Scan t low high) value has e = tt

-- what it reads is what it found
found_holds : (op : Op) (value : Option (List ℕ)) → OpHolds op → HasWords value
    → HasWords (value_in (read_of op value))
found_holds (Get t k) value o has = has
found_holds (Put t k v) value o has = tt
found_holds (Add t k f up by) value o has = has
found_holds (Del t k) value o has = tt
found_holds (Need t k f least) value o has = has
found_holds (Guard t k) value o has = has
found_holds (Scan t low high) value o has = absurd o

found_result : (op : Op) (value : Option (List ℕ)) → ResultHolds op value
    → ResultHolds op (value_in (read_of op value))
found_result (Get t k) value r = tt
found_result (Put t k v) value r = tt
found_result (Add t k f up by) value r = r
found_result (Del t k) value r = tt
found_result (Need t k f least) value r = tt
found_result (Guard t k) value r = tt
found_result (Scan t low high) value r = tt

-- one that reads nothing adds nothing
unread_result : (op : Op) → op_reads op ≡ false → ResultHolds op None
unread_result (Get t k) e = tt
unread_result (Put t k v) e = tt
unread_result (Add t k f up by) e = absurd (false≢true (sym e))
unread_result (Del t k) e = tt
unread_result (Need t k f least) e = tt
unread_result (Guard t k) e = tt
unread_result (Scan t low high) e = tt

written_holds : (widths : List ℕ) (op : Op) (value : Option (List ℕ)) (ws : List Item) → OpHolds op
    → HasWords value → ResultHolds op value → AllByRecursion ItemHolds ws
    → AllByRecursion ItemHolds (writes_after widths op (holding value) ws)
written_holds widths (Get t k) value ws o has r all = all
written_holds widths (Put t k v) value ws o has r all =
    all_wrote ItemHolds ws (item_at (key_at t k) (Some v)) all o.1
written_holds widths (Add t k f up by) value ws o has r all =
    let width = slice_index widths t in let n = new_number up (field_of value f) by in
    all_wrote ItemHolds ws (item_at (key_at t k) (Some (with_field width value f n))) all
    (field_words width f n value has r)
written_holds widths (Del t k) value ws o has r all = all_wrote ItemHolds ws (item_at (key_at t k) None) all tt
written_holds widths (Need t k f least) value ws o has r all = all
written_holds widths (Guard t k) value ws o has r all = all
written_holds widths (Scan t low high) value ws o has r all = absurd o

own_holds : (ws : List Item) (key : Key) → AllByRecursion ItemHolds ws → HasWords (own_value ws key)
own_holds [] key all = tt
own_holds (w ∷ ws) key all =
    either HasWords (same_key (item_key w) key) w.value (own_value ws key) all.0 (own_holds ws key all.1)

-- 2. An operation goes on

module _ (shape : Shape) (state : TxnState) (h : StateHolds shape.form state) (op : Op) (o : OpHolds op) where
  abbrev Holds : Stepped → Type 0
  Holds = StepHolds shape.form

  knows : (value : Option (List ℕ)) → HasWords value → StateHolds shape.form (knowing state op value)
  knows value has = record {
    last_is = h.last_is;
    written = h.written;
    found = found_holds op value o has;
    headers = h.headers;
    counted = h.counted;
  }

  unread : StateHolds shape.form (record state { read = None })
  unread = record { last_is = h.last_is; written = h.written; found = tt; headers = h.headers; counted = h.counted }

  valued_holds : (value : Option (List ℕ)) → HasWords value → Holds (on_value shape state op value)
  valued_holds value has =
      let known = knows value has in
      decided_goes shape Holds op (knowing state op value) value (λ e. (known, tt))
      (λ e f. (known, (o, found_result op value (passed_result op value has e))))
      (λ e f. (known, answer_fits shape.form op value))

  on_find_holds : (now : Now ℕ FindEnd) → Holds (on_find shape state op now)
  on_find_holds (At passed) = (h, o)
  on_find_holds (Over (found_key.At position)) = (h, (o, tt))
  on_find_holds (Over found_key.Absent) = valued_holds None tt

  on_read_holds : (position : ℕ) (now : Now ReadPoint ReadingEnd) → HoldsNow ReadHolds ReadingHolds now
      → Holds (on_read shape state op position now)
  on_read_holds position (At place) n = (h, (o, n))
  on_read_holds position (Over (read_end.Got value)) n = valued_holds value n
  on_read_holds position (Over (read_end.Passed worker entry horizon)) n = (h, tt)
  on_read_holds position (Over read_end.Astray) n = (h, tt)

  on_claim_holds : (now : Now ClaimKeyPoint ClaimKeyEnd) → ResultHolds op (value_in state.read)
      → Holds (on_claim shape state op now)
  on_claim_holds (At place) r = (h, (o, r))
  on_claim_holds (Over claimed_key.NoSpace) r = (h, tt)
  on_claim_holds (Over (claimed_key.At position)) r = (
    record {
      last_is = h.last_is;
      written = written_holds (widths_of shape.tables) op (value_in state.read) state.writes o h.found r h.written;
      found = h.found;
      headers = h.headers;
      counted = h.counted;
    },
    answer_fits shape.form op (value_in state.read),
  )

  own_written : (value : Option (List ℕ)) → HasWords value → passes op (holding value) ≡ true
      → StateHolds shape.form (with_op shape (knowing state op value) op value)
  own_written value has e = record {
    last_is = h.last_is;
    written =
        written_holds (widths_of shape.tables) op value state.writes o has (passed_result op value has e) h.written;
    found = found_holds op value o has;
    headers = h.headers;
    counted = h.counted;
  }

  -- an operation is asked
  pub ask_op_holds : Holds (ask_op shape state op)
  ask_op_holds =
      let own = own_value state.writes (op_key op) in
      let has : HasWords own = own_holds state.writes (op_key op) h.written in
      ask_goes shape Holds op state (λ e f. (knows own has, tt))
      (λ e f. (own_written own has f, answer_fits shape.form op own)) (λ e f. (unread, o))
      (λ e f. (unread, (o, unread_result op f)))

-- 3. A commit goes on

module _ (form : Form) (state : TxnState) (h : StateHolds form state) (room : state.last < greatest_number form) where
  abbrev Commits : Stepped → Type 0
  Commits = StepHolds form

  refused_holds : (refusal : Refusal) → AnswerFits form (refusal_answer refusal) → Commits (refused state refusal)
  refused_holds refusal fits = refused_goes Commits state refusal (λ e. (h, (room, tt))) (λ e. (h, fits))

  on_lock_holds : (now : Now Locks LockEnd) → HoldsNow LocksHold LockEndHolds now → Commits (on_lock state now)
  on_lock_holds (At locks) n =
      (record { last_is = h.last_is; written = h.written; found = h.found; headers = n.0; counted = h.counted }, (room, n.1))
  on_lock_holds (Over (lock_end.Held headers)) n =
      (record { last_is = h.last_is; written = h.written; found = h.found; headers = n; counted = h.counted }, (room, tt))
  on_lock_holds (Over (lock_end.Locked nth found)) n =
      refused_holds (refusal.Locked (lock_at state nth found)) tt
  on_lock_holds (Over (lock_end.Newer nth found)) n = refused_holds (refusal.Newer (lock_at state nth found)) tt

  on_words_holds : (nth : ℕ) (now : Now (List ℕ) (List ℕ)) → HoldsNow AreWords AreWords now
      → Commits (on_words state nth now)
  on_words_holds nth (At got) n = (h, (room, n))
  on_words_holds nth (Over old) n = (h, (room, n))

  counted_holds : (count : ℕ) → IsWord count → Commits (next_check (with_count state count))
  counted_holds count is =
      let h' : StateHolds form (with_count state count) = record {
        last_is = h.last_is;
        written = h.written;
        found = h.found;
        headers = h.headers;
        counted = All-append IsWord state.counts (count ∷ []) h.counted (is, tt);
      } in
      either Commits (length (state.counts ++ count ∷ []) == length state.writes) (checked (with_count state count))
      (go (with_count state count) (Checking CheckCount))
      (either Commits (tells_intent state) (go (with_count state count) (Counting 0))
      (go (with_count state count) (Saving 0 [])) (h', (room, tt)) (h', (room, tt))) (h', (room, tt))

  next_free_holds : (nth : ℕ) → Commits (next_free state nth)
  next_free_holds nth =
      next_free_goes Commits state nth (λ e f. (h, (room, tt))) (λ e f. (h, omega arith)) (λ e. (h, (room, tt)))

  pub commit_holds : (at : CommitPoint) (found : ℕ) → CommitPlaceHolds at → IsWord found
      → Commits (commit_after state at found)
  commit_holds (Listing at) found p is = on_list_goes Commits state _ (λ next e. (h, (room, tt))) (λ e. (h, (room, tt)))
  commit_holds (Locking at) found p is =
      on_lock_holds _ (lock_holds (places state) state.seen state.held at found h.headers p is)
  commit_holds (Checking CheckCount) found p is = (h, (room, is))
  commit_holds (Checking (CheckHead count)) found p is =
      let place = record_place state (length state.counts) in
      by_test (λ now. Commits (on_slot state now)) (is_moved place.form found) (Over (Free count))
      (Over (NotMoved (slot_of place count) found)) (λ t. counted_holds count p) (λ t. (h, (room, tt)))
  commit_holds (Returning given full) found p is =
      on_return_goes Commits state full _ (λ next e. (h, (room, tt))) (λ e f. (h, (room, tt))) (λ e f. (h, tt))
  commit_holds (Counting nth) found p is =
      next_count_goes Commits state (nth + 1) (λ e. (h, (room, tt))) (λ e. (h, (room, tt)))
  commit_holds Deciding found p is = (h, (room, tt))
  commit_holds (Saving nth got) found p is =
      on_words_holds nth _ (value_holds (record_place state nth) got found p is)
  commit_holds (Copying nth old at) found p is =
      on_copy_goes Commits state nth old _ (λ next e. (h, (room, p))) (λ e. (h, (room, tt)))
  commit_holds (Installing nth at) found p is =
      on_install_goes Commits state nth _ (λ next e. (h, (room, tt))) (λ e f. (h, (room, tt)))
      (λ e f. (h, (room, tt)))
  commit_holds Publishing found p is = next_free_holds (length state.writes)
  commit_holds (Freeing nth) found p is = next_free_holds (nth + 1)
  commit_holds (Clearing (refusal.Locked lock)) found p is = (h, tt)
  commit_holds (Clearing (refusal.Newer lock)) found p is = (h, tt)
  commit_holds (Clearing (refusal.Full lock)) found p is = (h, tt)
  commit_holds Ending found p is = (h, omega arith)

less_from : (last most : ℕ) → last ≤ most → (last == most) ≡ false → last < most
less_from last most l e = grind (arith, nat_tests)

pub ask_commit_holds : (shape : Shape) (state : TxnState) → StateHolds shape.form state
    → StepHolds shape.form (ask_commit shape state)
ask_commit_holds shape state h =
    let read_none : StateHolds shape.form (record state { read = None }) =
    record { last_is = h.last_is; written = h.written; found = tt; headers = h.headers; counted = h.counted } in
    ask_commit_goes (StepHolds shape.form) state shape (λ e. (read_none, tt)) (λ e f. (read_none, tt))
    (λ e f t. (
      record { last_is = h.last_is; written = h.written; found = tt; headers = tt; counted = tt },
      (less_from state.last (greatest_number shape.form) h.last_is f, tt),
    ))
    (λ e f t. (
      record { last_is = h.last_is; written = h.written; found = tt; headers = tt; counted = tt },
      (less_from state.last (greatest_number shape.form) h.last_is f, tt),
    ))

-- 4. A transaction

module _ (shape : Shape) (state : TxnState) (h : StateHolds shape.form state) where
  pub txn_holds : (place : TxnPoint) (found : ℕ) → TxnPlaceHolds shape.form state place → IsWord found
      → StepHolds shape.form (txn_after shape state place found)
  txn_holds (Finding op passed) found p is = on_find_holds shape state h op p _
  txn_holds (Reading op position at) found p is =
      on_read_holds shape state h op p.0 position _
      (read_holds (sight_of shape (op_key op).table position) state.seen at found p.1 is)
  txn_holds (Claiming op at) found p is = on_claim_holds shape state h op p.0 _ p.1
  txn_holds (Committing at) found p is = commit_holds shape.form state h p.0 at found p.1 is

  pub txn_ask_holds : (call : TxnCall) → TxnCallHolds call → StepHolds shape.form (txn_ask shape state call)
  txn_ask_holds (txn_call.Get t k) c = ask_op_holds shape state h (Get t k) c
  txn_ask_holds (txn_call.Put t k v) c = ask_op_holds shape state h (Put t k v) c
  txn_ask_holds (txn_call.Add t k f up by) c = ask_op_holds shape state h (Add t k f up by) c
  txn_ask_holds (txn_call.Del t k) c = ask_op_holds shape state h (Del t k) c
  txn_ask_holds (txn_call.Need t k f least) c = ask_op_holds shape state h (Need t k f least) c
  txn_ask_holds (txn_call.Guard t k) c = ask_op_holds shape state h (Guard t k) c
  txn_ask_holds txn_call.Commit c = ask_commit_holds shape state h
