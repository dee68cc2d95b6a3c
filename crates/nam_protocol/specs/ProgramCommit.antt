-- The commit as a straight program, to be compared with the order of verbs.
use Rattle.std.specs.Prelude.{ℕ, zero, suc, ◌+◌, ◌-◌, ◌<◌, ◌==◌, not, if◌then◌else◌, List, [], ◌∷◌, ◌++◌, length}
use Rattle.std.specs.Prelude.{Option, Some, None, slice_index}
use Rattle.nam_verbs.specs.declared.now.Now.{Now}
use Rattle.nam_verbs.specs.declared.now.Now.TheVariants.{At, Over}
use Rattle.nam_verbs.specs.VerbAt.{VerbAt}
use Rattle.nam_catalog.specs.declared.shape.Shape.{Shape}
use Rattle.nam_catalog.specs.Greatest.{greatest_number}
use Rattle.nam_header.specs.Stamp.{is_locked, is_moved, sees, with_lock, stamp_word, mark}
use Rattle.nam_layout.specs.declared.field.Place.{Place}
use Rattle.nam_layout.specs.Place.{slot_of}
use Rattle.nam_layout.specs.declared.field.Field.{Field}
use Rattle.nam_layout.specs.declared.field.Field.TheVariants as field
use Rattle.nam_calls.specs.declared.intent.IntentKind.{IntentKind}
use Rattle.nam_calls.specs.declared.intent.IntentKind.TheVariants.{Value, Deletion, Guard}
use Rattle.nam_calls.specs.declared.intent.IntentPhase.TheVariants.{Listed, Decided}
use Rattle.nam_calls.specs.Intent.{state_field, number_field, row_field, kind_field, count_field, data_field}
use Rattle.nam_calls.specs.Intent.{no_intent, state_word, kind_word}
use Rattle.nam_calls.specs.declared.lock.LockEnd.{LockEnd}
use Rattle.nam_calls.specs.Record.{word_in}
use Rattle.nam_calls.specs.Lock.{nth_place, loss_of}
use Rattle.nam_calls.specs.Program.{Prog, Ret, ◌>>=◌, ◌>>◌, read, exchange, write, words, write_words, IsTheProgram}
use Rattle.nam_calls.specs.Program.{standing}
use Rattle.nam_calls.specs.Words.{wrapped}
use Rattle.nam_calls.specs.declared.lock.LockEnd.TheVariants as lock_end
use Rattle.nam_protocol.specs.declared.txn.TxnState.{TxnState}
use Rattle.nam_protocol.specs.declared.txn.TxnPoint.{TxnPoint}
use Rattle.nam_protocol.specs.declared.txn.TxnAnswer.{TxnAnswer}
use Rattle.nam_protocol.specs.declared.txn.TxnAnswer.TheVariants.{ReadOnly, Spent, Committed, Locked, Newer, Full}
use Rattle.nam_protocol.specs.Txn.{Stepped}
use Rattle.nam_protocol.specs.Commit.{places, record_place, value_at, lock_at, own_stamp, new_header}
use Rattle.nam_protocol.specs.Commit.{ask_commit, committing, kind_at, tells_intent}
use Rattle.nam_protocol.specs.TxnCalls.{txn_verb, txn_after}

-- the headers of so many records, from the nth on, are written back
abbrev pub write_back : List Place → List ℕ → ℕ → ℕ → Prog (Unit {0})
write_back places headers count nth =
    write_words (λ k. field.Header (nth_place places k).row) (slice_index headers) count nth

-- 1. The locks: of so many records beyond those held

module _ (worker : ℕ) (places : List Place) (seen : List ℕ) where
  abbrev pub give_all_back : List ℕ → ℕ → Prog LockEnd
  give_all_back held found = do
    write_back places held (length held) 0
    Ret (loss_of (nth_place places (length held)).form (length held) found)

  abbrev pub lock_records : ℕ → List ℕ → Prog LockEnd
  lock_records zero held = Ret (lock_end.Held held)
  lock_records (suc rest) held =
      let place = nth_place places (length held) in
      read (field.Header place.row) >>= λ header.
      if is_locked place.form header then give_all_back held header else
      if not (sees place.form seen header) then give_all_back held header else
      exchange (field.Header place.row) header (with_lock place.form worker header) >>= λ found.
      if found == header then lock_records rest (held ++ header ∷ []) else give_all_back held found

-- how the look at the slots ended: all are free, and these are the counts; or the nth record's slot has this header
pub data Checked : Type 0 where
  AllFree : (counts : List ℕ) → Checked
  NotFree : (nth found : ℕ) → Checked

module _ (state : TxnState) where
  -- where an intent is told, it is cleared before the answer
  abbrev pub finish : TxnAnswer → Prog TxnAnswer
  finish answer =
      if tells_intent state then (do
        write (state_field state.worker) no_intent
        Ret answer)
      else Ret answer

  -- only a value has data words
  abbrev pub kind_words : Place → IntentKind → ℕ
  kind_words place Value = place.width
  kind_words place Deletion = 0
  kind_words place Guard = 0

  -- So many records from the nth on are listed
  abbrev pub list_records : Prog TxnAnswer → ℕ → ℕ → Prog TxnAnswer
  list_records after zero nth = after
  list_records after (suc rest) nth = do
    write (row_field state.worker nth) (record_place state nth).row
    write (kind_field state.worker nth) (kind_word (kind_at state nth))
    write_words (data_field state.worker nth) (word_in (value_at state nth))
        (kind_words (record_place state nth) (kind_at state nth)) 0
    list_records after rest (nth + 1)

  abbrev pub list_end : Prog TxnAnswer → Prog TxnAnswer
  list_end after = do
    write (number_field state.worker) (state.last + 1)
    write (state_field state.worker) (state_word (length state.records) Listed)
    after

  -- 2. The slots: of so many written records beyond those counted
  abbrev pub check_slots : ℕ → List ℕ → Prog Checked
  check_slots zero counts = Ret (AllFree counts)
  check_slots (suc rest) counts =
      let place = record_place state (length counts) in
      read (field.Count place.row) >>= λ count.
      read (field.SlotHeader place.row (slot_of place count)) >>= λ header.
      if is_moved place.form header then check_slots rest (counts ++ count ∷ [])
      else Ret (NotFree (length counts) header)

  -- a value has words to be written, and a deletion none
  abbrev pub data_words : Place → Option (List ℕ) → ℕ
  data_words place None = 0
  data_words place (Some value) = place.width

  -- 3. So many written records from the nth on: the current version goes into its slot, and the new one takes its place
  abbrev pub replace_versions : List ℕ → List ℕ → Prog TxnAnswer → ℕ → ℕ → Prog TxnAnswer
  replace_versions held counts after zero nth = after
  replace_versions held counts after (suc rest) nth = do
    let place = record_place state nth
    let count = slice_index counts nth
    let slot = slot_of place count
    old ← words (field.Word place.row) place.width []
    write (field.SlotHeader place.row slot) mark
    write (field.SlotEnd place.row slot) (stamp_word place.form (own_stamp state))
    write_words (field.SlotWord place.row slot) (slice_index old) place.width 0
    write (field.SlotHeader place.row slot) (slice_index held nth)
    write_words (field.Word place.row) (word_in (value_at state nth)) (data_words place (value_at state nth)) 0
    write (field.Count place.row) (wrapped (count + 1))
    write (field.Header place.row) (new_header state nth)
    replace_versions held counts after rest (nth + 1)

  -- 4 and 5. The worker's entry, and the guards' headers
  abbrev pub publish : List ℕ → Prog TxnAnswer
  publish held = do
    write (field.Entry state.worker) (state.last + 1)
    write_back (places state) held (length state.records - length state.writes) (length state.writes)
    finish (Committed (state.last + 1))

  -- where an intent is told: the counts, and the decision
  abbrev pub decide : List ℕ → Prog TxnAnswer → Prog TxnAnswer
  decide counts after = do
    write_words (count_field state.worker) (slice_index counts) (length state.writes) 0
    write (state_field state.worker) (state_word (length state.records) Decided)
    after

  abbrev pub replace_all : List ℕ → List ℕ → Prog TxnAnswer
  replace_all held counts = replace_versions held counts (publish held) (length state.writes) 0

  abbrev pub after_check : List ℕ → Checked → Prog TxnAnswer
  after_check held (AllFree counts) =
      if tells_intent state then decide counts (replace_all held counts) else replace_all held counts
  after_check held (NotFree nth found) = do
    write_back (places state) held (length (places state)) 0
    finish (Full (lock_at state nth found))

  abbrev pub after_locks : LockEnd → Prog TxnAnswer
  after_locks (lock_end.Held held) = check_slots (length state.writes) [] >>= after_check held
  after_locks (lock_end.Locked nth found) = finish (Locked (lock_at state nth found))
  after_locks (lock_end.Newer nth found) = finish (Newer (lock_at state nth found))

  abbrev pub locked_records : Prog TxnAnswer
  locked_records = lock_records state.worker (places state) state.seen (length (places state)) [] >>= after_locks

  -- where an intent is told, the records are listed before the locks
  abbrev pub commit_records : Prog TxnAnswer
  commit_records =
      if tells_intent state then list_records (list_end locked_records) (length state.records) 0 else locked_records

module _ (shape : Shape) where
  abbrev pub commit_program : TxnState → Prog TxnAnswer
  commit_program state =
      if length state.writes == 0 then Ret ReadOnly else
      if state.last == greatest_number shape.form then Ret Spent else
      commit_records (committing state)

  -- where a transaction's call stands, and the transaction after a word
  abbrev pub txn_stands : Stepped → Now (VerbAt Field) TxnAnswer
  txn_stands step = standing (txn_verb shape step.state) step.call

  abbrev pub call_taken : Stepped → Now TxnPoint TxnAnswer → ℕ → Stepped
  call_taken step (At place) found = txn_after shape step.state place found
  call_taken step (Over answer) found = step

  abbrev pub txn_takes : Stepped → ℕ → Stepped
  txn_takes step found = call_taken step step.call found

-- where each written key has a position with words, the commit does what its program says
abbrev pub CommitIsProgram : Type 0
CommitIsProgram = (shape : Shape) (state : TxnState)
    → ((nth : ℕ) → nth < length state.writes → 0 < (record_place (committing state) nth).width)
    → IsTheProgram (txn_stands shape) (txn_takes shape) (ask_commit shape state) (commit_program shape state)
