-- A commit: lock, check the slots, copy and install, publish, free the guards. In form Held it lists its records in the
-- worker's intent first, and its decision before the first copy, and clears the intent at its end.
use Rattle.std.specs.Prelude.{ℕ, ◌+◌, ◌==◌, if◌then◌else◌, List, [], ◌∷◌, ◌++◌, length, map, slice_index}
use Rattle.std.specs.Prelude.{slice_index_or, Option, Some, None, is_some, not, nat_lt, Bool, true, false}
use Rattle.si_model.specs.declared.row.Key.{Key}
use Rattle.si_model.specs.declared.row.Item.{Item}
use Rattle.si_model.specs.declared.log.Stamp.{Stamp}
use Rattle.si_model.specs.declared.log.Lock.{Lock}
use Rattle.si_model.specs.Rows.{key_at, same_key, item_key}
use Rattle.si_model.specs.Evaluation.{unwritten}
use Rattle.nam_verbs.specs.declared.now.Now.{Now}
use Rattle.nam_verbs.specs.declared.now.Now.TheVariants.{At, Over}
use Rattle.nam_verbs.specs.VerbAt.{VerbAt, WriteAt}
use Rattle.nam_catalog.specs.declared.form.Form.{Form}
use Rattle.nam_catalog.specs.declared.form.Form.TheVariants as form
use Rattle.nam_catalog.specs.declared.shape.Shape.{Shape}
use Rattle.nam_catalog.specs.Greatest.{greatest_number}
use Rattle.nam_header.specs.Stamp.{stamp_in, version_word}
use Rattle.nam_layout.specs.declared.field.Place.{Place}
use Rattle.nam_layout.specs.Place.{no_place}
use Rattle.nam_layout.specs.declared.field.Field.{Field}
use Rattle.nam_vector.specs.Publish.{publish_verb}
use Rattle.nam_calls.specs.declared.intent.IntentKind.{IntentKind}
use Rattle.nam_calls.specs.declared.intent.IntentKind.TheVariants.{Value, Deletion, Guard}
use Rattle.nam_calls.specs.declared.intent.IntentPhase.TheVariants.{Listed, Decided}
use Rattle.nam_calls.specs.declared.record.InstallPoint.{InstallPoint}
use Rattle.nam_calls.specs.declared.ring.SlotPoint.{SlotPoint}
use Rattle.nam_calls.specs.declared.ring.SlotEnd.{SlotEnd}
use Rattle.nam_calls.specs.declared.ring.SlotEnd.TheVariants.{Free, NotMoved}
use Rattle.nam_calls.specs.declared.ring.CopyPoint.{CopyPoint}
use Rattle.nam_calls.specs.declared.lock.Locks.{Locks}
use Rattle.nam_calls.specs.declared.lock.LockEnd.{LockEnd}
use Rattle.nam_calls.specs.Intent.{state_field, number_field, row_field, kind_field, count_field, data_field}
use Rattle.nam_calls.specs.Intent.{no_intent, state_word, kind_word}
use Rattle.nam_calls.specs.Record.{words_begin, words_verb, words_after, install_begin, install_verb, install_after}
use Rattle.nam_calls.specs.Record.{word_in}
use Rattle.nam_calls.specs.Ring.{slot_begin, slot_verb, slot_after, copy_begin, copy_verb, copy_after}
use Rattle.nam_calls.specs.Lock.{nth_place, lock_begin, lock_verb, lock_after, unlock_verb, unlock_after}
use Rattle.nam_calls.specs.declared.lock.LockEnd.TheVariants as lock_end
use Rattle.nam_protocol.specs.declared.txn.Record.{Record}
use Rattle.nam_protocol.specs.declared.txn.TxnState.{TxnState}
use Rattle.nam_protocol.specs.declared.txn.ListPoint.{ListPoint}
use Rattle.nam_protocol.specs.declared.txn.ListPoint.TheVariants.{ListRow, ListKind, ListData, ListNumber, ListState}
use Rattle.nam_protocol.specs.declared.txn.Refusal.{Refusal}
use Rattle.nam_protocol.specs.declared.txn.Refusal.TheVariants as refusal
use Rattle.nam_protocol.specs.declared.txn.CommitPoint.{CommitPoint}
use Rattle.nam_protocol.specs.declared.txn.CommitPoint.TheVariants.{Locking, Checking, Returning, Saving, Copying}
use Rattle.nam_protocol.specs.declared.txn.CommitPoint.TheVariants.{Installing, Publishing, Freeing}
use Rattle.nam_protocol.specs.declared.txn.CommitPoint.TheVariants.{Listing, Counting, Deciding, Clearing, Ending}
use Rattle.nam_protocol.specs.declared.txn.TxnPoint.TheVariants.{Committing}
use Rattle.nam_protocol.specs.declared.txn.TxnAnswer.{TxnAnswer}
use Rattle.nam_protocol.specs.declared.txn.TxnAnswer.TheVariants.{Committed, ReadOnly, Spent, Locked, Newer, Full}
use Rattle.nam_protocol.specs.Txn.{Stepped, at, over}

-- 1. The records

-- the key with the position that was claimed for it
abbrev pub record_in : List Record → Key → Record
record_in [] key = record { key = key; place = no_place }
record_in (c ∷ cs) key = if same_key c.key key then c else record_in cs key

-- the written keys in write-set order, then the guarded ones that aren't written
abbrev pub commit_keys : TxnState → List Key
commit_keys state = map item_key state.writes ++ unwritten state.writes state.guards

abbrev pub records_of : TxnState → List Record
records_of state = map (record_in state.claims) (commit_keys state)

abbrev pub places : TxnState → List Place
places state = map (λ r. r.place) state.records

abbrev pub record_place : TxnState → ℕ → Place
record_place state nth = nth_place (places state) nth

abbrev pub no_record : Record
no_record = record { key = key_at 0 0; place = no_place }

abbrev pub record_at : TxnState → ℕ → Record
record_at state nth = slice_index_or state.records nth no_record

abbrev pub no_item : Item
no_item = record { table = 0; key = 0; value = None }

-- what a written record gets
abbrev pub value_at : TxnState → ℕ → Option (List ℕ)
value_at state nth = (slice_index_or state.writes nth no_item).value

-- a record with the stamp of the header that was found
abbrev pub lock_at : TxnState → ℕ → ℕ → Lock
lock_at state nth word =
    let r = record_at state nth in record { table = r.key.table; key = r.key.key; stamp = stamp_in r.place.form word }

-- the stamp of this commit, and the header of a written record's new version
abbrev pub own_stamp : TxnState → Stamp
own_stamp state = record { thread = state.worker; number = state.last + 1 }

abbrev pub new_header : TxnState → ℕ → ℕ
new_header state nth = version_word (record_place state nth).form (own_stamp state) (not (is_some (value_at state nth)))

-- 2. The intent

-- only in form Held a commit tells its intent
abbrev pub has_intents : Form → Bool
has_intents form.Narrow = false
has_intents form.Wide = false
has_intents form.Held = true

abbrev pub tells_intent : TxnState → Bool
tells_intent state = has_intents (record_place state 0).form

-- what the commit does with a record
abbrev pub kind_of : Option (List ℕ) → IntentKind
kind_of None = Deletion
kind_of (Some value) = Value

abbrev pub kind_at : TxnState → ℕ → IntentKind
kind_at state nth = if nat_lt nth (length state.writes) then kind_of (value_at state nth) else Guard

abbrev pub list_begin : ListPoint
list_begin = ListRow 0

abbrev pub list_verb : TxnState → ListPoint → VerbAt Field
list_verb state (ListRow nth) = WriteAt (row_field state.worker nth) (record_place state nth).row
list_verb state (ListKind nth) = WriteAt (kind_field state.worker nth) (kind_word (kind_at state nth))
list_verb state (ListData nth word) = WriteAt (data_field state.worker nth word) (word_in (value_at state nth) word)
list_verb state ListNumber = WriteAt (number_field state.worker) (state.last + 1)
list_verb state ListState = WriteAt (state_field state.worker) (state_word (length state.records) Listed)

-- the record after the nth, and after the last the number
abbrev pub list_next : TxnState → ℕ → Now ListPoint (Unit {0})
list_next state nth = if nth + 1 == length state.records then At ListNumber else At (ListRow (nth + 1))

-- only a value has data words
abbrev pub list_kind_after : TxnState → ℕ → IntentKind → Now ListPoint (Unit {0})
list_kind_after state nth Value = At (ListData nth 0)
list_kind_after state nth Deletion = list_next state nth
list_kind_after state nth Guard = list_next state nth

abbrev pub list_after : TxnState → ListPoint → Now ListPoint (Unit {0})
list_after state (ListRow nth) = At (ListKind nth)
list_after state (ListKind nth) = list_kind_after state nth (kind_at state nth)
list_after state (ListData nth word) =
    if word + 1 == (record_place state nth).width then list_next state nth else At (ListData nth (word + 1))
list_after state ListNumber = At ListState
list_after state ListState = Over tt

-- 3. The commit is asked

abbrev pub commit_begin : TxnState → CommitPoint
commit_begin state = if tells_intent state then Listing list_begin else Locking lock_begin

abbrev pub committing : TxnState → TxnState
committing state = record state { read = None; records = records_of state; held = []; counts = [] }

abbrev pub ask_commit : Shape → TxnState → Stepped
ask_commit shape state =
    if length state.writes == 0 then over (record state { read = None }) ReadOnly
    else if state.last == greatest_number shape.form then over (record state { read = None }) Spent
    else at (committing state) (Committing (commit_begin (committing state)))

-- 4. The verb that stands

abbrev pub clear_verb : TxnState → VerbAt Field
clear_verb state = WriteAt (state_field state.worker) no_intent

abbrev pub commit_verb : TxnState → CommitPoint → VerbAt Field
commit_verb state (Listing at) = list_verb state at
commit_verb state (Locking at) = lock_verb state.worker (places state) state.held at
commit_verb state (Checking at) = slot_verb (record_place state (length state.counts)) at
commit_verb state (Returning given full) = unlock_verb (places state) state.held given
commit_verb state (Counting nth) = WriteAt (count_field state.worker nth) (slice_index state.counts nth)
commit_verb state Deciding = WriteAt (state_field state.worker) (state_word (length state.records) Decided)
commit_verb state (Saving nth got) = words_verb (record_place state nth) got
commit_verb state (Copying nth old at) =
    copy_verb (record_place state nth) (slice_index state.counts nth) (slice_index state.held nth) old
    (own_stamp state) at
commit_verb state (Installing nth at) =
    install_verb (record_place state nth) (value_at state nth) (slice_index state.counts nth) (new_header state nth) at
commit_verb state Publishing = publish_verb state.worker (state.last + 1)
commit_verb state (Freeing nth) = unlock_verb (places state) state.held nth
commit_verb state (Clearing refusal) = clear_verb state
commit_verb state Ending = clear_verb state

-- 5. A word is taken

abbrev pub go : TxnState → CommitPoint → Stepped
go state place = at state (Committing place)

-- the answer to a commit that changes nothing; where an intent is told, it is cleared first
abbrev pub refusal_answer : Refusal → TxnAnswer
refusal_answer (refusal.Locked lock) = Locked lock
refusal_answer (refusal.Newer lock) = Newer lock
refusal_answer (refusal.Full lock) = Full lock

abbrev pub refused : TxnState → Refusal → Stepped
refused state refusal =
    if tells_intent state then go state (Clearing refusal) else over state (refusal_answer refusal)

-- before step 1: the records are listed
abbrev pub on_list : TxnState → Now ListPoint (Unit {0}) → Stepped
on_list state (At place) = go state (Listing place)
on_list state (Over done) = go state (Locking lock_begin)

-- step 1: the locks, whose headers it holds one after another
abbrev pub on_lock : TxnState → Now Locks LockEnd → Stepped
on_lock state (At locks) = go (record state { held = locks.held }) (Locking locks.at)
on_lock state (Over (lock_end.Held headers)) = go (record state { held = headers }) (Checking slot_begin)
on_lock state (Over (lock_end.Locked nth found)) = refused state (refusal.Locked (lock_at state nth found))
on_lock state (Over (lock_end.Newer nth found)) = refused state (refusal.Newer (lock_at state nth found))

-- step 2: the slots of the written records, whose counts an intent then tells
abbrev pub checked : TxnState → Stepped
checked state = if tells_intent state then go state (Counting 0) else go state (Saving 0 words_begin)

abbrev pub next_check : TxnState → Stepped
next_check state = if length state.counts == length state.writes then checked state else go state (Checking slot_begin)

abbrev pub next_count : TxnState → ℕ → Stepped
next_count state nth = if nth == length state.writes then go state Deciding else go state (Counting nth)

abbrev pub on_slot : TxnState → Now SlotPoint SlotEnd → Stepped
on_slot state (At place) = go state (Checking place)
on_slot state (Over (Free count)) = next_check (record state { counts = state.counts ++ count ∷ [] })
on_slot state (Over (NotMoved slot found)) = go state (Returning 0 (lock_at state (length state.counts) found))

abbrev pub on_return : TxnState → Lock → Now ℕ (Unit {0}) → Stepped
on_return state full (At given) = go state (Returning given full)
on_return state full (Over done) = refused state (refusal.Full full)

-- step 3: record after record its words, the copy into the slot, and the new version
abbrev pub on_words : TxnState → ℕ → Now (List ℕ) (List ℕ) → Stepped
on_words state nth (At got) = go state (Saving nth got)
on_words state nth (Over old) = go state (Copying nth old copy_begin)

abbrev pub on_copy : TxnState → ℕ → List ℕ → Now CopyPoint (Unit {0}) → Stepped
on_copy state nth old (At place) = go state (Copying nth old place)
on_copy state nth old (Over done) = go state (Installing nth (install_begin (value_at state nth)))

abbrev pub on_install : TxnState → ℕ → Now InstallPoint (Unit {0}) → Stepped
on_install state nth (At place) = go state (Installing nth place)
on_install state nth (Over done) =
    if nth + 1 == length state.writes then go state Publishing else go state (Saving (nth + 1) words_begin)

-- steps 4 and 5: the worker's entry, then the guards; where an intent is told, it is cleared then
abbrev pub ended : TxnState → Stepped
ended state = if tells_intent state then go state Ending else over state (Committed (state.last + 1))

abbrev pub next_free : TxnState → ℕ → Stepped
next_free state nth = if nth == length state.records then ended state else go state (Freeing nth)

abbrev pub commit_after : TxnState → CommitPoint → ℕ → Stepped
commit_after state (Listing at) found = on_list state (list_after state at)
commit_after state (Locking at) found =
    on_lock state (lock_after (places state) state.seen state.held at found)
commit_after state (Checking at) found = on_slot state (slot_after (record_place state (length state.counts)) at found)
commit_after state (Returning given full) found = on_return state full (unlock_after (places state) given)
commit_after state (Counting nth) found = next_count state (nth + 1)
commit_after state Deciding found = go state (Saving 0 words_begin)
commit_after state (Saving nth got) found = on_words state nth (words_after (record_place state nth) got found)
commit_after state (Copying nth old at) found = on_copy state nth old (copy_after (record_place state nth) at)
commit_after state (Installing nth at) found = on_install state nth (install_after (record_place state nth) at)
commit_after state Publishing found = next_free state (length state.writes)
commit_after state (Freeing nth) found = next_free state (nth + 1)
commit_after state (Clearing refusal) found = over state (refusal_answer refusal)
commit_after state Ending found = over state (Committed (state.last + 1))
