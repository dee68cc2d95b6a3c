-- The medic: a stopped worker's attempt is finished from the words of its intent and of the records listed there.
use Rattle.std.specs.Prelude.{if◌then◌else◌, ℕ, ◌+◌, ◌==◌, ◌&&◌, nat_lt, nat_le, Bool, true, false, not, is_some, List}
use Rattle.std.specs.Prelude.{[], ◌∷◌, ◌++◌, length, slice_index, Option, Some, None}
use Rattle.si_model.specs.declared.log.Stamp.{Stamp}
use Rattle.si_model.specs.declared.log.Finish.{Finish}
use Rattle.si_model.specs.declared.log.Finish.TheVariants.{Clean, Undone, RolledOn}
use Rattle.nam_verbs.specs.declared.now.Now.{Now}
use Rattle.nam_verbs.specs.declared.now.Now.TheVariants.{At, Over}
use Rattle.nam_verbs.specs.Until.{until}
use Rattle.nam_verbs.specs.VerbAt.{VerbAt, ReadAt, WriteAt}
use Rattle.nam_catalog.specs.declared.form.Form.{Form}
use Rattle.nam_catalog.specs.declared.shape.Shape.{Shape}
use Rattle.nam_catalog.specs.Greatest.{greatest_number}
use Rattle.nam_header.specs.Header.{word_of, header_of}
use Rattle.nam_header.specs.Flag.{unlocked}
use Rattle.nam_header.specs.Stamp.{is_locked, same_stamp, version_word, mark}
use Rattle.nam_layout.specs.declared.field.Field.{Field}
use Rattle.nam_layout.specs.declared.field.Field.TheVariants.{Header, SlotHeader}
use Rattle.nam_layout.specs.Rows.{rows_in}
use Rattle.nam_layout.specs.Place.{place_at, slot_of}
use Rattle.nam_vector.specs.Publish.{publish_verb}
use Rattle.nam_calls.specs.declared.intent.IntentPhase.{IntentPhase}
use Rattle.nam_calls.specs.declared.intent.IntentPhase.TheVariants.{Listed, Decided}
use Rattle.nam_calls.specs.declared.intent.IntentState.{IntentState}
use Rattle.nam_calls.specs.declared.intent.IntentKind.{IntentKind}
use Rattle.nam_calls.specs.declared.intent.IntentKind.TheVariants.{Value, Deletion, Guard}
use Rattle.nam_calls.specs.declared.record.InstallPoint.{InstallPoint}
use Rattle.nam_calls.specs.declared.ring.CopyPoint.{CopyPoint}
use Rattle.nam_calls.specs.declared.medic.Walk.{Walk}
use Rattle.nam_calls.specs.declared.medic.NextVersion.{NextVersion}
use Rattle.nam_calls.specs.declared.medic.MedicPoint.{MedicPoint}
use Rattle.nam_calls.specs.declared.medic.MedicPoint.TheVariants.{MedicState, UndoRow, UndoHead, UndoBack, UndoClear}
use Rattle.nam_calls.specs.declared.medic.MedicPoint.TheVariants.{RollNumber, RollRow, RollKind, RollCount, RollData}
use Rattle.nam_calls.specs.declared.medic.MedicPoint.TheVariants.{RollHead, RollSlot, RollOld, RollCopy, RollInstall}
use Rattle.nam_calls.specs.declared.medic.MedicPoint.TheVariants.{RollEntry, GuardRow, GuardKind, GuardHead}
use Rattle.nam_calls.specs.declared.medic.MedicPoint.TheVariants.{GuardBack, RollClear}
use Rattle.nam_calls.specs.Intent.{state_field, number_field, row_field, kind_field, count_field, data_field}
use Rattle.nam_calls.specs.Intent.{no_intent, state_in, kind_in}
use Rattle.nam_calls.specs.Record.{words_begin, words_verb, words_after, install_begin, install_verb, install_after}
use Rattle.nam_calls.specs.Ring.{copy_begin, copy_verb, copy_after}

-- 1. Headers

-- the word is locked, and names this worker as the holder
abbrev pub holds_lock : Form → ℕ → ℕ → Bool
holds_lock form worker word = is_locked form word && ((header_of form word).holder == worker)

-- the word without the lock
abbrev pub without_lock : Form → ℕ → ℕ
without_lock form word = word_of form (unlocked form word)

-- the slot holds the version that this header is of
abbrev pub is_copied : Form → ℕ → ℕ → Bool
is_copied form header found = same_stamp form found header && not (found == mark)

-- 2. The verb of each point

-- the stamp of a worker's commit, and the header of a version of it
abbrev pub commit_stamp : ℕ → Walk → Stamp
commit_stamp worker walk = record { thread = worker; number = walk.number }

abbrev pub next_header : Form → ℕ → Walk → NextVersion → ℕ
next_header form worker walk next = version_word form (commit_stamp worker walk) (not (is_some next.value))

abbrev pub medic_begin : MedicPoint
medic_begin = MedicState

module _ (shape : Shape) (worker : ℕ) where
  -- a header is written back without lock
  abbrev pub free_verb : ℕ → ℕ → VerbAt Field
  free_verb row header = WriteAt (Header row) (without_lock shape.form header)

  -- a guard is read by its place among the records
  abbrev pub medic_verb : MedicPoint → VerbAt Field
  medic_verb MedicState = ReadAt (state_field worker)
  medic_verb (UndoRow records nth) = ReadAt (row_field worker nth)
  medic_verb (UndoHead records nth row) = ReadAt (Header row)
  medic_verb (UndoBack records nth row header) = free_verb row header
  medic_verb UndoClear = WriteAt (state_field worker) no_intent
  medic_verb (RollNumber records) = ReadAt (number_field worker)
  medic_verb (RollRow walk) = ReadAt (row_field worker walk.nth)
  medic_verb (RollKind walk row) = ReadAt (kind_field worker walk.nth)
  medic_verb (RollCount walk row deleted) = ReadAt (count_field worker walk.nth)
  medic_verb (RollData walk row count got) = ReadAt (data_field worker walk.nth (length got))
  medic_verb (RollHead walk next) = ReadAt (Header next.row)
  medic_verb (RollSlot walk next header) =
      ReadAt (SlotHeader next.row (slot_of (place_at shape next.row) next.count))
  medic_verb (RollOld walk next header got) = words_verb (place_at shape next.row) got
  medic_verb (RollCopy walk next header old at) =
      copy_verb (place_at shape next.row) next.count (without_lock shape.form header) old (commit_stamp worker walk) at
  medic_verb (RollInstall walk next at) =
      install_verb (place_at shape next.row) next.value next.count (next_header shape.form worker walk next) at
  medic_verb (RollEntry number guards) = publish_verb worker number
  medic_verb (GuardRow guards passed) = ReadAt (row_field worker (slice_index guards passed))
  medic_verb (GuardKind guards passed row) = ReadAt (kind_field worker (slice_index guards passed))
  medic_verb (GuardHead guards passed row) = ReadAt (Header row)
  medic_verb (GuardBack guards passed row header) = free_verb row header
  medic_verb RollClear = WriteAt (state_field worker) no_intent

-- 3. A word is taken

abbrev pub MedicNow : Type 0
MedicNow = Now MedicPoint Finish

-- a listed record has a row of the shape
abbrev pub on_row : Shape → ℕ → MedicPoint → MedicNow
on_row shape found point = if nat_lt found (rows_in shape.tables) then At point else Over Clean

-- the record of a listed commit after so many
abbrev pub next_undo : ℕ → ℕ → MedicNow
next_undo records nth = if nth == records then At UndoClear else At (UndoRow records nth)

abbrev pub on_phase : ℕ → IntentPhase → MedicNow
on_phase records Listed = next_undo records 0
on_phase records Decided = At (RollNumber records)

abbrev pub on_state : Option IntentState → MedicNow
on_state None = Over Clean
on_state (Some state) = on_phase state.records state.phase

-- the record at hand of a decided commit; after the last the entry is written
abbrev pub this_record : Walk → MedicNow
this_record walk = if walk.nth == walk.records then At (RollEntry walk.number walk.guards) else At (RollRow walk)

abbrev pub next_record : Walk → MedicNow
next_record walk = this_record (record walk { nth = walk.nth + 1 })

-- the walk before the first record
abbrev pub new_walk : ℕ → ℕ → Walk
new_walk records number = record { records = records; number = number; nth = 0; guards = [] }

-- a guard is remembered
abbrev pub on_kind : Walk → ℕ → Option IntentKind → MedicNow
on_kind walk row None = Over Clean
on_kind walk row (Some Value) = At (RollCount walk row false)
on_kind walk row (Some Deletion) = At (RollCount walk row true)
on_kind walk row (Some Guard) = next_record (record walk { guards = walk.guards ++ walk.nth ∷ [] })

abbrev pub next_version : ℕ → ℕ → Option (List ℕ) → NextVersion
next_version row count value = record { row = row; count = count; value = value }

abbrev pub install_next : Walk → NextVersion → MedicPoint
install_next walk next = RollInstall walk next (install_begin next.value)

abbrev pub on_old : Walk → NextVersion → ℕ → Now (List ℕ) (List ℕ) → MedicNow
on_old walk next header (At got) = At (RollOld walk next header got)
on_old walk next header (Over old) = At (RollCopy walk next header old copy_begin)

abbrev pub on_copy : Walk → NextVersion → ℕ → List ℕ → Now CopyPoint (Unit {0}) → MedicNow
on_copy walk next header old (At at) = At (RollCopy walk next header old at)
on_copy walk next header old (Over done) = At (install_next walk next)

abbrev pub on_install : Walk → NextVersion → Now InstallPoint (Unit {0}) → MedicNow
on_install walk next (At at) = At (RollInstall walk next at)
on_install walk next (Over done) = next_record walk

-- the guard after so many
abbrev pub next_guard : List ℕ → ℕ → MedicNow
next_guard guards passed = if passed == length guards then At RollClear else At (GuardRow guards passed)

module _ (shape : Shape) (worker : ℕ) where
  abbrev pub medic_after : MedicPoint → ℕ → MedicNow
  medic_after MedicState found = on_state (state_in found)
  medic_after (UndoRow records nth) found = on_row shape found (UndoHead records nth found)
  medic_after (UndoHead records nth row) found =
      if holds_lock shape.form worker found then At (UndoBack records nth row found) else next_undo records (nth + 1)
  medic_after (UndoBack records nth row header) found = next_undo records (nth + 1)
  medic_after UndoClear found = Over Undone
  medic_after (RollNumber records) found =
      if nat_le found (greatest_number shape.form) then this_record (new_walk records found) else Over Clean
  medic_after (RollRow walk) found = on_row shape found (RollKind walk found)
  medic_after (RollKind walk row) found = on_kind walk row (kind_in found)
  medic_after (RollCount walk row deleted) found =
      if deleted then At (RollHead walk (next_version row found None)) else At (RollData walk row found [])
  medic_after (RollData walk row count got) found =
      At (until (place_at shape row).width (got ++ found ∷ []) (RollData walk row count)
      (λ value. RollHead walk (next_version row count (Some value))))
  medic_after (RollHead walk next) found =
      if holds_lock shape.form worker found then At (RollSlot walk next found) else next_record walk
  medic_after (RollSlot walk next header) found =
      if is_copied shape.form header found then At (install_next walk next)
      else At (RollOld walk next header words_begin)
  medic_after (RollOld walk next header got) found =
      on_old walk next header (words_after (place_at shape next.row) got found)
  medic_after (RollCopy walk next header old at) found =
      on_copy walk next header old (copy_after (place_at shape next.row) at)
  medic_after (RollInstall walk next at) found = on_install walk next (install_after (place_at shape next.row) at)
  medic_after (RollEntry number guards) found = next_guard guards 0
  medic_after (GuardRow guards passed) found = on_row shape found (GuardKind guards passed found)
  medic_after (GuardKind guards passed row) found =
      if is_some (kind_in found) then At (GuardHead guards passed row) else Over Clean
  medic_after (GuardHead guards passed row) found =
      if holds_lock shape.form worker found then At (GuardBack guards passed row found)
      else next_guard guards (passed + 1)
  medic_after (GuardBack guards passed row header) found = next_guard guards (passed + 1)
  medic_after RollClear found = Over RolledOn
