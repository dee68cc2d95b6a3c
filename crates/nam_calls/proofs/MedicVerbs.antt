-- The medic's verbs: each is at a field of the shape, writes a word, and changes the field that its point names.
use Rattle.std.specs.List.{AllByRecursion}
use Rattle.std.specs.Prelude.{nat_lt, nat_le, is_some, slice_index, not}
use Rattle.std.proofs.Common.{◌≡◌, ℕ, zero, suc, ◌+◌, ◌<◌, ◌≤◌, ◌==◌, List, [], ◌∷◌, ◌++◌, length, Option, Some, None}
use Rattle.std.proofs.Common.{refl, sym, subst, arith, false}
use Rattle.si_model.specs.declared.log.Finish.TheVariants.{Clean}
use Rattle.nam_verbs.specs.declared.now.Now.{Now}
use Rattle.nam_verbs.specs.declared.now.Now.TheVariants.{At, Over}
use Rattle.nam_verbs.specs.VerbAt.{target}
use Rattle.nam_verbs.specs.Falls.{Any}
use Rattle.nam_catalog.specs.declared.bounds.TheConstants.{MOST_WIDTH, MOST_WORKERS, INTENT_WORDS}
use Rattle.nam_catalog.specs.declared.form.Form.TheVariants.{Held}
use Rattle.nam_catalog.specs.declared.shape.Shape.{Shape}
use Rattle.nam_catalog.specs.Fits.{FitsLimits}
use Rattle.nam_catalog.specs.Greatest.{greatest_number}
use Rattle.nam_catalog.specs.Words.{intent_words}
use Rattle.nam_layout.specs.declared.field.Field.{Field}
use Rattle.nam_layout.specs.declared.field.Field.TheVariants.{Intent}
use Rattle.nam_layout.specs.Rows.{rows_in}
use Rattle.nam_layout.specs.Address.{IsField, IsWorker, IsRow}
use Rattle.nam_layout.specs.Known.{IsOfPlace}
use Rattle.nam_layout.specs.Place.{place_at}
use Rattle.nam_layout.specs.PlaceFits.{FitsPlace}
use Rattle.nam_layout.proofs.LimitLemmas.{place_within_limits}
use Rattle.nam_layout.proofs.PlaceLemmas.{place_stands}
use Rattle.nam_calls.specs.declared.intent.IntentPhase.{IntentPhase}
use Rattle.nam_calls.specs.declared.intent.IntentPhase.TheVariants.{Listed, Decided}
use Rattle.nam_calls.specs.declared.intent.IntentState.{IntentState}
use Rattle.nam_calls.specs.declared.intent.IntentKind.{IntentKind}
use Rattle.nam_calls.specs.declared.intent.IntentKind.TheVariants.{Value, Deletion, Guard}
use Rattle.nam_calls.specs.declared.record.InstallPoint.{InstallPoint}
use Rattle.nam_calls.specs.declared.record.InstallPoint.TheVariants.{InstallWord, InstallCount, InstallHead}
use Rattle.nam_calls.specs.declared.ring.CopyPoint.{CopyPoint}
use Rattle.nam_calls.specs.declared.ring.CopyPoint.TheVariants.{CopyMark, CopyEnding, CopyWord, CopyHead}
use Rattle.nam_calls.specs.declared.medic.Walk.{Walk}
use Rattle.nam_calls.specs.declared.medic.NextVersion.{NextVersion}
use Rattle.nam_calls.specs.declared.medic.MedicPoint.{MedicPoint}
use Rattle.nam_calls.specs.declared.medic.MedicPoint.TheVariants.{MedicState, UndoRow, UndoHead, UndoBack, UndoClear}
use Rattle.nam_calls.specs.declared.medic.MedicPoint.TheVariants.{RollNumber, RollRow, RollKind, RollCount, RollData}
use Rattle.nam_calls.specs.declared.medic.MedicPoint.TheVariants.{RollHead, RollSlot, RollOld, RollCopy, RollInstall}
use Rattle.nam_calls.specs.declared.medic.MedicPoint.TheVariants.{RollEntry, GuardRow, GuardKind, GuardHead}
use Rattle.nam_calls.specs.declared.medic.MedicPoint.TheVariants.{GuardBack, RollClear}
use Rattle.nam_calls.specs.Intent.{record_from, state_in, kind_in}
use Rattle.nam_calls.specs.Medic.{MedicNow, holds_lock, without_lock, is_copied, commit_stamp, next_header}
use Rattle.nam_calls.specs.Medic.{medic_verb, on_row, next_undo, on_phase, on_state, this_record}
use Rattle.nam_calls.specs.Medic.{next_record, new_walk, on_kind, next_version, install_next, on_old, on_copy}
use Rattle.nam_calls.specs.Medic.{on_install}
use Rattle.nam_calls.specs.Medic.{next_guard}
use Rattle.nam_calls.specs.Record.{install_verb, install_after, words_after}
use Rattle.nam_calls.specs.Ring.{copy_verb, copy_after}
use Rattle.nam_calls.specs.Holds.{IsWord, AreWords, HasWords, HoldsNow, WritesWord}
use Rattle.nam_calls.specs.MedicFits.{MedicFits, MedicHolds, WalkFits, IsListed}
use Rattle.nam_calls.specs.MedicLaw.{MedicFieldLaw, MedicHoldsLaw, MedicWordLaw, MedicWritesLaw}
use Rattle.nam_calls.proofs.FallsTests.{either}
use Rattle.nam_calls.proofs.FallsMachines.{slot_within}
use Rattle.nam_calls.proofs.FieldLemmas.{place_verbs}
use Rattle.nam_calls.proofs.HoldsWords.{words_push, words_at, value_word, until_holds, unlocked_word, stamped_word}
use Rattle.nam_calls.proofs.HoldsWords.{number_word, mark_word, count_word}
use Rattle.nam_calls.proofs.WritesLemmas.{copy_written, install_written}

-- 1. The fields

listed_at : (guards : List ℕ) (nth : ℕ) → nth < length guards → AllByRecursion IsListed guards
    → IsListed (slice_index guards nth)
listed_at [] nth l all = absurd (omega arith)
listed_at (g ∷ gs) zero l all = all.0
listed_at (g ∷ gs) (suc nth) l all = listed_at gs nth (omega arith) all.1

module _ (shape : Shape) (worker : ℕ) (limits : FitsLimits shape) (held : shape.form ≡ Held)
    (is_worker : IsWorker shape worker) where
  intent_field : (nth : ℕ) → nth < INTENT_WORDS → IsField shape (Intent worker nth)
  intent_field nth l = (is_worker, subst (λ form. nth < intent_words form) (sym held) l)

  -- a word of a listed record
  record_field : (nth word : ℕ) → IsListed nth → word < 3 + MOST_WIDTH
      → IsField shape (Intent worker (record_from nth + word))
  record_field nth word l w = intent_field (record_from nth + word) (omega arith)

  -- the first word of a listed record
  first_field : (nth : ℕ) → IsListed nth → IsField shape (Intent worker (record_from nth))
  first_field nth l = intent_field (record_from nth) (omega arith)

  row_fits : (row : ℕ) → IsRow shape row → FitsPlace (place_at shape row)
  row_fits row is = place_within_limits shape row limits is

  -- a field of a row's place
  place_field : (row : ℕ) (field : Field) → IsRow shape row → IsOfPlace (place_at shape row) field → IsField shape field
  place_field row field is of = (place_stands shape row field of).1 is

  walk_listed : (walk : Walk) → WalkFits shape walk → IsListed walk.nth
  walk_listed walk fits = let few = fits.is_record.0 in let less = fits.is_record.1 in omega arith

  data_word : (walk : Walk) (row : ℕ) (got : List ℕ) → WalkFits shape walk → IsRow shape row
      → length got < (place_at shape row).width
      → IsField shape (target (medic_verb shape worker (RollData walk row 0 got)))
  data_word walk row got fits is l =
      let w = (row_fits row is).most_width in
      let n = walk_listed walk fits in
      intent_field (record_from walk.nth + 3 + length got) (omega arith)

  fields : (at : MedicPoint) → MedicFits shape at → IsField shape (target (medic_verb shape worker at))
  fields MedicState l = intent_field 0 (omega arith)
  fields (UndoRow records nth) l = let few = l.0 in let less = l.1 in first_field nth (omega arith)
  fields (UndoHead records nth row) l = l.1
  fields (UndoBack records nth row header) l = l.1
  fields UndoClear l = intent_field 0 (omega arith)
  fields (RollNumber records) l = intent_field 1 (omega arith)
  fields (RollRow walk) l = first_field walk.nth (walk_listed walk l)
  fields (RollKind walk row) l = record_field walk.nth 1 (walk_listed walk l.0) (omega arith)
  fields (RollCount walk row deleted) l = record_field walk.nth 2 (walk_listed walk l.0) (omega arith)
  fields (RollData walk row count got) l = data_word walk row got l.0 l.1 l.2
  fields (RollHead walk next) l = l.1.0
  fields (RollSlot walk next header) l =
      (l.1.0, slot_within (place_at shape next.row) (row_fits next.row l.1.0) next.count)
  fields (RollOld walk next header got) l = (l.1.0, l.2)
  fields (RollCopy walk next header old at) l =
      let place = place_at shape next.row in
      let head = without_lock shape.form header in
      place_field next.row (target (copy_verb place next.count head old (commit_stamp worker walk) at)) l.1.0
      ((place_verbs place (row_fits next.row l.1.0)).copy next.count head old (commit_stamp worker walk) at l.3)
  fields (RollInstall walk next at) l =
      let place = place_at shape next.row in
      let head = next_header shape.form worker walk next in
      place_field next.row (target (install_verb place next.value next.count head at)) l.1.0
      ((place_verbs place (row_fits next.row l.1.0)).install next.value next.count head at l.2)
  fields (RollEntry number guards) l = is_worker
  fields (GuardRow guards passed) l =
      first_field (slice_index guards passed) (listed_at guards passed l.1 l.0.are_listed)
  fields (GuardKind guards passed row) l =
      record_field (slice_index guards passed) 1 (listed_at guards passed l.0.1 l.0.0.are_listed) (omega arith)
  fields (GuardHead guards passed row) l = l.1
  fields (GuardBack guards passed row header) l = l.1
  fields RollClear l = intent_field 0 (omega arith)

-- 2. The words that it holds

abbrev Holding : MedicNow → Type 0
Holding = HoldsNow MedicHolds Any

on_row_holds : (shape : Shape) (found : ℕ) (point : MedicPoint) → MedicHolds point → Holding (on_row shape found point)
on_row_holds shape found point h = either Holding (nat_lt found (rows_in shape.tables)) (At point) (Over Clean) h tt

next_undo_holds : (records nth : ℕ) → Holding (next_undo records nth)
next_undo_holds records nth = either Holding (nth == records) (At UndoClear) (At (UndoRow records nth)) tt tt

on_phase_holds : (records : ℕ) (phase : IntentPhase) → Holding (on_phase records phase)
on_phase_holds records Listed = next_undo_holds records 0
on_phase_holds records Decided = tt

on_state_holds : (state : Option IntentState) → Holding (on_state state)
on_state_holds None = tt
on_state_holds (Some state) = on_phase_holds state.records state.phase

this_record_holds : (walk : Walk) → Holding (this_record walk)
this_record_holds walk =
    either Holding (walk.nth == walk.records) (At (RollEntry walk.number walk.guards)) (At (RollRow walk)) tt tt

on_kind_holds : (walk : Walk) (row : ℕ) (kind : Option IntentKind) → Holding (on_kind walk row kind)
on_kind_holds walk row None = tt
on_kind_holds walk row (Some Value) = tt
on_kind_holds walk row (Some Deletion) = tt
on_kind_holds walk row (Some Guard) =
    this_record_holds (record walk { nth = walk.nth + 1; guards = walk.guards ++ walk.nth ∷ [] })

on_old_holds : (walk : Walk) (next : NextVersion) (header : ℕ) (now : Now (List ℕ) (List ℕ)) → HasWords next.value
    → IsWord header → HoldsNow AreWords AreWords now → Holding (on_old walk next header now)
on_old_holds walk next header (At got) value is all = (value, is, all)
on_old_holds walk next header (Over old) value is all = (value, is, all)

on_copy_holds : (walk : Walk) (next : NextVersion) (header : ℕ) (old : List ℕ) (now : Now CopyPoint (Unit {0}))
    → HasWords next.value → IsWord header → AreWords old → Holding (on_copy walk next header old now)
on_copy_holds walk next header old (At at) value is all = (value, is, all)
on_copy_holds walk next header old (Over done) value is all = value

on_install_holds : (walk : Walk) (next : NextVersion) (now : Now InstallPoint (Unit {0})) → HasWords next.value
    → Holding (on_install walk next now)
on_install_holds walk next (At at) value = value
on_install_holds walk next (Over done) value = this_record_holds (record walk { nth = walk.nth + 1 })

next_guard_holds : (guards : List ℕ) (passed : ℕ) → Holding (next_guard guards passed)
next_guard_holds guards passed =
    either Holding (passed == length guards) (At RollClear) (At (GuardRow guards passed)) tt tt

holds : MedicHoldsLaw
holds shape worker MedicState found h is = on_state_holds (state_in found)
holds shape worker (UndoRow records nth) found h is = on_row_holds shape found (UndoHead records nth found) tt
holds shape worker (UndoHead records nth row) found h is =
    either Holding (holds_lock shape.form worker found) (At (UndoBack records nth row found))
    (next_undo records (nth + 1))
    is (next_undo_holds records (nth + 1))
holds shape worker (UndoBack records nth row header) found h is = next_undo_holds records (nth + 1)
holds shape worker UndoClear found h is = tt
holds shape worker (RollNumber records) found h is =
    either Holding (nat_le found (greatest_number shape.form)) (this_record (new_walk records found)) (Over Clean)
    (this_record_holds (new_walk records found)) tt
holds shape worker (RollRow walk) found h is = on_row_holds shape found (RollKind walk found) tt
holds shape worker (RollKind walk row) found h is = on_kind_holds walk row (kind_in found)
holds shape worker (RollCount walk row deleted) found h is =
    either Holding deleted (At (RollHead walk (next_version row found None))) (At (RollData walk row found [])) tt tt
holds shape worker (RollData walk row count got) found h is =
    let all = words_push got found h is in
    until_holds MedicHolds (place_at shape row).width (got ++ found ∷ []) (RollData walk row count)
    (λ value. RollHead walk (next_version row count (Some value))) all all
holds shape worker (RollHead walk next) found h is =
    either Holding (holds_lock shape.form worker found) (At (RollSlot walk next found)) (next_record walk) (h, is)
    (this_record_holds (record walk { nth = walk.nth + 1 }))
holds shape worker (RollSlot walk next header) found h is =
    either Holding (is_copied shape.form header found) (At (install_next walk next))
    (At (RollOld walk next header [])) h.0 (h.0, h.1, tt)
holds shape worker (RollOld walk next header got) found h is =
    let all = words_push got found h.2 is in
    let width = (place_at shape next.row).width in
    on_old_holds walk next header (words_after (place_at shape next.row) got found) h.0 h.1
    (until_holds (HoldsNow AreWords AreWords) width (got ++ found ∷ []) At Over all all)
holds shape worker (RollCopy walk next header old at) found h is =
    on_copy_holds walk next header old (copy_after (place_at shape next.row) at) h.0 h.1 h.2
holds shape worker (RollInstall walk next at) found h is =
    on_install_holds walk next (install_after (place_at shape next.row) at) h
holds shape worker (RollEntry number guards) found h is = next_guard_holds guards 0
holds shape worker (GuardRow guards passed) found h is = on_row_holds shape found (GuardKind guards passed found) tt
holds shape worker (GuardKind guards passed row) found h is =
    either Holding (is_some (kind_in found)) (At (GuardHead guards passed row)) (Over Clean) tt tt
holds shape worker (GuardHead guards passed row) found h is =
    either Holding (holds_lock shape.form worker found) (At (GuardBack guards passed row found))
    (next_guard guards (passed + 1)) is (next_guard_holds guards (passed + 1))
holds shape worker (GuardBack guards passed row header) found h is = next_guard_holds guards (passed + 1)
holds shape worker RollClear found h is = tt

-- 3. The words that it writes

module _ (shape : Shape) (worker : ℕ) (limits : FitsLimits shape) (is_worker : IsWorker shape worker) where
  few_workers : worker ≤ MOST_WORKERS
  few_workers = let l = is_worker.1 in let m = limits.most_workers in omega arith

  copy_word : (walk : Walk) (next : NextVersion) (header : ℕ) (old : List ℕ) (at : CopyPoint) → WalkFits shape walk
      → IsWord header → AreWords old → WritesWord (medic_verb shape worker (RollCopy walk next header old at))
  copy_word walk next header old CopyMark fits is all = mark_word
  copy_word walk next header old CopyEnding fits is all =
      stamped_word shape.form worker walk.number false few_workers fits.number
  copy_word walk next header old (CopyWord nth) fits is all = words_at old nth all
  copy_word walk next header old CopyHead fits is all = unlocked_word shape.form header is

  install_word : (walk : Walk) (next : NextVersion) (at : InstallPoint) → WalkFits shape walk → HasWords next.value
      → WritesWord (medic_verb shape worker (RollInstall walk next at))
  install_word walk next (InstallWord nth) fits has = value_word next.value nth has
  install_word walk next InstallCount fits has = count_word (next.count + 1)
  install_word walk next InstallHead fits has =
      stamped_word shape.form worker walk.number (not (is_some next.value)) few_workers fits.number

  writes_words : (at : MedicPoint) → MedicFits shape at → MedicHolds at → WritesWord (medic_verb shape worker at)
  writes_words MedicState l h = tt
  writes_words (UndoRow records nth) l h = tt
  writes_words (UndoHead records nth row) l h = tt
  writes_words (UndoBack records nth row header) l h = unlocked_word shape.form header h
  writes_words UndoClear l h = omega arith
  writes_words (RollNumber records) l h = tt
  writes_words (RollRow walk) l h = tt
  writes_words (RollKind walk row) l h = tt
  writes_words (RollCount walk row deleted) l h = tt
  writes_words (RollData walk row count got) l h = tt
  writes_words (RollHead walk next) l h = tt
  writes_words (RollSlot walk next header) l h = tt
  writes_words (RollOld walk next header got) l h = tt
  writes_words (RollCopy walk next header old at) l h = copy_word walk next header old at l.0 h.1 h.2
  writes_words (RollInstall walk next at) l h = install_word walk next at l.0 h
  writes_words (RollEntry number guards) l h = number_word shape.form number l.0
  writes_words (GuardRow guards passed) l h = tt
  writes_words (GuardKind guards passed row) l h = tt
  writes_words (GuardHead guards passed row) l h = tt
  writes_words (GuardBack guards passed row header) l h = unlocked_word shape.form header h
  writes_words RollClear l h = omega arith

-- 4. The field that it may change

writes : MedicWritesLaw
writes shape worker MedicState = refl
writes shape worker (UndoRow records nth) = refl
writes shape worker (UndoHead records nth row) = refl
writes shape worker (UndoBack records nth row header) = refl
writes shape worker UndoClear = refl
writes shape worker (RollNumber records) = refl
writes shape worker (RollRow walk) = refl
writes shape worker (RollKind walk row) = refl
writes shape worker (RollCount walk row deleted) = refl
writes shape worker (RollData walk row count got) = refl
writes shape worker (RollHead walk next) = refl
writes shape worker (RollSlot walk next header) = refl
writes shape worker (RollOld walk next header got) = refl
writes shape worker (RollCopy walk next header old at) =
    copy_written (place_at shape next.row) next.count (without_lock shape.form header) old (commit_stamp worker walk) at
writes shape worker (RollInstall walk next at) =
    install_written (place_at shape next.row) next.value next.count (next_header shape.form worker walk next) at
writes shape worker (RollEntry number guards) = refl
writes shape worker (GuardRow guards passed) = refl
writes shape worker (GuardKind guards passed row) = refl
writes shape worker (GuardHead guards passed row) = refl
writes shape worker (GuardBack guards passed row header) = refl
writes shape worker RollClear = refl

-- 5. The laws

pub field_law : MedicFieldLaw
field_law = fields

pub holds_law : MedicHoldsLaw
holds_law = holds

pub word_law : MedicWordLaw
word_law = writes_words

pub writes_law : MedicWritesLaw
writes_law = writes
