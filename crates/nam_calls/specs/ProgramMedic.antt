-- The medic as a straight program, to be compared with the order of verbs.
use Rattle.std.specs.Prelude.{if◌then◌else◌, ℕ, zero, suc, ◌+◌, nat_lt, nat_le, true, false, not, is_some, List}
use Rattle.std.specs.Prelude.{[], ◌∷◌, ◌++◌, length}
use Rattle.std.specs.Prelude.{Option, Some, None, slice_index}
use Rattle.si_model.specs.declared.log.Stamp.{Stamp}
use Rattle.si_model.specs.declared.log.Finish.{Finish}
use Rattle.si_model.specs.declared.log.Finish.TheVariants.{Clean, Undone, RolledOn}
use Rattle.nam_verbs.specs.declared.now.Now.TheVariants.{At}
use Rattle.nam_catalog.specs.declared.shape.Shape.{Shape}
use Rattle.nam_catalog.specs.Fits.{FitsLimits}
use Rattle.nam_catalog.specs.Greatest.{greatest_number}
use Rattle.nam_header.specs.Stamp.{version_word, stamp_word, mark}
use Rattle.nam_layout.specs.declared.field.Field.{Field}
use Rattle.nam_layout.specs.declared.field.Field.TheVariants as field
use Rattle.nam_layout.specs.Rows.{rows_in, width_at}
use Rattle.nam_layout.specs.Place.{place_at, slot_of}
use Rattle.nam_calls.specs.declared.intent.IntentPhase.{IntentPhase}
use Rattle.nam_calls.specs.declared.intent.IntentPhase.TheVariants.{Listed, Decided}
use Rattle.nam_calls.specs.declared.intent.IntentState.{IntentState}
use Rattle.nam_calls.specs.declared.intent.IntentKind.{IntentKind}
use Rattle.nam_calls.specs.declared.intent.IntentKind.TheVariants.{Value, Deletion, Guard}
use Rattle.nam_calls.specs.Intent.{state_field, number_field, row_field, kind_field, count_field, data_field}
use Rattle.nam_calls.specs.Intent.{no_intent, state_in, kind_in}
use Rattle.nam_calls.specs.Words.{wrapped}
use Rattle.nam_calls.specs.Medic.{holds_lock, without_lock, is_copied, medic_begin, medic_verb, medic_after}
use Rattle.nam_calls.specs.Program.{Prog, Ret, ◌>>=◌, ◌>>◌, read, write, words, write_words, IsTheProgram}
use Rattle.nam_calls.specs.Program.{standing, taking}

-- the slot of a row's version with this number
abbrev pub slot_for : Shape → ℕ → ℕ → ℕ
slot_for shape row count = slot_of (place_at shape row) count

module _ (shape : Shape) (worker : ℕ) where
  -- the row of a listed record; where the shape has no such row there is nothing to finish
  abbrev pub with_row : Field → (ℕ → Prog Finish) → Prog Finish
  with_row at rest = read at >>= λ row. if nat_lt row (rows_in shape.tables) then rest row else Ret Clean

  -- where the worker locks the row, its header is written back without lock
  abbrev pub free_row : ℕ → Prog Finish → Prog Finish
  free_row row rest =
      read (field.Header row) >>= λ header.
      if holds_lock shape.form worker header
      then (write (field.Header row) (without_lock shape.form header) >> rest)
      else rest

  -- 1. A listed commit: so many records from the nth on
  abbrev pub undo_from : ℕ → ℕ → Prog Finish
  undo_from zero nth = do
    write (state_field worker) no_intent
    Ret Undone
  undo_from (suc rest) nth = with_row (row_field worker nth) λ row. free_row row (undo_from rest (nth + 1))

  -- 2. A decided commit: one record

  abbrev pub stamp_of : ℕ → Stamp
  stamp_of number = record { thread = worker; number = number }

  -- the new words, none for a deletion; the count; the header
  abbrev pub write_version : ℕ → ℕ → ℕ → Option (List ℕ) → Prog Finish → Prog Finish
  write_version number row count None rest = do
    write (field.Count row) (wrapped (count + 1))
    write (field.Header row) (version_word shape.form (stamp_of number) true)
    rest
  write_version number row count (Some value) rest = do
    write_words (field.Word row) (slice_index value) (width_at shape.tables row) 0
    write (field.Count row) (wrapped (count + 1))
    write (field.Header row) (version_word shape.form (stamp_of number) false)
    rest

  -- the record's words are read; its slot gets the mark, the end, these words, and the header
  abbrev pub copy_version : ℕ → ℕ → ℕ → ℕ → Prog Finish → Prog Finish
  copy_version number row count header rest = do
    old ← words (field.Word row) (width_at shape.tables row) []
    write (field.SlotHeader row (slot_for shape row count)) mark
    write (field.SlotEnd row (slot_for shape row count)) (stamp_word shape.form (stamp_of number))
    write_words (field.SlotWord row (slot_for shape row count)) (slice_index old) (width_at shape.tables row) 0
    write (field.SlotHeader row (slot_for shape row count)) (without_lock shape.form header)
    rest

  -- where the worker still locks the row, its version is copied if its slot hasn't it yet, and the next one installed
  abbrev pub roll_record : ℕ → ℕ → ℕ → Option (List ℕ) → Prog Finish → Prog Finish
  roll_record number row count value rest =
      read (field.Header row) >>= λ header.
      if not (holds_lock shape.form worker header) then rest else
      read (field.SlotHeader row (slot_for shape row count)) >>= λ found.
      if is_copied shape.form header found then write_version number row count value rest
      else copy_version number row count header (write_version number row count value rest)

  -- what follows a record's kind: the next record, or the next one after a guard
  abbrev pub by_kind : ℕ → ℕ → ℕ → Option IntentKind → Prog Finish → Prog Finish → Prog Finish
  by_kind number row nth None rest guarded = Ret Clean
  by_kind number row nth (Some Guard) rest guarded = guarded
  by_kind number row nth (Some Deletion) rest guarded = do
    count ← read (count_field worker nth)
    roll_record number row count None rest
  by_kind number row nth (Some Value) rest guarded = do
    count ← read (count_field worker nth)
    value ← words (data_field worker nth) (width_at shape.tables row) []
    roll_record number row count (Some value) rest

  -- 3. So many guards, after those passed
  abbrev pub guards_from : List ℕ → ℕ → ℕ → Prog Finish
  guards_from guards zero passed = do
    write (state_field worker) no_intent
    Ret RolledOn
  guards_from guards (suc rest) passed =
      with_row (row_field worker (slice_index guards passed)) λ row.
      read (kind_field worker (slice_index guards passed)) >>= λ kind.
      if not (is_some (kind_in kind)) then Ret Clean else free_row row (guards_from guards rest (passed + 1))

  -- 4. A decided commit: so many records from the nth on, then the worker's entry and the guards
  abbrev pub roll_from : ℕ → ℕ → ℕ → List ℕ → Prog Finish
  roll_from number zero nth guards = do
    write (field.Entry worker) number
    guards_from guards (length guards) 0
  roll_from number (suc rest) nth guards =
      with_row (row_field worker nth) λ row.
      read (kind_field worker nth) >>= λ kind.
      by_kind number row nth (kind_in kind) (roll_from number rest (nth + 1) guards)
      (roll_from number rest (nth + 1) (guards ++ nth ∷ []))

  -- 5. What the state says

  abbrev pub by_phase : ℕ → IntentPhase → Prog Finish
  by_phase records Listed = undo_from records 0
  by_phase records Decided =
      read (number_field worker) >>= λ number.
      if nat_le number (greatest_number shape.form) then roll_from number records 0 [] else Ret Clean

  abbrev pub by_state : Option IntentState → Prog Finish
  by_state None = Ret Clean
  by_state (Some state) = by_phase state.records state.phase

  abbrev pub medic_program : Prog Finish
  medic_program = read (state_field worker) >>= λ word. by_state (state_in word)

-- in a shape within its limits, the medic does what its program says
abbrev pub MedicIsProgram : Type 0
MedicIsProgram = (shape : Shape) (worker : ℕ) → FitsLimits shape
    → IsTheProgram (standing (medic_verb shape worker)) (taking (medic_after shape worker)) (At medic_begin)
    (medic_program shape worker)
