-- The medic is its straight program.
use Rattle.std.proofs.Common.{◌≡◌, ℕ, zero, suc, ◌+◌, ◌<◌, ◌==◌, List, [], ◌∷◌, ◌++◌, length, Option, Some, None}
use Rattle.std.proofs.Common.{refl, arith}
use Rattle.std.specs.Prelude.{if◌then◌else◌, nat_lt, nat_le, is_some, slice_index}
use Rattle.std.proofs.lemmas.Bool.Decides.{nat_tests}
use Rattle.si_model.specs.declared.log.Finish.{Finish}
use Rattle.si_model.specs.declared.log.Finish.TheVariants.{Clean}
use Rattle.nam_verbs.specs.declared.now.Now.TheVariants.{At, Over}
use Rattle.nam_verbs.proofs.TestLemmas.{if_in}
use Rattle.nam_catalog.specs.declared.shape.Shape.{Shape}
use Rattle.nam_catalog.specs.Fits.{FitsLimits}
use Rattle.nam_catalog.specs.Greatest.{greatest_number}
use Rattle.nam_layout.specs.declared.field.Field.TheVariants as field
use Rattle.nam_layout.specs.Rows.{rows_in, width_at}
use Rattle.nam_layout.specs.Address.{IsRow}
use Rattle.nam_layout.proofs.LimitLemmas.{place_within_limits}
use Rattle.nam_calls.specs.declared.intent.IntentPhase.{IntentPhase}
use Rattle.nam_calls.specs.declared.intent.IntentPhase.TheVariants.{Listed, Decided}
use Rattle.nam_calls.specs.declared.intent.IntentState.{IntentState}
use Rattle.nam_calls.specs.declared.intent.IntentKind.{IntentKind}
use Rattle.nam_calls.specs.declared.intent.IntentKind.TheVariants.{Value, Deletion, Guard}
use Rattle.nam_calls.specs.declared.record.InstallPoint.TheVariants.{InstallWord, InstallCount}
use Rattle.nam_calls.specs.declared.ring.CopyPoint.TheVariants.{CopyMark, CopyWord, CopyHead}
use Rattle.nam_calls.specs.declared.medic.Walk.{Walk}
use Rattle.nam_calls.specs.declared.medic.MedicPoint.{MedicPoint}
use Rattle.nam_calls.specs.declared.medic.MedicPoint.TheVariants.{UndoHead, RollKind, RollData, RollHead}
use Rattle.nam_calls.specs.declared.medic.MedicPoint.TheVariants.{RollOld, RollCopy, RollInstall, GuardKind}
use Rattle.nam_calls.specs.Intent.{data_field, state_in, kind_in}
use Rattle.nam_calls.specs.Medic.{MedicNow, holds_lock, is_copied, medic_begin, medic_verb, medic_after, on_row}
use Rattle.nam_calls.specs.Medic.{next_undo, on_phase, on_state, this_record, next_record, on_kind, next_version}
use Rattle.nam_calls.specs.Medic.{install_next, on_old, on_copy, on_install, next_guard}
use Rattle.nam_calls.specs.Program.{Prog, Ret, IsProgram, standing, taking}
use Rattle.nam_calls.specs.ProgramMedic.{undo_from, write_version, copy_version, roll_record, by_kind, slot_for}
use Rattle.nam_calls.specs.ProgramMedic.{guards_from, roll_from, by_phase, by_state, medic_program, MedicIsProgram}
use Rattle.nam_calls.proofs.Programs.{both, both_not, at_last, before_last, word_then, words_is, writes_is, the_program}

module _ (shape : Shape) (worker : ℕ) (limits : FitsLimits shape) where
  abbrev IsMedic : MedicNow → Prog Finish → Type 0
  IsMedic = IsProgram (standing (medic_verb shape worker)) (taking (medic_after shape worker))

  row_is : (found : ℕ) (point : MedicPoint) (p : Prog Finish) → (IsRow shape found → IsMedic (At point) p)
      → IsMedic (on_row shape found point) (if nat_lt found (rows_in shape.tables) then p else Ret Clean)
  row_is found point p f =
      both IsMedic (nat_lt found (rows_in shape.tables)) _ _ _ _ (λ e. f (grind (arith, nat_tests))) (λ e. refl)

  is_wide : (row : ℕ) → IsRow shape row → 0 < width_at shape.tables row
  is_wide row is = (place_within_limits shape row limits is).least_width

  -- 1. A listed commit

  undo_is : (records rest nth : ℕ) → nth + rest ≡ records
      → IsMedic (next_undo records nth) (undo_from shape worker rest nth)
  undo_is records zero nth e =
      at_last (λ call. IsMedic call (undo_from shape worker zero nth)) nth records _ _ (omega arith)
      (word_then refl λ done. refl)
  undo_is records (suc rest) nth e =
      before_last (λ call. IsMedic call (undo_from shape worker (suc rest) nth)) nth records _ _ rest (omega arith) (
      word_then refl λ row.
      row_is row (UndoHead records nth row) _ λ is.
      word_then refl λ header.
      both IsMedic (holds_lock shape.form worker header) _ _ _ _
      (λ t. word_then refl λ done. undo_is records rest (nth + 1) (omega arith))
      (λ t. undo_is records rest (nth + 1) (omega arith)))

  -- 2. One record of a decided commit

  module _ (walk : Walk) (row : ℕ) (is : IsRow shape row) (rest : Prog Finish) (next : IsMedic (next_record walk) rest)
    where
      version_is : (count : ℕ) (value : Option (List ℕ))
          → IsMedic (At (install_next walk (next_version row count value)))
          (write_version shape worker walk.number row count value rest)
      version_is count None = word_then refl λ counted. word_then refl λ installed. next
      version_is count (Some value) =
          let version = next_version row count (Some value) in
          writes_is (standing (medic_verb shape worker)) (taking (medic_after shape worker))
          (field.Word row) (slice_index value) (width_at shape.tables row)
          (λ nth. At (RollInstall walk version (InstallWord nth))) (At (RollInstall walk version InstallCount)) _
          (λ nth. refl)
          (λ nth found. if_in (on_install walk version) (nth + 1 == width_at shape.tables row) _
          (At (InstallWord (nth + 1)))) (
          word_then refl λ counted.
          word_then refl λ installed.
          next) (is_wide row is)

      copy_is : (count header : ℕ) (value : Option (List ℕ))
          → IsMedic (At (RollOld walk (next_version row count value) header []))
          (copy_version shape worker walk.number row count header
          (write_version shape worker walk.number row count value rest))
      copy_is count header value =
          let version = next_version row count value in
          words_is (standing (medic_verb shape worker)) (taking (medic_after shape worker))
          (field.Word row) (width_at shape.tables row)
          (λ got. At (RollOld walk version header got)) (λ old. At (RollCopy walk version header old CopyMark)) _
          (λ got. refl)
          (λ got word. if_in (on_old walk version header) (length (got ++ word ∷ []) == width_at shape.tables row)
          (Over (got ++ word ∷ [])) (At (got ++ word ∷ []))) (is_wide row is) λ old l.
          word_then refl λ marked.
          word_then refl λ ended.
          writes_is (standing (medic_verb shape worker)) (taking (medic_after shape worker))
          (field.SlotWord row (slot_for shape row count)) (slice_index old) (width_at shape.tables row)
          (λ nth. At (RollCopy walk version header old (CopyWord nth)))
          (At (RollCopy walk version header old CopyHead)) _
          (λ nth. refl)
          (λ nth found. if_in (on_copy walk version header old) (nth + 1 == width_at shape.tables row) (At CopyHead)
          (At (CopyWord (nth + 1)))) (
          word_then refl λ copied.
          version_is count value) (is_wide row is)

      record_is : (count : ℕ) (value : Option (List ℕ))
          → IsMedic (At (RollHead walk (next_version row count value)))
          (roll_record shape worker walk.number row count value rest)
      record_is count value =
          word_then refl λ header.
          both_not IsMedic (holds_lock shape.form worker header) _ _ _ _ (λ e. next) λ e.
          word_then refl λ found.
          both IsMedic (is_copied shape.form header found) _ _ _ _ (λ t. version_is count value)
          (λ t. copy_is count header value)

      kind_is : (kind : Option IntentKind) (guarded : Prog Finish)
          → IsMedic (next_record (record walk { guards = walk.guards ++ walk.nth ∷ [] })) guarded
          → IsMedic (on_kind walk row kind) (by_kind shape worker walk.number row walk.nth kind rest guarded)
      kind_is None guarded after = refl
      kind_is (Some Guard) guarded after = after
      kind_is (Some Deletion) guarded after = word_then refl λ count. record_is count None
      kind_is (Some Value) guarded after =
          word_then refl λ count.
          words_is (standing (medic_verb shape worker)) (taking (medic_after shape worker))
          (data_field worker walk.nth) (width_at shape.tables row)
          (λ got. At (RollData walk row count got))
          (λ value. At (RollHead walk (next_version row count (Some value)))) _
          (λ got. refl)
          (λ got word. if_in At (length (got ++ word ∷ []) == width_at shape.tables row) _ _)
          (is_wide row is) λ value l.
          record_is count (Some value)

  -- 3. The guards

  guards_is : (guards : List ℕ) (rest passed : ℕ) → passed + rest ≡ length guards
      → IsMedic (next_guard guards passed) (guards_from shape worker guards rest passed)
  guards_is guards zero passed e =
      at_last (λ call. IsMedic call (guards_from shape worker guards zero passed)) passed (length guards) _ _
      (omega arith) (word_then refl λ done. refl)
  guards_is guards (suc rest) passed e =
      before_last (λ call. IsMedic call (guards_from shape worker guards (suc rest) passed)) passed (length guards) _ _
      rest (omega arith) (
      word_then refl λ row.
      row_is row (GuardKind guards passed row) _ λ is.
      word_then refl λ kind.
      both_not IsMedic (is_some (kind_in kind)) _ _ _ _ (λ t. refl) λ t.
      word_then refl λ header.
      both IsMedic (holds_lock shape.form worker header) _ _ _ _
      (λ t. word_then refl λ done. guards_is guards rest (passed + 1) (omega arith))
      (λ t. guards_is guards rest (passed + 1) (omega arith)))

  -- 4. All records

  abbrev walk_at : ℕ → ℕ → ℕ → List ℕ → Walk
  walk_at records number nth guards = record { records = records; number = number; nth = nth; guards = guards }

  roll_is : (records number rest nth : ℕ) (guards : List ℕ) → nth + rest ≡ records
      → IsMedic (this_record (walk_at records number nth guards)) (roll_from shape worker number rest nth guards)
  roll_is records number zero nth guards e =
      at_last (λ call. IsMedic call (roll_from shape worker number zero nth guards)) nth records _ _ (omega arith)
      (word_then refl λ done. guards_is guards (length guards) 0 (omega arith))
  roll_is records number (suc rest) nth guards e =
      before_last (λ call. IsMedic call (roll_from shape worker number (suc rest) nth guards)) nth records _ _ rest
      (omega arith) (
      word_then refl λ row.
      row_is row (RollKind (walk_at records number nth guards) row) _ λ is.
      word_then refl λ kind.
      kind_is (walk_at records number nth guards) row is _
      (roll_is records number rest (nth + 1) guards (omega arith)) (kind_in kind) _
      (roll_is records number rest (nth + 1) (guards ++ nth ∷ []) (omega arith)))

  -- 5. The medic

  phase_is : (records : ℕ) (phase : IntentPhase)
      → IsMedic (on_phase records phase) (by_phase shape worker records phase)
  phase_is records Listed = undo_is records records 0 (omega arith)
  phase_is records Decided =
      word_then refl λ number.
      both IsMedic (nat_le number (greatest_number shape.form)) _ _ _ _
      (λ e. roll_is records number records 0 [] (omega arith)) (λ e. refl)

  state_is : (state : Option IntentState) → IsMedic (on_state state) (by_state shape worker state)
  state_is None = refl
  state_is (Some state) = phase_is state.records state.phase

  medic_is : IsMedic (At medic_begin) (medic_program shape worker)
  medic_is = word_then refl λ word. state_is (state_in word)

pub medic_is_program : MedicIsProgram
medic_is_program shape worker limits =
    the_program (standing (medic_verb shape worker)) (taking (medic_after shape worker)) _ _
    (medic_is shape worker limits)
