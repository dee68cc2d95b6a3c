-- The read is its straight program.
use Rattle.std.proofs.Common.{◌≡◌, ℕ, zero, suc, ◌+◌, ◌-◌, ◌<◌, not, ◌&&◌, ◌||◌, List, [], ◌∷◌, ◌++◌, length, Some}
use Rattle.std.proofs.Common.{refl, arith}
use Rattle.std.specs.Prelude.{if◌then◌else◌, ◌==◌, nat_lt, slice_index}
use Rattle.nam_verbs.specs.declared.now.Now.{Now}
use Rattle.nam_verbs.specs.declared.now.Now.TheVariants.{At, Over}
use Rattle.nam_verbs.proofs.TestLemmas.{if_in}
use Rattle.nam_verbs.specs.VerbAt.{ReadAt}
use Rattle.nam_header.specs.Stamp.{is_locked, is_deleted, same_stamp, sees, mark}
use Rattle.nam_header.specs.Tag.{is_full}
use Rattle.nam_layout.specs.declared.field.Place.{Place}
use Rattle.nam_layout.specs.declared.field.Cells.{Cells}
use Rattle.nam_layout.specs.declared.field.Field.TheVariants as field
use Rattle.nam_calls.specs.declared.record.CurrentPoint.{CurrentPoint}
use Rattle.nam_calls.specs.declared.record.CurrentPoint.TheVariants.{CurrentWords, CurrentAgain}
use Rattle.nam_calls.specs.declared.record.CurrentEnd.{CurrentEnd}
use Rattle.nam_calls.specs.declared.ring.RingPoint.{RingPoint}
use Rattle.nam_calls.specs.declared.ring.RingPoint.TheVariants.{SlotHead, SlotWords, SlotAgain}
use Rattle.nam_calls.specs.declared.ring.SearchEnd.{SearchEnd}
use Rattle.nam_calls.specs.declared.ring.SearchEnd.TheVariants.{Found, NotThere}
use Rattle.nam_calls.specs.declared.overflow.CellPoint.{CellPoint}
use Rattle.nam_calls.specs.declared.overflow.CellPoint.TheVariants.{CellTag, CellWords, CellAgain}
use Rattle.nam_calls.specs.declared.horizon.OldEnd.{OldEnd}
use Rattle.nam_calls.specs.declared.horizon.OldEnd.TheVariants.{TooOld, NotPassed}
use Rattle.nam_calls.specs.declared.reading.Sight.{Sight}
use Rattle.nam_calls.specs.declared.reading.ReadPoint.{ReadPoint}
use Rattle.nam_calls.specs.declared.reading.ReadPoint.TheVariants.{ReadCurrent, ReadUnsure, ReadRing}
use Rattle.nam_calls.specs.declared.reading.ReadingEnd.{ReadingEnd}
use Rattle.nam_calls.specs.Ring.{ring_begin, ring_verb, ring_after, next_slot}
use Rattle.nam_calls.specs.Overflow.{cell_begin, cell_verb, cell_after, next_cell}
use Rattle.nam_calls.specs.Horizon.{old_begin, old_verb, old_after}
use Rattle.nam_calls.specs.Reading.{read_begin, read_verb, read_after, on_current, on_unsure, on_ring, on_cells}
use Rattle.nam_calls.specs.Reading.{on_horizon}
use Rattle.nam_calls.specs.Program.{Prog, Ret, Do, ◌>>=◌, IsProgram, standing, taking}
use Rattle.nam_calls.specs.ProgramRead.{search_ring, search_cells, show_old, found_or, reading_end, old_versions}
use Rattle.nam_calls.specs.ProgramRead.{read_program, SightHasAll, ReadIsProgram}
use Rattle.nam_calls.proofs.Programs.{both, both_not, is_last, is_more, at_last, before_last, word_then}
use Rattle.nam_calls.proofs.Programs.{words_is, part_is, the_program}
use Rattle.nam_calls.specs.declared.reading.ReadingEnd.TheVariants as read_end

module _ (place : Place) (seen : List ℕ) (wide : 0 < place.width) where
  -- 1. The search of the ring

  abbrev IsRing : Now RingPoint SearchEnd → Prog SearchEnd → Type 0
  IsRing = IsProgram (standing (ring_verb place)) (taking (ring_after place seen))

  -- a slot, where the next ones are known
  slot_is : (rest slot : ℕ) → IsRing (next_slot place slot) (search_ring place seen rest (slot + 1))
      → IsRing (At (SlotHead slot)) (search_ring place seen (suc rest) slot)
  slot_is rest slot next =
      word_then refl λ header.
      both IsRing ((header == mark) || not (sees place.form seen header)) _ _ _ _ (λ e. next) λ e.
      word_then refl λ ending.
      both IsRing (sees place.form seen ending) _ _ _ _ (λ e. next) λ e.
      words_is (standing (ring_verb place)) (taking (ring_after place seen)) (field.SlotWord place.row slot) place.width
      (λ got. At (SlotWords slot header got)) (λ got. At (SlotAgain slot header got)) _ (λ got. refl)
      (λ got word. if_in At (length (got ++ word ∷ []) == place.width) _ _) wide λ value l.
      word_then refl λ again.
      both IsRing (same_stamp place.form again header && not (again == mark)) _ _ _ _ (λ e. refl) (λ e. next)

  ring_from : (rest slot : ℕ) → slot + suc rest ≡ place.ring
      → IsRing (At (SlotHead slot)) (search_ring place seen (suc rest) slot)
  ring_from zero slot e =
      slot_is zero slot (is_last (λ call. IsRing call (search_ring place seen zero (slot + 1))) slot place.ring _ _
      (omega arith) refl)
  ring_from (suc rest) slot e =
      slot_is (suc rest) slot (is_more
      (λ call. IsRing call (search_ring place seen (suc rest) (slot + 1))) slot place.ring _ _ rest (omega arith)
      (ring_from rest (slot + 1) (omega arith)))

  ring_of : (slots : ℕ) → slots ≡ place.ring → 0 < slots → IsRing (At ring_begin) (search_ring place seen slots 0)
  ring_of zero e l = absurd (omega arith)
  ring_of (suc rest) e l = ring_from rest 0 (omega arith)

  -- 2. The search of the cells

  module _ (cells : Cells) where
    abbrev IsCells : Now CellPoint SearchEnd → Prog SearchEnd → Type 0
    IsCells = IsProgram (standing (cell_verb cells)) (taking (cell_after cells place seen))

    cell_is : (rest cell : ℕ) → IsCells (next_cell cells cell) (search_cells place seen cells rest (cell + 1))
        → IsCells (At (CellTag cell)) (search_cells place seen cells (suc rest) cell)
    cell_is rest cell next =
        word_then refl λ tag.
        both_not IsCells (is_full tag) _ _ _ _ (λ e. next) λ e.
        word_then refl λ owner.
        both_not IsCells (owner == place.row) _ _ _ _ (λ e. next) λ e.
        word_then refl λ header.
        both_not IsCells (sees place.form seen header) _ _ _ _ (λ e. next) λ e.
        word_then refl λ ending.
        both IsCells (sees place.form seen ending) _ _ _ _ (λ e. next) λ e.
        words_is (standing (cell_verb cells)) (taking (cell_after cells place seen))
        (field.CellWord cells.bucket cell) place.width
        (λ got. At (CellWords cell tag header got)) (λ got. At (CellAgain cell tag header got)) _ (λ got. refl)
        (λ got word. if_in At (length (got ++ word ∷ []) == place.width) _ _) wide λ value l.
        word_then refl λ again.
        both IsCells (again == tag) _ _ _ _ (λ e. refl) (λ e. next)

    cells_from : (rest cell : ℕ) → cell + suc rest ≡ cells.cells
        → IsCells (At (CellTag cell)) (search_cells place seen cells (suc rest) cell)
    cells_from zero cell e =
        cell_is zero cell (is_last (λ call. IsCells call (search_cells place seen cells zero (cell + 1))) cell
        cells.cells _ _ (omega arith) refl)
    cells_from (suc rest) cell e =
        cell_is (suc rest) cell
        (is_more (λ call. IsCells call (search_cells place seen cells (suc rest) (cell + 1))) cell cells.cells _ _
        rest (omega arith)
        (cells_from rest (cell + 1) (omega arith)))

    cells_of : (count : ℕ) → count ≡ cells.cells → 0 < count
        → IsCells (At cell_begin) (search_cells place seen cells count 0)
    cells_of zero e l = absurd (omega arith)
    cells_of (suc rest) e l = cells_from rest 0 (omega arith)

-- 3. The horizon

module _ (workers : ℕ) (seen : List ℕ) where
  abbrev IsOld : Now ℕ OldEnd → Prog OldEnd → Type 0
  IsOld = IsProgram (standing (old_verb)) (taking (old_after workers seen))

  old_from : (rest worker : ℕ) → worker + rest ≡ workers → IsOld (At worker) (show_old workers seen (suc rest) worker)
  old_from zero worker e =
      word_then refl λ horizon.
      both IsOld (nat_lt (slice_index seen (worker - 1)) horizon) _ _ _ _ (λ t. refl) λ t.
      at_last (λ call. IsOld call (show_old workers seen zero (worker + 1))) worker workers _ _ (omega arith) refl
  old_from (suc rest) worker e =
      word_then refl λ horizon.
      both IsOld (nat_lt (slice_index seen (worker - 1)) horizon) _ _ _ _ (λ t. refl) λ t.
      before_last (λ call. IsOld call (show_old workers seen (suc rest) (worker + 1))) worker workers _ _ rest
      (omega arith)
      (old_from rest (worker + 1) (omega arith))

  old_of : (count : ℕ) → count ≡ workers → 0 < count → IsOld (At old_begin) (show_old workers seen count 1)
  old_of zero e l = absurd (omega arith)
  old_of (suc rest) e l = old_from rest 1 (omega arith)

-- 4. The whole read

module _ (sight : Sight) (seen : List ℕ) (has : SightHasAll sight) where
  abbrev IsRead : Now ReadPoint ReadingEnd → Prog ReadingEnd → Type 0
  IsRead = IsProgram (standing (read_verb sight)) (taking (read_after sight seen))

  horizon_is : (end : OldEnd) → IsRead (on_horizon (Over end)) (Ret (reading_end end))
  horizon_is (TooOld worker entry horizon) = refl
  horizon_is NotPassed = refl

  after_cells : (end : SearchEnd)
      → IsRead (on_cells (Over end))
      (found_or (show_old sight.workers seen sight.workers 1 >>= λ end. Ret (reading_end end)) end)
  after_cells (Found value) = refl
  after_cells NotThere =
      part_is (standing (read_verb sight)) (taking (read_after sight seen)) (old_verb)
      (old_after sight.workers seen) on_horizon
      (λ place. refl) (λ place found. refl) _ horizon_is (At old_begin) (show_old sight.workers seen sight.workers 1)
      (old_of sight.workers seen sight.workers refl has.workers)

  after_ring : (end : SearchEnd) → IsRead (on_ring (Over end))
      (found_or (search_cells sight.place seen sight.cells sight.cells.cells 0
      >>= found_or (show_old sight.workers seen sight.workers 1 >>= λ end. Ret (reading_end end))) end)
  after_ring (Found value) = refl
  after_ring NotThere =
      part_is (standing (read_verb sight)) (taking (read_after sight seen)) (cell_verb sight.cells)
      (cell_after sight.cells sight.place seen) on_cells
      (λ place. refl) (λ place found. refl) _ after_cells (At cell_begin)
      (search_cells sight.place seen sight.cells sight.cells.cells 0)
      (cells_of sight.place seen has.words sight.cells sight.cells.cells refl has.cells)

  old_versions_are : IsRead (At (ReadRing ring_begin)) (old_versions sight seen)
  old_versions_are =
      part_is (standing (read_verb sight)) (taking (read_after sight seen)) (ring_verb sight.place)
      (ring_after sight.place seen) on_ring
      (λ place. refl) (λ place found. refl) _ after_ring (At ring_begin)
      (search_ring sight.place seen sight.place.ring 0)
      (ring_of sight.place seen has.words sight.place.ring refl has.slots)

  -- step 5
  abbrev recheck : ℕ → List ℕ → Prog ReadingEnd
  recheck header value = Do (ReadAt (field.Header sight.place.row)) (λ last.
      if same_stamp sight.place.form last header then Ret (read_end.Got (Some value)) else old_versions sight seen)

  after_unsure : (header : ℕ) (value : List ℕ) (end : SearchEnd)
      → IsRead (on_unsure value header (Over end)) (found_or (recheck header value) end)
  after_unsure header value (Found old) = refl
  after_unsure header value NotThere =
      word_then refl λ last. both IsRead (same_stamp sight.place.form last header) _ _ _ _ (λ e. refl)
      (λ e. old_versions_are)

  unsure_is : (header : ℕ) (value : List ℕ)
      → IsRead (At (ReadUnsure value header ring_begin))
      (search_ring sight.place seen sight.place.ring 0 >>= found_or (recheck header value))
  unsure_is header value =
      part_is (standing (read_verb sight)) (taking (read_after sight seen)) (ring_verb sight.place)
      (ring_after sight.place seen)
      (on_unsure value header)
      (λ place. refl) (λ place found. refl) _ (after_unsure header value) (At ring_begin)
      (search_ring sight.place seen sight.place.ring 0)
      (ring_of sight.place seen has.words sight.place.ring refl has.slots)

  abbrev IsCurrent : Now CurrentPoint CurrentEnd → Prog ReadingEnd → Type 0
  IsCurrent now = IsRead (on_current now)

  pub read_is : IsRead (At read_begin) (read_program sight seen)
  read_is =
      word_then refl λ header.
      both_not IsCurrent (sees sight.place.form seen header) _ _ _ _ (λ e. old_versions_are) λ e.
      both IsCurrent (is_deleted sight.place.form header) _ _ _ _ (λ e. refl) λ e.
      words_is (standing (read_verb sight)) (taking (read_after sight seen))
      (field.Word sight.place.row) sight.place.width
      (λ got. At (ReadCurrent (CurrentWords header got))) (λ got. At (ReadCurrent (CurrentAgain header got))) _
      (λ got. refl)
      (λ got word. if_in (λ place. At (ReadCurrent place)) (length (got ++ word ∷ []) == sight.place.width) _ _)
      has.words λ value l.
      word_then refl λ again.
      both_not IsCurrent (same_stamp sight.place.form again header) _ _ _ _ (λ e. old_versions_are) λ e.
      both_not IsCurrent (is_locked sight.place.form header || is_locked sight.place.form again) _ _ _ _
      (λ e. refl) λ e.
      unsure_is header value

pub reads_are_programs : ReadIsProgram
reads_are_programs sight seen has =
    the_program (standing (read_verb sight)) (taking (read_after sight seen)) _ _ (read_is sight seen has)
