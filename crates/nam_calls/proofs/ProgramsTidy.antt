-- The move is its straight program.
use Rattle.std.proofs.Common.{◌≡◌, ℕ, zero, suc, ◌+◌, ◌<◌, List, [], ◌∷◌, ◌++◌, length, refl, arith}
use Rattle.std.specs.Prelude.{◌==◌, slice_index}
use Rattle.nam_verbs.specs.declared.now.Now.{Now}
use Rattle.nam_verbs.specs.declared.now.Now.TheVariants.{At, Over}
use Rattle.nam_verbs.proofs.TestLemmas.{if_in}
use Rattle.nam_header.specs.Stamp.{is_moved, without_moved}
use Rattle.nam_header.specs.Tag.{is_free}
use Rattle.nam_layout.specs.declared.field.Place.{Place}
use Rattle.nam_layout.specs.declared.field.Cells.{Cells}
use Rattle.nam_layout.specs.Place.{slot_of}
use Rattle.nam_layout.specs.declared.field.Field.TheVariants as field
use Rattle.nam_calls.specs.declared.overflow.ClaimPoint.{ClaimPoint}
use Rattle.nam_calls.specs.declared.overflow.ClaimPoint.TheVariants.{ClaimLook}
use Rattle.nam_calls.specs.declared.overflow.ClaimEnd.{ClaimEnd}
use Rattle.nam_calls.specs.declared.overflow.ClaimEnd.TheVariants.{Claimed, NoRoom}
use Rattle.nam_calls.specs.declared.overflow.FillPoint.TheVariants.{FillWord}
use Rattle.nam_calls.specs.declared.overflow.Version.{Version}
use Rattle.nam_calls.specs.declared.mover.MovePoint.{MovePoint}
use Rattle.nam_calls.specs.declared.mover.MovePoint.TheVariants.{MoveWords, MoveFill, MoveAgain}
use Rattle.nam_calls.specs.declared.mover.MoveAnswer.{MoveAnswer}
use Rattle.nam_calls.specs.Overflow.{claim_begin, claim_verb, claim_after, claim_next, fill_begin}
use Rattle.nam_calls.specs.Mover.{move_begin, move_verb, move_after, on_claim, on_fill}
use Rattle.nam_calls.specs.Program.{Prog, IsProgram, standing, taking}
use Rattle.nam_calls.specs.ProgramTidy.{claim_cell, after_claim, move_program, MoveIsProgram}
use Rattle.nam_calls.proofs.Programs.{both, both_not, is_last, is_more, word_then, words_is, writes_is, part_is}
use Rattle.nam_calls.proofs.Programs.{the_program}

-- 1. The claim of a cell

module _ (cells : Cells) where
  abbrev IsClaim : Now ClaimPoint ClaimEnd → Prog ClaimEnd → Type 0
  IsClaim = IsProgram (standing (claim_verb cells)) (taking (claim_after cells))

  cell_is : (rest cell : ℕ) → IsClaim (claim_next cells cell) (claim_cell cells rest (cell + 1))
      → IsClaim (At (ClaimLook cell)) (claim_cell cells (suc rest) cell)
  cell_is rest cell next =
      word_then refl λ tag.
      both_not IsClaim (is_free tag) _ _ _ _ (λ e. next) λ e.
      word_then refl λ found.
      both IsClaim (found == tag) _ _ _ _ (λ e. refl) (λ e. next)

  claim_from : (rest cell : ℕ) → cell + suc rest ≡ cells.cells
      → IsClaim (At (ClaimLook cell)) (claim_cell cells (suc rest) cell)
  claim_from zero cell e =
      cell_is zero cell
      (is_last (λ call. IsClaim call (claim_cell cells zero (cell + 1))) cell cells.cells _ _ (omega arith) refl)
  claim_from (suc rest) cell e =
      cell_is (suc rest) cell (is_more
      (λ call. IsClaim call (claim_cell cells (suc rest) (cell + 1))) cell cells.cells _ _ rest (omega arith)
      (claim_from rest (cell + 1) (omega arith)))

  claim_of : (count : ℕ) → count ≡ cells.cells → 0 < count → IsClaim (At claim_begin) (claim_cell cells count 0)
  claim_of zero e l = absurd (omega arith)
  claim_of (suc rest) e l = claim_from rest 0 (omega arith)

-- 2. The move

module _ (place : Place) (cells : Cells) (wide : 0 < place.width) (some : 0 < cells.cells) where
  abbrev IsMove : Now MovePoint MoveAnswer → Prog MoveAnswer → Type 0
  IsMove = IsProgram (standing (move_verb place cells)) (taking (move_after place cells))

  abbrev version_of : ℕ → ℕ → List ℕ → Version
  version_of header ending value = record { begin = without_moved place.form header; «end» = ending; value = value }

  claimed_is : (slot header ending : ℕ) (end : ClaimEnd)
      → IsMove (on_claim cells slot header ending (Over end)) (after_claim place cells slot header ending end)
  claimed_is slot header ending NoRoom = refl
  claimed_is slot header ending (Claimed cell tag) =
      words_is (standing (move_verb place cells)) (taking (move_after place cells))
      (field.SlotWord place.row slot) place.width
      (λ got. At (MoveWords slot header ending cell tag got))
      (λ value. At (MoveFill slot header cell tag (version_of header ending value) fill_begin)) _ (λ got. refl)
      (λ got word. if_in At (length (got ++ word ∷ []) == place.width) _ _) wide λ value l.
      word_then refl λ owned.
      word_then refl λ begun.
      word_then refl λ ended.
      writes_is (standing (move_verb place cells)) (taking (move_after place cells))
      (field.CellWord cells.bucket cell) (slice_index value) place.width
      (λ nth. At (MoveFill slot header cell tag (version_of header ending value) (FillWord nth)))
      (At (MoveAgain slot header cell tag)) _
      (λ nth. refl)
      (λ nth found. if_in (on_fill slot header cell tag (version_of header ending value)) (nth + 1 == place.width) _
      (At (FillWord (nth + 1)))) (
      word_then refl λ again.
      both IsMove (again == header) _ _ _ _
      (λ e. word_then refl λ shown. word_then refl λ flagged. refl)
      (λ e. word_then refl λ back. refl)) wide

  pub move_is : IsMove (At move_begin) (move_program place cells)
  move_is =
      word_then refl λ count.
      word_then refl λ header.
      both IsMove (is_moved place.form header) _ _ _ _ (λ e. refl) λ e.
      word_then refl λ ending.
      part_is (standing (move_verb place cells)) (taking (move_after place cells)) (claim_verb cells)
      (claim_after cells)
      (on_claim cells (slot_of place count) header ending) (λ at. refl) (λ at found. refl) _
      (claimed_is (slot_of place count) header ending)
      (At claim_begin) _ (claim_of cells cells.cells refl some)

pub moves_are_programs : MoveIsProgram
moves_are_programs place cells wide some =
    the_program (standing (move_verb place cells)) (taking (move_after place cells)) _ _ (move_is place cells wide some)
