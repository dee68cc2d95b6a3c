-- The move of a tidying, with its claim of a cell, as a straight program, to be compared with the order of verbs.
use Rattle.std.specs.Prelude.{if◌then◌else◌, ℕ, zero, suc, ◌+◌, ◌<◌, ◌==◌, not, [], slice_index}
use Rattle.nam_verbs.specs.declared.now.Now.TheVariants.{At}
use Rattle.nam_header.specs.Stamp.{stamp_in, is_moved, with_moved, without_moved}
use Rattle.nam_header.specs.Tag.{is_free, written, full, freed}
use Rattle.nam_layout.specs.declared.field.Place.{Place}
use Rattle.nam_layout.specs.declared.field.Cells.{Cells}
use Rattle.nam_layout.specs.Place.{slot_of}
use Rattle.nam_layout.specs.declared.field.Field.TheVariants as field
use Rattle.nam_calls.specs.declared.overflow.ClaimEnd.{ClaimEnd}
use Rattle.nam_calls.specs.declared.overflow.ClaimEnd.TheVariants.{Claimed, NoRoom}
use Rattle.nam_calls.specs.declared.mover.MoveAnswer.{MoveAnswer}
use Rattle.nam_calls.specs.Mover.{move_begin, move_verb, move_after}
use Rattle.nam_calls.specs.Program.{Prog, Ret, ◌>>=◌, ◌>>◌, read, exchange, write, words, write_words, IsTheProgram}
use Rattle.nam_calls.specs.Program.{standing, taking}
use Rattle.nam_calls.specs.declared.mover.MoveAnswer.TheVariants as answer

-- the first cell that is free and whose tag is exchanged, of so many from this one on
abbrev pub claim_cell : Cells → ℕ → ℕ → Prog ClaimEnd
claim_cell cells zero cell = Ret NoRoom
claim_cell cells (suc rest) cell =
    read (field.Tag cells.bucket cell) >>= λ tag.
    if not (is_free tag) then claim_cell cells rest (cell + 1) else
    exchange (field.Tag cells.bucket cell) tag (written tag) >>= λ found.
    if found == tag then Ret (Claimed cell (written tag)) else claim_cell cells rest (cell + 1)

module _ (place : Place) (cells : Cells) where
  -- the slot still has the version: the cell is full, and the slot bears the moved flag
  abbrev pub show_moved : ℕ → ℕ → ℕ → ℕ → Prog MoveAnswer
  show_moved slot header cell tag = do
    write (field.Tag cells.bucket cell) (full tag)
    exchange (field.SlotHeader place.row slot) header (with_moved place.form header)
    Ret (answer.Moved (stamp_in place.form header))

  -- it has another: the cell is free again
  abbrev pub give_back_cell : ℕ → ℕ → ℕ → Prog MoveAnswer
  give_back_cell header cell tag = do
    write (field.Tag cells.bucket cell) (freed tag)
    Ret (answer.Back (stamp_in place.form header))

  abbrev pub after_claim : ℕ → ℕ → ℕ → ClaimEnd → Prog MoveAnswer
  after_claim slot header ending NoRoom = Ret (answer.NoRoom cells.bucket)
  after_claim slot header ending (Claimed cell tag) = do
    value ← words (field.SlotWord place.row slot) place.width []
    write (field.Owner cells.bucket cell) place.row
    write (field.Begin cells.bucket cell) (without_moved place.form header)
    write (field.End cells.bucket cell) ending
    write_words (field.CellWord cells.bucket cell) (slice_index value) place.width 0
    again ← read (field.SlotHeader place.row slot)
    if again == header then show_moved slot header cell tag else give_back_cell header cell tag

  abbrev pub move_program : Prog MoveAnswer
  move_program =
      read (field.Count place.row) >>= λ count.
      read (field.SlotHeader place.row (slot_of place count)) >>= λ header.
      if is_moved place.form header then Ret answer.Nothing else
      read (field.SlotEnd place.row (slot_of place count)) >>= λ ending.
      claim_cell cells cells.cells 0 >>= after_claim (slot_of place count) header ending

-- where the record has words and the bucket cells, the move does what its program says
abbrev pub MoveIsProgram : Type 0
MoveIsProgram = (place : Place) (cells : Cells) → 0 < place.width → 0 < cells.cells
    → IsTheProgram (standing (move_verb place cells)) (taking (move_after place cells)) (At move_begin)
    (move_program place cells)
