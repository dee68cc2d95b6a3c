-- Moving the version in the slot that the record's next version needs.
use Rattle.std.specs.Prelude.{if◌then◌else◌, ℕ, ◌+◌, ◌-◌, ◌*◌, ◌==◌, [], ◌∷◌, ◌++◌, length, Option, Some, None}
use Rattle.si_model.specs.declared.log.Stamp.{Stamp}
use Rattle.nam_verbs.specs.declared.now.Now.{Now}
use Rattle.nam_verbs.specs.declared.now.Now.TheVariants.{At, Over}
use Rattle.nam_verbs.specs.Until.{until}
use Rattle.nam_verbs.specs.VerbAt.{VerbAt, ReadAt, WriteAt, ExchangeAt}
use Rattle.nam_header.specs.Stamp.{stamp_in, is_moved, with_moved, without_moved}
use Rattle.nam_header.specs.Tag.{full, freed}
use Rattle.nam_layout.specs.declared.field.Place.{Place}
use Rattle.nam_layout.specs.declared.field.Cells.{Cells}
use Rattle.nam_layout.specs.Place.{slot_of}
use Rattle.nam_layout.specs.declared.field.Field.{Field}
use Rattle.nam_layout.specs.declared.field.Field.TheVariants as field
use Rattle.nam_calls.specs.declared.overflow.ClaimPoint.{ClaimPoint}
use Rattle.nam_calls.specs.declared.overflow.ClaimEnd.{ClaimEnd}
use Rattle.nam_calls.specs.declared.overflow.ClaimEnd.TheVariants.{Claimed, NoRoom}
use Rattle.nam_calls.specs.declared.overflow.Version.{Version}
use Rattle.nam_calls.specs.declared.overflow.FillPoint.{FillPoint}
use Rattle.nam_calls.specs.declared.mover.MovePoint.{MovePoint}
use Rattle.nam_calls.specs.declared.mover.MovePoint.TheVariants.{MoveCount, MoveHead, MoveEnding, MoveClaim}
use Rattle.nam_calls.specs.declared.mover.MovePoint.TheVariants.{MoveWords}
use Rattle.nam_calls.specs.declared.mover.MovePoint.TheVariants.{MoveFill, MoveAgain, MoveFull, MoveFlag, MoveBack}
use Rattle.nam_calls.specs.declared.mover.MoveAnswer.{MoveAnswer}
use Rattle.nam_calls.specs.Overflow.{claim_begin, claim_verb, claim_after, claim_left, fill_begin, fill_verb}
use Rattle.nam_calls.specs.Overflow.{fill_after, fill_left}
use Rattle.nam_calls.specs.declared.mover.MoveAnswer.TheVariants as answer

abbrev pub move_begin : MovePoint
move_begin = MoveCount

abbrev pub move_verb : Place → Cells → MovePoint → VerbAt Field
move_verb place cells MoveCount = ReadAt (field.Count place.row)
move_verb place cells (MoveHead slot) = ReadAt (field.SlotHeader place.row slot)
move_verb place cells (MoveEnding slot header) = ReadAt (field.SlotEnd place.row slot)
move_verb place cells (MoveClaim slot header ending at) = claim_verb cells at
move_verb place cells (MoveWords slot header ending cell tag got) = ReadAt (field.SlotWord place.row slot (length got))
move_verb place cells (MoveFill slot header cell tag version at) = fill_verb cells cell place.row version at
move_verb place cells (MoveAgain slot header cell tag) = ReadAt (field.SlotHeader place.row slot)
move_verb place cells (MoveFull slot header cell tag) = WriteAt (field.Tag cells.bucket cell) (full tag)
move_verb place cells (MoveFlag slot header) =
    ExchangeAt (field.SlotHeader place.row slot) header (with_moved place.form header)
move_verb place cells (MoveBack header cell tag) = WriteAt (field.Tag cells.bucket cell) (freed tag)

-- after the claim the slot's words are read
abbrev pub on_claim : Cells → ℕ → ℕ → ℕ → Now ClaimPoint ClaimEnd → Now MovePoint MoveAnswer
on_claim cells slot header ending (At at) = At (MoveClaim slot header ending at)
on_claim cells slot header ending (Over (Claimed cell tag)) = At (MoveWords slot header ending cell tag [])
on_claim cells slot header ending (Over NoRoom) = Over (answer.NoRoom cells.bucket)

-- after the filling the slot's header is read again
abbrev pub on_fill : ℕ → ℕ → ℕ → ℕ → Version → Now FillPoint (Unit {0}) → Now MovePoint MoveAnswer
on_fill slot header cell tag version (At at) = At (MoveFill slot header cell tag version at)
on_fill slot header cell tag version (Over done) = At (MoveAgain slot header cell tag)

abbrev pub move_after : Place → Cells → MovePoint → ℕ → Now MovePoint MoveAnswer
move_after place cells MoveCount found = At (MoveHead (slot_of place found))
move_after place cells (MoveHead slot) found =
    if is_moved place.form found then Over answer.Nothing else At (MoveEnding slot found)
move_after place cells (MoveEnding slot header) found = At (MoveClaim slot header found claim_begin)
move_after place cells (MoveClaim slot header ending at) found =
    on_claim cells slot header ending (claim_after cells at found)
move_after place cells (MoveWords slot header ending cell tag got) found =
    At (until place.width (got ++ found ∷ []) (MoveWords slot header ending cell tag)
    (λ value. MoveFill slot header cell tag
    record { begin = without_moved place.form header; «end» = ending; value = value } fill_begin))
move_after place cells (MoveFill slot header cell tag version at) found =
    on_fill slot header cell tag version (fill_after place.width at)
move_after place cells (MoveAgain slot header cell tag) found =
    if found == header then At (MoveFull slot header cell tag) else At (MoveBack header cell tag)
move_after place cells (MoveFull slot header cell tag) found = At (MoveFlag slot header)
move_after place cells (MoveFlag slot header) found = Over (answer.Moved (stamp_in place.form header))
move_after place cells (MoveBack header cell tag) found = Over (answer.Back (stamp_in place.form header))

-- the version for which a cell was claimed
abbrev pub move_claimed : Place → MovePoint → Option Stamp
move_claimed place MoveCount = None
move_claimed place (MoveHead slot) = None
move_claimed place (MoveEnding slot header) = None
move_claimed place (MoveClaim slot header ending at) = None
move_claimed place (MoveWords slot header ending cell tag got) = Some (stamp_in place.form header)
move_claimed place (MoveFill slot header cell tag version at) = Some (stamp_in place.form header)
move_claimed place (MoveAgain slot header cell tag) = Some (stamp_in place.form header)
move_claimed place (MoveFull slot header cell tag) = Some (stamp_in place.form header)
move_claimed place (MoveFlag slot header) = Some (stamp_in place.form header)
move_claimed place (MoveBack header cell tag) = Some (stamp_in place.form header)

abbrev pub move_left : Place → Cells → MovePoint → ℕ
move_left place cells MoveCount = 2 * cells.cells + 2 * place.width + 9
move_left place cells (MoveHead slot) = 2 * cells.cells + 2 * place.width + 8
move_left place cells (MoveEnding slot header) = 2 * cells.cells + 2 * place.width + 7
move_left place cells (MoveClaim slot header ending at) = claim_left cells at + 2 * place.width + 6
move_left place cells (MoveWords slot header ending cell tag got) = place.width - length got + place.width + 6
move_left place cells (MoveFill slot header cell tag version at) = fill_left place.width at + 3
move_left place cells (MoveAgain slot header cell tag) = 3
move_left place cells (MoveFull slot header cell tag) = 2
move_left place cells (MoveFlag slot header) = 1
move_left place cells (MoveBack header cell tag) = 1
