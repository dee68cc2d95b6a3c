-- Old versions in the ring: the slot that the next version needs, the copy into it, and the search.
use Rattle.std.specs.Prelude.{if◌then◌else◌, ℕ, ◌+◌, ◌-◌, ◌*◌, ◌==◌, ◌&&◌, ◌||◌, not, List, [], ◌∷◌, ◌++◌, length}
use Rattle.std.specs.Prelude.{slice_index, Some, None}
use Rattle.si_model.specs.declared.log.Stamp.{Stamp}
use Rattle.nam_verbs.specs.declared.now.Now.{Now}
use Rattle.nam_verbs.specs.declared.now.Now.TheVariants.{At, Over}
use Rattle.nam_verbs.specs.Until.{until}
use Rattle.nam_verbs.specs.VerbAt.{VerbAt, ReadAt, WriteAt}
use Rattle.nam_header.specs.Stamp.{is_deleted, is_moved, same_stamp, sees, stamp_word, mark}
use Rattle.nam_layout.specs.declared.field.Place.{Place}
use Rattle.nam_layout.specs.Place.{slot_of}
use Rattle.nam_layout.specs.declared.field.Field.{Field}
use Rattle.nam_layout.specs.declared.field.Field.TheVariants as field
use Rattle.nam_calls.specs.declared.ring.SlotPoint.{SlotPoint}
use Rattle.nam_calls.specs.declared.ring.SlotPoint.TheVariants.{CheckCount, CheckHead}
use Rattle.nam_calls.specs.declared.ring.SlotEnd.{SlotEnd}
use Rattle.nam_calls.specs.declared.ring.SlotEnd.TheVariants.{Free, NotMoved}
use Rattle.nam_calls.specs.declared.ring.CopyPoint.{CopyPoint}
use Rattle.nam_calls.specs.declared.ring.CopyPoint.TheVariants.{CopyMark, CopyEnding, CopyWord, CopyHead}
use Rattle.nam_calls.specs.declared.ring.RingPoint.{RingPoint}
use Rattle.nam_calls.specs.declared.ring.RingPoint.TheVariants.{SlotHead, SlotEnding, SlotWords, SlotAgain}
use Rattle.nam_calls.specs.declared.ring.SearchEnd.{SearchEnd}
use Rattle.nam_calls.specs.declared.ring.SearchEnd.TheVariants.{Found, NotThere}

-- 1. CheckSlot: the count, and the header of that version's slot

abbrev pub slot_begin : SlotPoint
slot_begin = CheckCount

abbrev pub slot_verb : Place → SlotPoint → VerbAt Field
slot_verb place CheckCount = ReadAt (field.Count place.row)
slot_verb place (CheckHead count) = ReadAt (field.SlotHeader place.row (slot_of place count))

abbrev pub slot_after : Place → SlotPoint → ℕ → Now SlotPoint SlotEnd
slot_after place CheckCount found = At (CheckHead found)
slot_after place (CheckHead count) found =
    if is_moved place.form found then Over (Free count) else Over (NotMoved (slot_of place count) found)

abbrev pub slot_left : SlotPoint → ℕ
slot_left CheckCount = 2
slot_left (CheckHead count) = 1

-- 2. CopyOld: the mark, the end, the words, the header

abbrev pub copy_begin : CopyPoint
copy_begin = CopyMark

abbrev pub copy_verb : Place → ℕ → ℕ → List ℕ → Stamp → CopyPoint → VerbAt Field
copy_verb place count header old ending CopyMark = WriteAt (field.SlotHeader place.row (slot_of place count)) mark
copy_verb place count header old ending CopyEnding =
    WriteAt (field.SlotEnd place.row (slot_of place count)) (stamp_word place.form ending)
copy_verb place count header old ending (CopyWord nth) =
    WriteAt (field.SlotWord place.row (slot_of place count) nth) (slice_index old nth)
copy_verb place count header old ending CopyHead = WriteAt (field.SlotHeader place.row (slot_of place count)) header

abbrev pub copy_after : Place → CopyPoint → Now CopyPoint (Unit {0})
copy_after place CopyMark = At CopyEnding
copy_after place CopyEnding = At (CopyWord 0)
copy_after place (CopyWord nth) = if nth + 1 == place.width then At CopyHead else At (CopyWord (nth + 1))
copy_after place CopyHead = Over tt

abbrev pub copy_left : Place → CopyPoint → ℕ
copy_left place CopyMark = place.width + 3
copy_left place CopyEnding = place.width + 2
copy_left place (CopyWord nth) = place.width - nth + 1
copy_left place CopyHead = 1

-- 3. SearchRing: slot after slot its header, its end, its words, its header again

abbrev pub ring_begin : RingPoint
ring_begin = SlotHead 0

abbrev pub ring_verb : Place → RingPoint → VerbAt Field
ring_verb place (SlotHead slot) = ReadAt (field.SlotHeader place.row slot)
ring_verb place (SlotEnding slot header) = ReadAt (field.SlotEnd place.row slot)
ring_verb place (SlotWords slot header got) = ReadAt (field.SlotWord place.row slot (length got))
ring_verb place (SlotAgain slot header value) = ReadAt (field.SlotHeader place.row slot)

abbrev pub next_slot : Place → ℕ → Now RingPoint SearchEnd
next_slot place slot = if slot + 1 == place.ring then Over NotThere else At (SlotHead (slot + 1))

-- a version that the snapshot sees, whose successor it does not see, and which is still there after its words
abbrev pub ring_after : Place → List ℕ → RingPoint → ℕ → Now RingPoint SearchEnd
ring_after place seen (SlotHead slot) found =
    if (found == mark) || not (sees place.form seen found) then next_slot place slot else At (SlotEnding slot found)
ring_after place seen (SlotEnding slot header) found =
    if sees place.form seen found then next_slot place slot else At (SlotWords slot header [])
ring_after place seen (SlotWords slot header got) found =
    At (until place.width (got ++ found ∷ []) (SlotWords slot header) (SlotAgain slot header))
ring_after place seen (SlotAgain slot header value) found =
    if same_stamp place.form found header && not (found == mark)
    then Over (Found (if is_deleted place.form header then None else Some value))
    else next_slot place slot

-- the slots after this one
abbrev pub slots_left : Place → ℕ → ℕ
slots_left place slot = (place.ring - slot - 1) * (place.width + 3)

abbrev pub ring_left : Place → RingPoint → ℕ
ring_left place (SlotHead slot) = slots_left place slot + (place.width + 3)
ring_left place (SlotEnding slot header) = slots_left place slot + (place.width + 2)
ring_left place (SlotWords slot header got) = slots_left place slot + (place.width - length got + 1)
ring_left place (SlotAgain slot header value) = slots_left place slot + 1
