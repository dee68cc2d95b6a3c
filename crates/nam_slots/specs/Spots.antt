-- The slot that a word is of, and which words of slots a verb leaves as they were.
use Rattle.std.specs.Prelude.{None, Option, Some, ℕ}
use Rattle.nam_catalog.specs.declared.shape.Shape.{Shape}
use Rattle.nam_ghost.specs.Versions.{slot_image}
use Rattle.nam_layout.specs.Address.{IsRow}
use Rattle.nam_layout.specs.Place.{place_at}
use Rattle.nam_layout.specs.declared.field.Field.{Field}
use Rattle.nam_layout.specs.declared.field.Field.TheVariants.{SlotEnd, SlotHeader, SlotWord}
use Rattle.nam_slots.specs.Change.{SameSlots}

-- by row and slot, if it is of one
abbrev pub slot_spot : Field → Option (ℕ × ℕ)
slot_spot (SlotHeader row slot) = Some (row, slot)
slot_spot (SlotEnd row slot) = Some (row, slot)
slot_spot (SlotWord row slot nth) = Some (row, slot)
slot_spot _ = None

-- that of the word that is written, if one is
abbrev pub written_spot : Option Field → Option (ℕ × ℕ)
written_spot None = None
written_spot (Some field) = slot_spot field

module _ (shape : Shape) (m now : Field → ℕ) where
  -- the words of a row's slots are what they were
  abbrev pub RowSame : ℕ → Type 0
  RowSame row = SameSlots (place_at shape row) (slot_image m row) (slot_image now row)

  -- so are those of each row
  abbrev pub AllSame : Type 0
  AllSame = (row : ℕ) → IsRow shape row → RowSame row
