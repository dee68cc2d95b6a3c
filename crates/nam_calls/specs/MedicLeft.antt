-- How many verbs of the medic are to come at the most.
use Rattle.std.specs.Prelude.{ℕ, ◌+◌, ◌-◌, ◌*◌, List, length}
use Rattle.nam_catalog.specs.declared.bounds.TheConstants.{MOST_KEYS, MOST_WIDTH}
use Rattle.nam_catalog.specs.declared.shape.Shape.{Shape}
use Rattle.nam_layout.specs.Place.{place_at}
use Rattle.nam_calls.specs.declared.medic.Walk.{Walk}
use Rattle.nam_calls.specs.declared.medic.MedicPoint.{MedicPoint}
use Rattle.nam_calls.specs.declared.medic.MedicPoint.TheVariants.{MedicState, UndoRow, UndoHead, UndoBack, UndoClear}
use Rattle.nam_calls.specs.declared.medic.MedicPoint.TheVariants.{RollNumber, RollRow, RollKind, RollCount, RollData}
use Rattle.nam_calls.specs.declared.medic.MedicPoint.TheVariants.{RollHead, RollSlot, RollOld, RollCopy, RollInstall}
use Rattle.nam_calls.specs.declared.medic.MedicPoint.TheVariants.{RollEntry, GuardRow, GuardKind, GuardHead}
use Rattle.nam_calls.specs.declared.medic.MedicPoint.TheVariants.{GuardBack, RollClear}
use Rattle.nam_calls.specs.Record.{words_left, install_left}
use Rattle.nam_calls.specs.Ring.{copy_left}

-- a record takes no more than its row, kind, count and header, the slot's header, and its words four times: those of
-- the intent, those of the record, the copy with three more, and the next version with two more
abbrev pub record_most : ℕ
record_most = 4 * MOST_WIDTH + 10

-- the state, the number, all records, the entry, and the state again
abbrev pub medic_most : ℕ
medic_most = MOST_KEYS * record_most + 4

-- the records after the one at hand, the guards found so far, the entry and the state
abbrev pub walk_left : Walk → ℕ
walk_left walk = (walk.records - walk.nth - 1) * record_most + 4 * length walk.guards + 2

-- the records of a listed commit after this one, and the state
abbrev pub undo_left : ℕ → ℕ → ℕ
undo_left records nth = 3 * (records - nth - 1) + 1

-- the guards after this one, and the state
abbrev pub guards_left : List ℕ → ℕ → ℕ
guards_left guards passed = 4 * (length guards - passed - 1) + 1

module _ (shape : Shape) where
  abbrev pub medic_left : MedicPoint → ℕ
  medic_left MedicState = medic_most
  medic_left (UndoRow records nth) = undo_left records nth + 3
  medic_left (UndoHead records nth row) = undo_left records nth + 2
  medic_left (UndoBack records nth row header) = undo_left records nth + 1
  medic_left UndoClear = 1
  medic_left (RollNumber records) = records * record_most + 3
  medic_left (RollRow walk) = walk_left walk + record_most
  medic_left (RollKind walk row) = walk_left walk + (record_most - 1)
  medic_left (RollCount walk row deleted) = walk_left walk + (4 * (place_at shape row).width + 8)
  medic_left (RollData walk row count got) =
      walk_left walk + (words_left (place_at shape row) got + (3 * (place_at shape row).width + 7))
  medic_left (RollHead walk next) = walk_left walk + (3 * (place_at shape next.row).width + 7)
  medic_left (RollSlot walk next header) = walk_left walk + (3 * (place_at shape next.row).width + 6)
  medic_left (RollOld walk next header got) =
      walk_left walk + (words_left (place_at shape next.row) got + (2 * (place_at shape next.row).width + 5))
  medic_left (RollCopy walk next header old at) =
      walk_left walk + (copy_left (place_at shape next.row) at + ((place_at shape next.row).width + 2))
  medic_left (RollInstall walk next at) = walk_left walk + install_left (place_at shape next.row) at
  medic_left (RollEntry number guards) = 4 * length guards + 2
  medic_left (GuardRow guards passed) = guards_left guards passed + 4
  medic_left (GuardKind guards passed row) = guards_left guards passed + 3
  medic_left (GuardHead guards passed row) = guards_left guards passed + 2
  medic_left (GuardBack guards passed row header) = guards_left guards passed + 1
  medic_left RollClear = 1
