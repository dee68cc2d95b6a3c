-- The read that a step and its registers are.
use Rattle.std.specs.Prelude.{ℕ, ◌+◌, ◌<◌, ◌≤◌, List, length, Some, None}
use Rattle.nam_verbs.specs.declared.now.Now.{Now}
use Rattle.nam_verbs.specs.declared.now.Now.TheVariants.{At, Over}
use Rattle.nam_catalog.specs.declared.bounds.TheConstants.{MOST_WORKERS}
use Rattle.nam_calls.specs.declared.record.CurrentPoint.TheVariants as current
use Rattle.nam_calls.specs.declared.ring.RingPoint.{RingPoint}
use Rattle.nam_calls.specs.declared.ring.RingPoint.TheVariants as slot
use Rattle.nam_calls.specs.declared.ring.SearchEnd.{SearchEnd}
use Rattle.nam_calls.specs.declared.overflow.CellPoint.TheVariants as cell
use Rattle.nam_calls.specs.declared.reading.Sight.{Sight}
use Rattle.nam_calls.specs.declared.reading.ReadPoint.{ReadPoint}
use Rattle.nam_calls.specs.declared.reading.ReadPoint.TheVariants.{ReadCurrent, ReadUnsure, ReadRecheck, ReadRing}
use Rattle.nam_calls.specs.declared.reading.ReadPoint.TheVariants.{ReadCells, ReadHorizon}
use Rattle.nam_calls.specs.declared.reading.ReadingEnd.{ReadingEnd}
use Rattle.nam_calls.specs.declared.reading.ReadingEnd.TheVariants.{Got, Passed, Astray}
use Rattle.nam_calls.specs.Reading.{on_unsure, on_ring, cells_whole, old_versions_left}
use Rattle.nam_calls.specs.Fits.{SightFits, IsOf}
use Rattle.nam_reader.specs.declared.registers.Registers.{Registers}
use Rattle.nam_reader.specs.declared.registers.Step.{Step}
use Rattle.nam_reader.specs.declared.registers.Step.TheVariants as step
use Rattle.nam_reader.specs.declared.registers.Search.{Search}
use Rattle.nam_reader.specs.declared.registers.Search.TheVariants.{Locked, Plain}

-- 1. The search of the ring

-- where it stands: under a locked record, of which these words and this header were read, or without one
abbrev pub searching : Search → List ℕ → ℕ → RingPoint → ReadPoint
searching Locked value header at = ReadUnsure value header at
searching Plain value header at = ReadRing at

abbrev pub search_of : Registers → RingPoint → ReadPoint
search_of a at = searching a.search a.current a.header at

-- what follows it
abbrev pub on_search : Search → List ℕ → ℕ → Now RingPoint SearchEnd → Now ReadPoint ReadingEnd
on_search Locked value header now = on_unsure value header now
on_search Plain value header now = on_ring now

abbrev pub searched : Registers → Now RingPoint SearchEnd → Now ReadPoint ReadingEnd
searched a now = on_search a.search a.current a.header now

-- how many verbs are to come after it
abbrev pub after_search : Sight → Search → ℕ
after_search sight Locked = 1 + old_versions_left sight
after_search sight Plain = cells_whole sight + sight.workers

-- 2. The read

abbrev pub state_at : Step → Registers → Now ReadPoint ReadingEnd
state_at step.CurrentHead a = At (ReadCurrent current.CurrentHead)
state_at step.CurrentWords a = At (ReadCurrent (current.CurrentWords a.header a.current))
state_at step.CurrentAgain a = At (ReadCurrent (current.CurrentAgain a.header a.current))
state_at step.SlotHead a = At (search_of a (slot.SlotHead a.slot))
state_at step.SlotEnding a = At (search_of a (slot.SlotEnding a.slot a.older_header))
state_at step.SlotWords a = At (search_of a (slot.SlotWords a.slot a.older_header a.older))
state_at step.SlotAgain a = At (search_of a (slot.SlotAgain a.slot a.older_header a.older))
state_at step.Recheck a = At (ReadRecheck a.current a.header)
state_at step.CellTag a = At (ReadCells (cell.CellTag a.cell))
state_at step.CellOwner a = At (ReadCells (cell.CellOwner a.cell a.tag))
state_at step.CellBegin a = At (ReadCells (cell.CellBegin a.cell a.tag))
state_at step.CellEnding a = At (ReadCells (cell.CellEnding a.cell a.tag a.older_header))
state_at step.CellWords a = At (ReadCells (cell.CellWords a.cell a.tag a.older_header a.older))
state_at step.CellAgain a = At (ReadCells (cell.CellAgain a.cell a.tag a.older_header a.older))
state_at step.Horizon a = At (ReadHorizon a.worker)
state_at step.Current a = Over (Got (Some a.current))
state_at step.Older a = Over (Got (Some a.older))
state_at step.Absent a = Over (Got None)
state_at step.TooOld a = Over (Passed a.worker a.entry a.horizon)
state_at step.Astray a = Over Astray

abbrev pub state_of : Registers → Now ReadPoint ReadingEnd
state_of a = state_at a.step a

-- 3. What holds of the registers

abbrev pub SlotFits : Sight → Registers → Type 0
SlotFits sight a = SightFits sight × (a.slot < sight.place.ring)

abbrev pub CellFits : Sight → Registers → Type 0
CellFits sight a = SightFits sight × (a.cell < sight.cells.cells)

-- at a step
abbrev pub StepFits : Sight → Step → Registers → Type 0
StepFits sight step.CurrentHead a = SightFits sight
StepFits sight step.CurrentWords a = SightFits sight × (length a.current < sight.place.width)
StepFits sight step.CurrentAgain a = SightFits sight
StepFits sight step.SlotHead a = SlotFits sight a
StepFits sight step.SlotEnding a = SlotFits sight a
StepFits sight step.SlotWords a = SlotFits sight a × (length a.older < sight.place.width)
StepFits sight step.SlotAgain a = SlotFits sight a
StepFits sight step.Recheck a = SightFits sight
StepFits sight step.CellTag a = CellFits sight a
StepFits sight step.CellOwner a = CellFits sight a
StepFits sight step.CellBegin a = CellFits sight a
StepFits sight step.CellEnding a = CellFits sight a
StepFits sight step.CellWords a = CellFits sight a × (length a.older < sight.place.width)
StepFits sight step.CellAgain a = CellFits sight a
StepFits sight step.Horizon a = SightFits sight × (sight.workers ≤ MOST_WORKERS) × IsOf sight.workers a.worker
StepFits sight _ a = Unit {0}
