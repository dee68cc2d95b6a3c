-- Reading at a position, by eight steps.
use Rattle.std.specs.Prelude.{if◌then◌else◌, ℕ, ◌+◌, ◌*◌, List, Some}
use Rattle.nam_verbs.specs.declared.now.Now.{Now}
use Rattle.nam_verbs.specs.declared.now.Now.TheVariants.{At, Over}
use Rattle.nam_verbs.specs.VerbAt.{VerbAt}
use Rattle.nam_catalog.specs.declared.shape.Shape.{Shape}
use Rattle.nam_layout.specs.Place.{place_of, cells_by}
use Rattle.nam_layout.specs.declared.field.Field.{Field}
use Rattle.nam_calls.specs.declared.record.CurrentPoint.{CurrentPoint}
use Rattle.nam_calls.specs.declared.record.CurrentEnd.{CurrentEnd}
use Rattle.nam_calls.specs.declared.ring.RingPoint.{RingPoint}
use Rattle.nam_calls.specs.declared.ring.SearchEnd.{SearchEnd}
use Rattle.nam_calls.specs.declared.ring.SearchEnd.TheVariants.{Found, NotThere}
use Rattle.nam_calls.specs.declared.overflow.CellPoint.{CellPoint}
use Rattle.nam_calls.specs.declared.horizon.OldEnd.{OldEnd}
use Rattle.nam_calls.specs.declared.horizon.OldEnd.TheVariants.{TooOld, NotPassed}
use Rattle.nam_calls.specs.declared.reading.Sight.{Sight}
use Rattle.nam_calls.specs.declared.reading.ReadPoint.{ReadPoint}
use Rattle.nam_calls.specs.declared.reading.ReadPoint.TheVariants.{ReadCurrent, ReadUnsure, ReadRecheck, ReadRing}
use Rattle.nam_calls.specs.declared.reading.ReadPoint.TheVariants.{ReadCells, ReadHorizon}
use Rattle.nam_calls.specs.declared.reading.ReadingEnd.{ReadingEnd}
use Rattle.nam_calls.specs.declared.reading.ReadingEnd.TheVariants.{Got, Passed, Astray}
use Rattle.nam_calls.specs.Words.{width_of, ring_of}
use Rattle.nam_calls.specs.Record.{current_begin, current_verb, current_after, current_left, recheck_verb}
use Rattle.nam_calls.specs.Record.{recheck_end}
use Rattle.nam_calls.specs.Ring.{ring_begin, ring_verb, ring_after, ring_left}
use Rattle.nam_calls.specs.Overflow.{cell_begin, cell_verb, cell_after, cell_left}
use Rattle.nam_calls.specs.Horizon.{old_begin, old_verb, old_after, old_left}
use Rattle.nam_calls.specs.declared.record.CurrentEnd.TheVariants as current

-- where a read of a table's position looks
abbrev pub sight_of : Shape → ℕ → ℕ → Sight
sight_of shape table position =
    let place = place_of shape table position in
    record { place = place; cells = cells_by shape place; workers = shape.workers }

abbrev pub read_begin : ReadPoint
read_begin = ReadCurrent current_begin

abbrev pub read_verb : Sight → ReadPoint → VerbAt Field
read_verb sight (ReadCurrent at) = current_verb sight.place at
read_verb sight (ReadUnsure value header at) = ring_verb sight.place at
read_verb sight (ReadRecheck value header) = recheck_verb sight.place
read_verb sight (ReadRing at) = ring_verb sight.place at
read_verb sight (ReadCells at) = cell_verb sight.cells at
read_verb sight (ReadHorizon worker) = old_verb worker

-- steps 1 to 3: the current version; a locked one is looked for in the ring, another stamp leads to the old versions
abbrev pub on_current : Now CurrentPoint CurrentEnd → Now ReadPoint ReadingEnd
on_current (At at) = At (ReadCurrent at)
on_current (Over (current.Found value)) = Over (Got value)
on_current (Over (current.Unsure value header)) = At (ReadUnsure value header ring_begin)
on_current (Over current.GoOld) = At (ReadRing ring_begin)

-- step 4: the ring under a locked record; step 5 follows where it has no version
abbrev pub on_unsure : List ℕ → ℕ → Now RingPoint SearchEnd → Now ReadPoint ReadingEnd
on_unsure value header (At at) = At (ReadUnsure value header at)
on_unsure value header (Over (Found old)) = Over (Got old)
on_unsure value header (Over NotThere) = At (ReadRecheck value header)

-- step 6: the ring
abbrev pub on_ring : Now RingPoint SearchEnd → Now ReadPoint ReadingEnd
on_ring (At at) = At (ReadRing at)
on_ring (Over (Found old)) = Over (Got old)
on_ring (Over NotThere) = At (ReadCells cell_begin)

-- step 7: the cells
abbrev pub on_cells : Now CellPoint SearchEnd → Now ReadPoint ReadingEnd
on_cells (At at) = At (ReadCells at)
on_cells (Over (Found old)) = Over (Got old)
on_cells (Over NotThere) = At (ReadHorizon old_begin)

-- step 8: the horizon
abbrev pub on_horizon : Now ℕ OldEnd → Now ReadPoint ReadingEnd
on_horizon (At worker) = At (ReadHorizon worker)
on_horizon (Over (TooOld worker entry horizon)) = Over (Passed worker entry horizon)
on_horizon (Over NotPassed) = Over Astray

abbrev pub read_after : Sight → List ℕ → ReadPoint → ℕ → Now ReadPoint ReadingEnd
read_after sight seen (ReadCurrent at) found = on_current (current_after sight.place seen at found)
read_after sight seen (ReadUnsure value header at) found = on_unsure value header (ring_after sight.place seen at found)
read_after sight seen (ReadRecheck value header) found =
    if recheck_end sight.place header found then Over (Got (Some value)) else At (ReadRing ring_begin)
read_after sight seen (ReadRing at) found = on_ring (ring_after sight.place seen at found)
read_after sight seen (ReadCells at) found = on_cells (cell_after sight.cells sight.place seen at found)
read_after sight seen (ReadHorizon worker) found = on_horizon (old_after sight.workers seen worker found)

-- a whole read at a table's position takes fewer
abbrev pub read_most : Shape → ℕ → ℕ
read_most shape table =
    4 + width_of shape table + 2 * (ring_of shape table * (width_of shape table + 3))
    + shape.cells * (width_of shape table + 5) + shape.workers

-- a whole search of the ring, of the cells, and what steps 6 to 8 take
abbrev pub ring_whole : Sight → ℕ
ring_whole sight = sight.place.ring * (sight.place.width + 3)

abbrev pub cells_whole : Sight → ℕ
cells_whole sight = sight.cells.cells * (sight.place.width + 5)

abbrev pub old_versions_left : Sight → ℕ
old_versions_left sight = ring_whole sight + (cells_whole sight + sight.workers)

abbrev pub read_left : Sight → ReadPoint → ℕ
read_left sight (ReadCurrent at) = current_left sight.place at + (ring_whole sight + (1 + old_versions_left sight))
read_left sight (ReadUnsure value header at) = ring_left sight.place at + (1 + old_versions_left sight)
read_left sight (ReadRecheck value header) = 1 + old_versions_left sight
read_left sight (ReadRing at) = ring_left sight.place at + (cells_whole sight + sight.workers)
read_left sight (ReadCells at) = cell_left sight.cells sight.place at + sight.workers
read_left sight (ReadHorizon worker) = old_left sight.workers worker
