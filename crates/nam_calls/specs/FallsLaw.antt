-- The number of verbs to come falls with each word taken, and what it is at the begin of a read.
use Rattle.std.specs.Prelude.{◌≡◌, ℕ, ◌+◌, ◌<◌, ◌≤◌, List, length}
use Rattle.nam_verbs.specs.Falls.{FallsTo, Falls, Any}
use Rattle.nam_catalog.specs.declared.shape.Shape.{Shape}
use Rattle.nam_catalog.specs.Fits.{FitsLimits}
use Rattle.nam_layout.specs.declared.field.Place.{Place}
use Rattle.nam_layout.specs.declared.field.Cells.{Cells}
use Rattle.nam_layout.specs.PlaceFits.{FitsPlace, FitsCells}
use Rattle.nam_calls.specs.declared.index.ClaimKeyPoint.{ClaimKeyPoint}
use Rattle.nam_calls.specs.declared.record.CurrentPoint.{CurrentPoint}
use Rattle.nam_calls.specs.declared.record.InstallPoint.{InstallPoint}
use Rattle.nam_calls.specs.declared.ring.SlotPoint.{SlotPoint}
use Rattle.nam_calls.specs.declared.ring.CopyPoint.{CopyPoint}
use Rattle.nam_calls.specs.declared.ring.RingPoint.{RingPoint}
use Rattle.nam_calls.specs.declared.overflow.CellPoint.{CellPoint}
use Rattle.nam_calls.specs.declared.overflow.ClaimPoint.{ClaimPoint}
use Rattle.nam_calls.specs.declared.overflow.FillPoint.{FillPoint}
use Rattle.nam_calls.specs.declared.mover.MovePoint.{MovePoint}
use Rattle.nam_calls.specs.declared.horizon.CollectPoint.{CollectPoint}
use Rattle.nam_calls.specs.declared.lock.LockPoint.{LockPoint}
use Rattle.nam_calls.specs.declared.reading.Sight.{Sight}
use Rattle.nam_calls.specs.declared.reading.ReadPoint.{ReadPoint}
use Rattle.nam_calls.specs.Words.{capacity_of}
use Rattle.nam_calls.specs.Index.{find_after, find_left, claim_key_after, claim_key_left}
use Rattle.nam_calls.specs.Record.{current_after, current_left, words_after, words_left, install_after, install_left}
use Rattle.nam_calls.specs.Ring.{slot_after, slot_left, copy_after, copy_left, ring_after, ring_left}
use Rattle.nam_calls.specs.Overflow.{cell_after, cell_left, claim_after, claim_left, fill_after, fill_left}
use Rattle.nam_calls.specs.Mover.{move_after, move_left}
use Rattle.nam_calls.specs.Horizon.{collect_after, collect_left, old_after, old_left}
use Rattle.nam_calls.specs.Lock.{of_locks, lock_after, lock_left, unlock_after, unlock_left}
use Rattle.nam_calls.specs.Reading.{sight_of, read_begin, read_after, read_left, read_most}
use Rattle.nam_calls.specs.Fits.{IsOf, FindFits, FindEnds, ClaimKeyFits, ClaimKeyEnds, CurrentFits}
use Rattle.nam_calls.specs.Fits.{CurrentEnds, WordsFit, WordsEnd, InstallFits, SlotEnds, CopyFits, RingFits}
use Rattle.nam_calls.specs.Fits.{SearchEnds}
use Rattle.nam_calls.specs.Fits.{CellFits, ClaimFits, ClaimEnds, FillFits, MoveFits, CollectFits, CollectEnds}
use Rattle.nam_calls.specs.Fits.{OldEnds}
use Rattle.nam_calls.specs.Fits.{SightFits, ReadFits, ReadEnds, LockFits, LockEnds, after_locks, IsTableOf}
use Rattle.nam_calls.specs.declared.index.Path.{Path}

-- 1. Machines

abbrev pub FindLaw : Type 0
FindLaw = (path : Path) (passed found : ℕ) → FindFits path.capacity passed
    → Falls (FindFits path.capacity) (FindEnds path.capacity) (find_left path) (find_left path passed)
    (find_after path passed found)

abbrev pub ClaimKeyLaw : Type 0
ClaimKeyLaw = (path : Path) (at : ClaimKeyPoint) (found : ℕ) → ClaimKeyFits path.capacity at
    → Falls (ClaimKeyFits path.capacity) (ClaimKeyEnds path.capacity) (claim_key_left path) (claim_key_left path at)
    (claim_key_after path at found)

abbrev pub CurrentLaw : Type 0
CurrentLaw = (place : Place) → FitsPlace place → (seen : List ℕ) (at : CurrentPoint) (found : ℕ) → CurrentFits place at
    → Falls (CurrentFits place) (CurrentEnds place) (current_left place) (current_left place at)
    (current_after place seen at found)

abbrev pub WordsLaw : Type 0
WordsLaw = (place : Place) → FitsPlace place → (got : List ℕ) (found : ℕ) → WordsFit place got
    → Falls (WordsFit place) (WordsEnd place) (words_left place) (words_left place got) (words_after place got found)

abbrev pub InstallLaw : Type 0
InstallLaw = (place : Place) → FitsPlace place → (at : InstallPoint) → InstallFits place at
    → Falls (InstallFits place) Any (install_left place) (install_left place at) (install_after place at)

abbrev pub SlotLaw : Type 0
SlotLaw =
    (place : Place) → FitsPlace place → (at : SlotPoint) (found : ℕ)
    → Falls Any (SlotEnds place) slot_left (slot_left at) (slot_after place at found)

abbrev pub CopyLaw : Type 0
CopyLaw = (place : Place) → FitsPlace place → (at : CopyPoint) → CopyFits place at
    → Falls (CopyFits place) Any (copy_left place) (copy_left place at) (copy_after place at)

abbrev pub RingLaw : Type 0
RingLaw = (place : Place) → FitsPlace place → (seen : List ℕ) (at : RingPoint) (found : ℕ) → RingFits place at
    → Falls (RingFits place) (SearchEnds place) (ring_left place) (ring_left place at) (ring_after place seen at found)

abbrev pub CellLaw : Type 0
CellLaw = (cells : Cells) (place : Place) → FitsPlace place → (seen : List ℕ) (at : CellPoint) (found : ℕ)
    → CellFits cells place at
    → Falls (CellFits cells place) (SearchEnds place) (cell_left cells place) (cell_left cells place at)
    (cell_after cells place seen at found)

abbrev pub ClaimLaw : Type 0
ClaimLaw = (cells : Cells) (at : ClaimPoint) (found : ℕ) → ClaimFits cells at
    → Falls (ClaimFits cells) (ClaimEnds cells) (claim_left cells) (claim_left cells at) (claim_after cells at found)

abbrev pub FillLaw : Type 0
FillLaw =
    (width : ℕ) → 1 ≤ width → (at : FillPoint) → FillFits width at
    → Falls (FillFits width) Any (fill_left width) (fill_left width at)
    (fill_after width at)

abbrev pub MoveLaw : Type 0
MoveLaw = (place : Place) (cells : Cells) → FitsPlace place → FitsCells cells → (at : MovePoint) (found : ℕ)
    → MoveFits place cells at
    → Falls (MoveFits place cells) Any (move_left place cells) (move_left place cells at)
    (move_after place cells at found)

abbrev pub CollectLaw : Type 0
CollectLaw = (cells : Cells) (workers : ℕ) → FitsCells cells → (seen : List ℕ) (at : CollectPoint) (found : ℕ)
    → CollectFits cells workers at
    → Falls (CollectFits cells workers) (CollectEnds workers) (collect_left cells workers)
    (collect_left cells workers at)
    (collect_after cells workers seen at found)

abbrev pub OldLaw : Type 0
OldLaw = (workers : ℕ) (seen : List ℕ) (worker found : ℕ) → IsOf workers worker
    → Falls (IsOf workers) (OldEnds workers) (old_left workers) (old_left workers worker)
    (old_after workers seen worker found)

-- what follows the locks takes at least one verb for each record
abbrev pub LockLaw : Type 0
LockLaw = (places : List Place) (rest : ℕ) → length places ≤ rest
    → (seen held : List ℕ) (at : LockPoint) (found : ℕ) → LockFits (length places) held at
    → FallsTo (of_locks (LockFits (length places))) (LockEnds (length places)) (of_locks (lock_left places rest))
    (after_locks rest)
    (lock_left places rest held at)
    (lock_after places seen held at found)

abbrev pub UnlockLaw : Type 0
UnlockLaw = (places : List Place) (given : ℕ) → given < length places
    → Falls (λ given. given < length places) Any (unlock_left places) (unlock_left places given)
    (unlock_after places given)

-- 2. A whole read

abbrev pub ReadLaw : Type 0
ReadLaw = (sight : Sight) → SightFits sight → (seen : List ℕ) (at : ReadPoint) (found : ℕ) → ReadFits sight at
    → Falls (ReadFits sight) (ReadEnds sight) (read_left sight) (read_left sight at) (read_after sight seen at found)

-- one less than the figure of its table
abbrev pub ReadBeginsLaw : Type 0
ReadBeginsLaw = (shape : Shape) → FitsLimits shape → (table position : ℕ) → IsTableOf shape table
    → position < capacity_of shape table
    → SightFits (sight_of shape table position)
    × (read_left (sight_of shape table position) read_begin + 1 ≡ read_most shape table)
