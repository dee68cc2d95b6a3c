-- What holds of each point and of each end, and what it is that the number of verbs to come falls.
use Rattle.std.specs.Prelude.{◌≡◌, ℕ, ◌<◌, ◌≤◌, List, length, Option, MatchOption}
use Rattle.nam_catalog.specs.declared.shape.Shape.{Shape}
use Rattle.nam_layout.specs.declared.field.Place.{Place}
use Rattle.nam_layout.specs.declared.field.Cells.{Cells}
use Rattle.nam_layout.specs.PlaceFits.{FitsPlace, FitsCells}
use Rattle.nam_calls.specs.declared.index.FindEnd.{FindEnd}
use Rattle.nam_calls.specs.declared.index.ClaimKeyPoint.{ClaimKeyPoint}
use Rattle.nam_calls.specs.declared.index.ClaimKeyPoint.TheVariants.{KeyLook, KeyTake}
use Rattle.nam_calls.specs.declared.index.ClaimKeyEnd.{ClaimKeyEnd}
use Rattle.nam_calls.specs.declared.record.CurrentPoint.{CurrentPoint}
use Rattle.nam_calls.specs.declared.record.CurrentPoint.TheVariants.{CurrentHead, CurrentWords, CurrentAgain}
use Rattle.nam_calls.specs.declared.record.CurrentEnd.{CurrentEnd}
use Rattle.nam_calls.specs.declared.record.InstallPoint.{InstallPoint}
use Rattle.nam_calls.specs.declared.record.InstallPoint.TheVariants.{InstallWord, InstallCount, InstallHead}
use Rattle.nam_calls.specs.declared.ring.SlotEnd.{SlotEnd}
use Rattle.nam_calls.specs.declared.ring.SlotEnd.TheVariants.{Free, NotMoved}
use Rattle.nam_calls.specs.declared.ring.CopyPoint.{CopyPoint}
use Rattle.nam_calls.specs.declared.ring.CopyPoint.TheVariants.{CopyMark, CopyEnding, CopyWord, CopyHead}
use Rattle.nam_calls.specs.declared.ring.RingPoint.{RingPoint}
use Rattle.nam_calls.specs.declared.ring.RingPoint.TheVariants.{SlotHead, SlotEnding, SlotWords, SlotAgain}
use Rattle.nam_calls.specs.declared.ring.SearchEnd.{SearchEnd}
use Rattle.nam_calls.specs.declared.ring.SearchEnd.TheVariants.{Found, NotThere}
use Rattle.nam_calls.specs.declared.overflow.CellPoint.{CellPoint}
use Rattle.nam_calls.specs.declared.overflow.CellPoint.TheVariants.{CellTag, CellOwner, CellBegin, CellEnding}
use Rattle.nam_calls.specs.declared.overflow.CellPoint.TheVariants.{CellWords, CellAgain}
use Rattle.nam_calls.specs.declared.overflow.ClaimPoint.{ClaimPoint}
use Rattle.nam_calls.specs.declared.overflow.ClaimPoint.TheVariants.{ClaimLook, ClaimTake}
use Rattle.nam_calls.specs.declared.overflow.ClaimEnd.{ClaimEnd}
use Rattle.nam_calls.specs.declared.overflow.ClaimEnd.TheVariants.{Claimed, NoRoom}
use Rattle.nam_calls.specs.declared.overflow.FillPoint.{FillPoint}
use Rattle.nam_calls.specs.declared.overflow.FillPoint.TheVariants.{FillOwner, FillBegin, FillEnding, FillWord}
use Rattle.nam_calls.specs.declared.mover.MovePoint.{MovePoint}
use Rattle.nam_calls.specs.declared.mover.MovePoint.TheVariants.{MoveCount, MoveHead, MoveEnding, MoveClaim}
use Rattle.nam_calls.specs.declared.mover.MovePoint.TheVariants.{MoveWords}
use Rattle.nam_calls.specs.declared.mover.MovePoint.TheVariants.{MoveFill, MoveAgain, MoveFull, MoveFlag, MoveBack}
use Rattle.nam_calls.specs.declared.horizon.CollectPoint.{CollectPoint}
use Rattle.nam_calls.specs.declared.horizon.CollectPoint.TheVariants.{HorizonLook, HorizonRaise, CollectTag}
use Rattle.nam_calls.specs.declared.horizon.CollectPoint.TheVariants.{CollectEnding, CollectFree}
use Rattle.nam_calls.specs.declared.horizon.OldEnd.{OldEnd}
use Rattle.nam_calls.specs.declared.horizon.OldEnd.TheVariants.{TooOld, NotPassed}
use Rattle.nam_calls.specs.declared.lock.LockPoint.{LockPoint}
use Rattle.nam_calls.specs.declared.lock.LockPoint.TheVariants.{Peek, Seize, GiveBack}
use Rattle.nam_calls.specs.declared.lock.LockEnd.{LockEnd}
use Rattle.nam_calls.specs.declared.lock.LockEnd.TheVariants.{Held, Locked, Newer}
use Rattle.nam_calls.specs.declared.reading.Sight.{Sight}
use Rattle.nam_calls.specs.declared.reading.ReadPoint.{ReadPoint}
use Rattle.nam_calls.specs.declared.reading.ReadPoint.TheVariants.{ReadCurrent, ReadUnsure, ReadRecheck, ReadRing}
use Rattle.nam_calls.specs.declared.reading.ReadPoint.TheVariants.{ReadCells, ReadHorizon}
use Rattle.nam_calls.specs.declared.reading.ReadingEnd.{ReadingEnd}
use Rattle.nam_calls.specs.declared.reading.ReadingEnd.TheVariants.{Got, Passed, Astray}
use Rattle.nam_calls.specs.declared.index.FindEnd.TheVariants as found_key
use Rattle.nam_calls.specs.declared.index.ClaimKeyEnd.TheVariants as claimed_key
use Rattle.nam_calls.specs.declared.record.CurrentEnd.TheVariants as current

-- 1. Values and workers

-- a value, where there is one, has so many words
abbrev pub HasWidth : ℕ → Option (List ℕ) → Type 0
HasWidth width value = MatchOption value (Unit {0}) (λ v. length v ≡ width)

-- workers count from 1
abbrev pub IsOf : ℕ → ℕ → Type 0
IsOf workers worker = (1 ≤ worker) × (worker ≤ workers)

-- 2. Finding and claiming a key in so many positions

abbrev pub FindFits : ℕ → ℕ → Type 0
FindFits capacity passed = passed < capacity

abbrev pub FindEnds : ℕ → FindEnd → Type 0
FindEnds capacity (found_key.At position) = position < capacity
FindEnds capacity found_key.Absent = Unit {0}

abbrev pub ClaimKeyFits : ℕ → ClaimKeyPoint → Type 0
ClaimKeyFits capacity (KeyLook passed) = passed < capacity
ClaimKeyFits capacity (KeyTake passed) = passed < capacity

abbrev pub ClaimKeyEnds : ℕ → ClaimKeyEnd → Type 0
ClaimKeyEnds capacity (claimed_key.At position) = position < capacity
ClaimKeyEnds capacity claimed_key.NoSpace = Unit {0}

-- 3. The current version

abbrev pub CurrentFits : Place → CurrentPoint → Type 0
CurrentFits place CurrentHead = Unit {0}
CurrentFits place (CurrentWords header got) = length got < place.width
CurrentFits place (CurrentAgain header value) = length value ≡ place.width

abbrev pub CurrentEnds : Place → CurrentEnd → Type 0
CurrentEnds place (current.Found value) = HasWidth place.width value
CurrentEnds place (current.Unsure value header) = length value ≡ place.width
CurrentEnds place current.GoOld = Unit {0}

abbrev pub WordsFit : Place → List ℕ → Type 0
WordsFit place got = length got < place.width

abbrev pub WordsEnd : Place → List ℕ → Type 0
WordsEnd place value = length value ≡ place.width

abbrev pub InstallFits : Place → InstallPoint → Type 0
InstallFits place (InstallWord nth) = nth < place.width
InstallFits place InstallCount = Unit {0}
InstallFits place InstallHead = Unit {0}

-- 4. The ring

abbrev pub SlotEnds : Place → SlotEnd → Type 0
SlotEnds place (Free count) = Unit {0}
SlotEnds place (NotMoved slot found) = slot < place.ring

abbrev pub CopyFits : Place → CopyPoint → Type 0
CopyFits place CopyMark = Unit {0}
CopyFits place CopyEnding = Unit {0}
CopyFits place (CopyWord nth) = nth < place.width
CopyFits place CopyHead = Unit {0}

abbrev pub RingFits : Place → RingPoint → Type 0
RingFits place (SlotHead slot) = slot < place.ring
RingFits place (SlotEnding slot header) = slot < place.ring
RingFits place (SlotWords slot header got) = (slot < place.ring) × (length got < place.width)
RingFits place (SlotAgain slot header value) = (slot < place.ring) × (length value ≡ place.width)

abbrev pub SearchEnds : Place → SearchEnd → Type 0
SearchEnds place (Found value) = HasWidth place.width value
SearchEnds place NotThere = Unit {0}

-- 5. Cells

abbrev pub CellFits : Cells → Place → CellPoint → Type 0
CellFits cells place (CellTag cell) = cell < cells.cells
CellFits cells place (CellOwner cell tag) = cell < cells.cells
CellFits cells place (CellBegin cell tag) = cell < cells.cells
CellFits cells place (CellEnding cell tag header) = cell < cells.cells
CellFits cells place (CellWords cell tag header got) = (cell < cells.cells) × (length got < place.width)
CellFits cells place (CellAgain cell tag header value) = (cell < cells.cells) × (length value ≡ place.width)

abbrev pub ClaimFits : Cells → ClaimPoint → Type 0
ClaimFits cells (ClaimLook cell) = cell < cells.cells
ClaimFits cells (ClaimTake cell tag) = cell < cells.cells

abbrev pub ClaimEnds : Cells → ClaimEnd → Type 0
ClaimEnds cells (Claimed cell tag) = cell < cells.cells
ClaimEnds cells NoRoom = Unit {0}

abbrev pub FillFits : ℕ → FillPoint → Type 0
FillFits width FillOwner = Unit {0}
FillFits width FillBegin = Unit {0}
FillFits width FillEnding = Unit {0}
FillFits width (FillWord nth) = nth < width

abbrev pub MoveFits : Place → Cells → MovePoint → Type 0
MoveFits place cells MoveCount = Unit {0}
MoveFits place cells (MoveHead slot) = slot < place.ring
MoveFits place cells (MoveEnding slot header) = slot < place.ring
MoveFits place cells (MoveClaim slot header ending at) = (slot < place.ring) × ClaimFits cells at
MoveFits place cells (MoveWords slot header ending cell tag got) =
    (slot < place.ring) × (cell < cells.cells) × (length got < place.width)
MoveFits place cells (MoveFill slot header cell tag version at) =
    (slot < place.ring) × (cell < cells.cells) × (length version.value ≡ place.width) × FillFits place.width at
MoveFits place cells (MoveAgain slot header cell tag) = (slot < place.ring) × (cell < cells.cells)
MoveFits place cells (MoveFull slot header cell tag) = (slot < place.ring) × (cell < cells.cells)
MoveFits place cells (MoveFlag slot header) = slot < place.ring
MoveFits place cells (MoveBack header cell tag) = cell < cells.cells

-- 6. The horizon

abbrev pub CollectFits : Cells → ℕ → CollectPoint → Type 0
CollectFits cells workers (HorizonLook known) = length known < workers
CollectFits cells workers (HorizonRaise known found) = length known < workers
CollectFits cells workers (CollectTag known cell) = (length known ≡ workers) × (cell < cells.cells)
CollectFits cells workers (CollectEnding known cell tag) = (length known ≡ workers) × (cell < cells.cells)
CollectFits cells workers (CollectFree known cell tag) = (length known ≡ workers) × (cell < cells.cells)

abbrev pub CollectEnds : ℕ → List ℕ → Type 0
CollectEnds workers known = length known ≡ workers

abbrev pub OldEnds : ℕ → OldEnd → Type 0
OldEnds workers (TooOld worker entry horizon) = IsOf workers worker
OldEnds workers NotPassed = Unit {0}

-- 7. A whole read

pub record SightFits (sight : Sight) : Type 0 where
  pub place : FitsPlace sight.place
  pub cells : FitsCells sight.cells
  pub workers : 1 ≤ sight.workers

abbrev pub ReadFits : Sight → ReadPoint → Type 0
ReadFits sight (ReadCurrent at) = CurrentFits sight.place at
ReadFits sight (ReadUnsure value header at) = (length value ≡ sight.place.width) × RingFits sight.place at
ReadFits sight (ReadRecheck value header) = length value ≡ sight.place.width
ReadFits sight (ReadRing at) = RingFits sight.place at
ReadFits sight (ReadCells at) = CellFits sight.cells sight.place at
ReadFits sight (ReadHorizon worker) = IsOf sight.workers worker

abbrev pub ReadEnds : Sight → ReadingEnd → Type 0
ReadEnds sight (Got value) = HasWidth sight.place.width value
ReadEnds sight (Passed worker entry horizon) = IsOf sight.workers worker
ReadEnds sight Astray = Unit {0}

-- 8. Locks of so many records

abbrev pub LockFits : ℕ → List ℕ → LockPoint → Type 0
LockFits records held Peek = length held < records
LockFits records held (Seize header) = length held < records
LockFits records held (GiveBack given found) = (length held < records) × (given < length held)

abbrev pub LockEnds : ℕ → LockEnd → Type 0
LockEnds records (Held held) = length held ≡ records
LockEnds records (Locked nth found) = nth < records
LockEnds records (Newer nth found) = nth < records

-- what follows all the locks, and nothing where one is missed
abbrev pub after_locks : ℕ → LockEnd → ℕ
after_locks rest (Held held) = rest
after_locks rest _ = 0

-- 9. Tables of a shape

module _ (shape : Shape) where
  abbrev pub IsTableOf : ℕ → Type 0
  IsTableOf table = table < length shape.tables
