-- Words below 2^64: which of its words a point holds that its call may still write, and what a verb writes.
use Rattle.std.specs.List.{AllByRecursion}
use Rattle.std.specs.Prelude.{List, Option, Some, ℕ, ◌<◌, ◌^◌, None}
use Rattle.nam_verbs.specs.declared.now.Now.TheVariants.{At, Over}
use Rattle.nam_verbs.specs.declared.now.Now.{Now}
use Rattle.nam_verbs.specs.VerbAt.{ExchangeAt, ReadAt, VerbAt, WriteAt}
use Rattle.nam_vector.specs.declared.snap.SnapEnd.TheVariants.{Done, Again}
use Rattle.nam_vector.specs.declared.snap.SnapEnd.{SnapEnd}
use Rattle.nam_vector.specs.declared.snap.SnapPoint.TheVariants.{First, Second}
use Rattle.nam_vector.specs.declared.snap.SnapPoint.{SnapPoint}
use Rattle.nam_calls.specs.declared.horizon.CollectPoint.TheVariants.{CollectEnding, CollectFree, CollectTag}
use Rattle.nam_calls.specs.declared.horizon.CollectPoint.TheVariants.{HorizonLook, HorizonRaise}
use Rattle.nam_calls.specs.declared.horizon.CollectPoint.{CollectPoint}
use Rattle.nam_calls.specs.declared.lock.LockEnd.TheVariants.{Held, Locked, Newer}
use Rattle.nam_calls.specs.declared.lock.LockEnd.{LockEnd}
use Rattle.nam_calls.specs.declared.lock.LockPoint.TheVariants.{GiveBack, Peek, Seize}
use Rattle.nam_calls.specs.declared.lock.LockPoint.{LockPoint}
use Rattle.nam_calls.specs.declared.lock.Locks.{Locks}
use Rattle.nam_calls.specs.declared.mover.MovePoint.TheVariants.{MoveAgain, MoveBack, MoveClaim, MoveEnding, MoveCount}
use Rattle.nam_calls.specs.declared.mover.MovePoint.TheVariants.{MoveFill, MoveFlag, MoveFull, MoveHead, MoveWords}
use Rattle.nam_calls.specs.declared.mover.MovePoint.{MovePoint}
use Rattle.nam_calls.specs.declared.overflow.CellPoint.TheVariants.{CellAgain, CellBegin, CellEnding, CellOwner}
use Rattle.nam_calls.specs.declared.overflow.CellPoint.TheVariants.{CellTag, CellWords}
use Rattle.nam_calls.specs.declared.overflow.CellPoint.{CellPoint}
use Rattle.nam_calls.specs.declared.overflow.ClaimEnd.TheVariants.{Claimed, NoRoom}
use Rattle.nam_calls.specs.declared.overflow.ClaimEnd.{ClaimEnd}
use Rattle.nam_calls.specs.declared.overflow.ClaimPoint.TheVariants.{ClaimLook, ClaimTake}
use Rattle.nam_calls.specs.declared.overflow.ClaimPoint.{ClaimPoint}
use Rattle.nam_calls.specs.declared.overflow.Version.{Version}
use Rattle.nam_calls.specs.declared.reading.ReadPoint.TheVariants.{ReadCells, ReadCurrent, ReadHorizon, ReadRecheck}
use Rattle.nam_calls.specs.declared.reading.ReadPoint.TheVariants.{ReadRing, ReadUnsure}
use Rattle.nam_calls.specs.declared.reading.ReadPoint.{ReadPoint}
use Rattle.nam_calls.specs.declared.reading.ReadingEnd.TheVariants.{Astray, Got, Passed}
use Rattle.nam_calls.specs.declared.reading.ReadingEnd.{ReadingEnd}
use Rattle.nam_calls.specs.declared.record.CurrentEnd.{CurrentEnd}
use Rattle.nam_calls.specs.declared.record.CurrentPoint.TheVariants.{CurrentAgain, CurrentWords, CurrentHead}
use Rattle.nam_calls.specs.declared.record.CurrentPoint.{CurrentPoint}
use Rattle.nam_calls.specs.declared.ring.RingPoint.TheVariants.{SlotAgain, SlotEnding, SlotHead, SlotWords}
use Rattle.nam_calls.specs.declared.ring.RingPoint.{RingPoint}
use Rattle.nam_calls.specs.declared.ring.SearchEnd.TheVariants.{Found, NotThere}
use Rattle.nam_calls.specs.declared.ring.SearchEnd.{SearchEnd}
use Rattle.nam_calls.specs.declared.record.CurrentEnd.TheVariants as current

-- 1. Words

abbrev pub IsWord : ℕ → Type 0
IsWord word = word < 2 ^ 64

abbrev pub AreWords : List ℕ → Type 0
AreWords words = AllByRecursion IsWord words

-- a value, where there is one
abbrev pub HasWords : Option (List ℕ) → Type 0
HasWords None = Unit {0}
HasWords (Some value) = AreWords value

-- what a verb writes is a word; a read writes none
abbrev pub WritesWord : {W : Type 0} → VerbAt W → Type 0
WritesWord (ReadAt at) = Unit {0}
WritesWord (WriteAt at word) = IsWord word
WritesWord (ExchangeAt at expect word) = IsWord word

-- what the point or the end of a call holds
abbrev pub HoldsNow : {P E : Type 0} → (P → Type 0) → (E → Type 0) → Now P E → Type 0
HoldsNow OfPlace OfEnd (At place) = OfPlace place
HoldsNow OfPlace OfEnd (Over end) = OfEnd end

-- 2. A snapshot

abbrev pub SnapHolds : SnapPoint → Type 0
SnapHolds (First got) = AreWords got
SnapHolds (Second seen at) = AreWords seen

abbrev pub SnapEndHolds : SnapEnd → Type 0
SnapEndHolds (Done seen) = AreWords seen
SnapEndHolds (Again worker first second) = Unit {0}

-- 3. A read: the words of the value

abbrev pub CurrentHolds : CurrentPoint → Type 0
CurrentHolds CurrentHead = Unit {0}
CurrentHolds (CurrentWords header got) = AreWords got
CurrentHolds (CurrentAgain header value) = AreWords value

abbrev pub CurrentEndHolds : CurrentEnd → Type 0
CurrentEndHolds (current.Found value) = HasWords value
CurrentEndHolds (current.Unsure value header) = AreWords value
CurrentEndHolds current.GoOld = Unit {0}

abbrev pub RingHolds : RingPoint → Type 0
RingHolds (SlotHead slot) = Unit {0}
RingHolds (SlotEnding slot header) = Unit {0}
RingHolds (SlotWords slot header got) = AreWords got
RingHolds (SlotAgain slot header value) = AreWords value

abbrev pub CellHolds : CellPoint → Type 0
CellHolds (CellTag cell) = Unit {0}
CellHolds (CellOwner cell tag) = Unit {0}
CellHolds (CellBegin cell tag) = Unit {0}
CellHolds (CellEnding cell tag header) = Unit {0}
CellHolds (CellWords cell tag header got) = AreWords got
CellHolds (CellAgain cell tag header value) = AreWords value

abbrev pub SearchHolds : SearchEnd → Type 0
SearchHolds (Found value) = HasWords value
SearchHolds NotThere = Unit {0}

abbrev pub ReadHolds : ReadPoint → Type 0
ReadHolds (ReadCurrent at) = CurrentHolds at
ReadHolds (ReadUnsure value header at) = AreWords value × RingHolds at
ReadHolds (ReadRecheck value header) = AreWords value
ReadHolds (ReadRing at) = RingHolds at
ReadHolds (ReadCells at) = CellHolds at
ReadHolds (ReadHorizon worker) = Unit {0}

abbrev pub ReadingHolds : ReadingEnd → Type 0
ReadingHolds (Got value) = HasWords value
ReadingHolds (Passed worker entry horizon) = Unit {0}
ReadingHolds Astray = Unit {0}

-- 4. Locks: the headers that are written back, and the one that is exchanged

abbrev pub LockHolds : LockPoint → Type 0
LockHolds Peek = Unit {0}
LockHolds (Seize header) = IsWord header
LockHolds (GiveBack given found) = Unit {0}

abbrev pub LocksHold : Locks → Type 0
LocksHold locks = AreWords locks.held × LockHolds locks.at

abbrev pub LockEndHolds : LockEnd → Type 0
LockEndHolds (Held held) = AreWords held
LockEndHolds (Locked nth found) = Unit {0}
LockEndHolds (Newer nth found) = Unit {0}

-- 5. A move: the header and the end that it found, the tag that it took, the version that it copies

abbrev pub ClaimHolds : ClaimPoint → Type 0
ClaimHolds (ClaimLook cell) = Unit {0}
ClaimHolds (ClaimTake cell tag) = IsWord tag

abbrev pub ClaimEndHolds : ClaimEnd → Type 0
ClaimEndHolds (Claimed cell tag) = IsWord tag
ClaimEndHolds NoRoom = Unit {0}

abbrev pub VersionHolds : Version → Type 0
VersionHolds version = IsWord version.begin × IsWord version.«end» × AreWords version.value

abbrev pub MoveHolds : MovePoint → Type 0
MoveHolds MoveCount = Unit {0}
MoveHolds (MoveHead slot) = Unit {0}
MoveHolds (MoveEnding slot header) = IsWord header
MoveHolds (MoveClaim slot header ending at) = IsWord header × IsWord ending × ClaimHolds at
MoveHolds (MoveWords slot header ending cell tag got) = IsWord header × IsWord ending × IsWord tag × AreWords got
MoveHolds (MoveFill slot header cell tag version at) = IsWord header × IsWord tag × VersionHolds version
MoveHolds (MoveAgain slot header cell tag) = IsWord header × IsWord tag
MoveHolds (MoveFull slot header cell tag) = IsWord header × IsWord tag
MoveHolds (MoveFlag slot header) = IsWord header
MoveHolds (MoveBack header cell tag) = IsWord tag

-- 6. A collection: the tag of the cell that it may free

abbrev pub CollectHolds : CollectPoint → Type 0
CollectHolds (HorizonLook known) = Unit {0}
CollectHolds (HorizonRaise known found) = Unit {0}
CollectHolds (CollectTag known cell) = Unit {0}
CollectHolds (CollectEnding known cell tag) = IsWord tag
CollectHolds (CollectFree known cell tag) = IsWord tag
