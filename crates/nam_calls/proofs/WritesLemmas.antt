-- Which field the verb of a point may change, and that a read changes none.
use Rattle.std.proofs.Common.{List, None, Option, refl, ℕ, ◌≡◌, sym}
use Rattle.si_model.specs.declared.log.Stamp.{Stamp}
use Rattle.nam_verbs.specs.VerbAt.{ExchangeAt, ReadAt, VerbAt, WriteAt, left_at, target}
use Rattle.nam_layout.specs.declared.field.Cells.{Cells}
use Rattle.nam_layout.specs.declared.field.Place.{Place}
use Rattle.nam_vector.specs.declared.snap.SnapPoint.TheVariants.{First, Second}
use Rattle.nam_vector.specs.declared.snap.SnapPoint.{SnapPoint}
use Rattle.nam_vector.specs.Snap.{snap_verb}
use Rattle.nam_calls.specs.declared.horizon.CollectPoint.TheVariants.{CollectEnding, CollectFree, CollectTag}
use Rattle.nam_calls.specs.declared.horizon.CollectPoint.TheVariants.{HorizonLook, HorizonRaise}
use Rattle.nam_calls.specs.declared.horizon.CollectPoint.{CollectPoint}
use Rattle.nam_calls.specs.declared.index.ClaimKeyPoint.TheVariants.{KeyLook, KeyTake}
use Rattle.nam_calls.specs.declared.index.ClaimKeyPoint.{ClaimKeyPoint}
use Rattle.nam_calls.specs.declared.index.Path.{Path}
use Rattle.nam_calls.specs.declared.lock.LockPoint.TheVariants.{GiveBack, Peek, Seize}
use Rattle.nam_calls.specs.declared.lock.LockPoint.{LockPoint}
use Rattle.nam_calls.specs.declared.mover.MovePoint.TheVariants.{MoveAgain, MoveBack, MoveClaim, MoveCount, MoveEnding}
use Rattle.nam_calls.specs.declared.mover.MovePoint.TheVariants.{MoveFill, MoveFlag, MoveFull, MoveHead, MoveWords}
use Rattle.nam_calls.specs.declared.mover.MovePoint.{MovePoint}
use Rattle.nam_calls.specs.declared.overflow.CellPoint.TheVariants.{CellAgain, CellBegin, CellEnding, CellOwner}
use Rattle.nam_calls.specs.declared.overflow.CellPoint.TheVariants.{CellTag, CellWords}
use Rattle.nam_calls.specs.declared.overflow.CellPoint.{CellPoint}
use Rattle.nam_calls.specs.declared.overflow.ClaimPoint.TheVariants.{ClaimLook, ClaimTake}
use Rattle.nam_calls.specs.declared.overflow.ClaimPoint.{ClaimPoint}
use Rattle.nam_calls.specs.declared.overflow.FillPoint.TheVariants.{FillBegin, FillEnding, FillOwner, FillWord}
use Rattle.nam_calls.specs.declared.overflow.FillPoint.{FillPoint}
use Rattle.nam_calls.specs.declared.overflow.Version.{Version}
use Rattle.nam_calls.specs.declared.reading.ReadPoint.TheVariants.{ReadCells, ReadCurrent, ReadHorizon, ReadRecheck}
use Rattle.nam_calls.specs.declared.reading.ReadPoint.TheVariants.{ReadRing, ReadUnsure}
use Rattle.nam_calls.specs.declared.reading.ReadPoint.{ReadPoint}
use Rattle.nam_calls.specs.declared.reading.Sight.{Sight}
use Rattle.nam_calls.specs.declared.record.CurrentPoint.TheVariants.{CurrentAgain, CurrentHead, CurrentWords}
use Rattle.nam_calls.specs.declared.record.CurrentPoint.{CurrentPoint}
use Rattle.nam_calls.specs.declared.record.InstallPoint.TheVariants.{InstallCount, InstallHead, InstallWord}
use Rattle.nam_calls.specs.declared.record.InstallPoint.{InstallPoint}
use Rattle.nam_calls.specs.declared.ring.CopyPoint.TheVariants.{CopyEnding, CopyHead, CopyMark, CopyWord}
use Rattle.nam_calls.specs.declared.ring.CopyPoint.{CopyPoint}
use Rattle.nam_calls.specs.declared.ring.RingPoint.TheVariants.{SlotAgain, SlotEnding, SlotHead, SlotWords}
use Rattle.nam_calls.specs.declared.ring.RingPoint.{RingPoint}
use Rattle.nam_calls.specs.declared.ring.SlotPoint.TheVariants.{CheckCount, CheckHead}
use Rattle.nam_calls.specs.declared.ring.SlotPoint.{SlotPoint}
use Rattle.nam_calls.specs.Holds.{WritesWord}
use Rattle.nam_calls.specs.Horizon.{collect_verb}
use Rattle.nam_calls.specs.Index.{claim_key_verb}
use Rattle.nam_calls.specs.Lock.{lock_verb}
use Rattle.nam_calls.specs.Mover.{move_verb}
use Rattle.nam_calls.specs.Overflow.{cell_verb, claim_verb, fill_verb}
use Rattle.nam_calls.specs.Reading.{read_verb}
use Rattle.nam_calls.specs.Record.{current_verb, install_verb}
use Rattle.nam_calls.specs.Ring.{copy_verb, ring_verb, slot_verb}
use Rattle.std.proofs.lemmas.Option.{none-some}
use Rattle.nam_calls.specs.Writes.{claim_key_writes, claim_writes, collect_writes, copy_writes, fill_writes}
use Rattle.nam_calls.specs.Writes.{install_writes, lock_writes, move_writes, written_by}

-- 1. Verbs

-- a verb that may change no field writes no word, and leaves each field its word
pub no_word : {W : Type 0} (verb : VerbAt W) → written_by verb ≡ None → WritesWord verb
no_word (ReadAt at) e = tt
no_word (WriteAt at word) e = absurd (none-some at (sym e))
no_word (ExchangeAt at expect word) e = absurd (none-some at (sym e))

pub leaves_all : {W : Type 0} (words : W → ℕ) (verb : VerbAt W) → written_by verb ≡ None
    → left_at words verb ≡ words (target verb)
leaves_all words (ReadAt at) e = refl
leaves_all words (WriteAt at word) e = absurd (none-some at (sym e))
leaves_all words (ExchangeAt at expect word) e = absurd (none-some at (sym e))

-- 2. Calls that only read

pub snap_reads : (at : SnapPoint) → written_by (snap_verb at) ≡ None
snap_reads (First got) = refl
snap_reads (Second seen at) = refl

ring_reads : (place : Place) (at : RingPoint) → written_by (ring_verb place at) ≡ None
ring_reads place (SlotHead slot) = refl
ring_reads place (SlotEnding slot header) = refl
ring_reads place (SlotWords slot header got) = refl
ring_reads place (SlotAgain slot header value) = refl

current_reads : (place : Place) (at : CurrentPoint) → written_by (current_verb place at) ≡ None
current_reads place CurrentHead = refl
current_reads place (CurrentWords header got) = refl
current_reads place (CurrentAgain header value) = refl

cell_reads : (cells : Cells) (at : CellPoint) → written_by (cell_verb cells at) ≡ None
cell_reads cells (CellTag cell) = refl
cell_reads cells (CellOwner cell tag) = refl
cell_reads cells (CellBegin cell tag) = refl
cell_reads cells (CellEnding cell tag header) = refl
cell_reads cells (CellWords cell tag header got) = refl
cell_reads cells (CellAgain cell tag header value) = refl

pub read_reads : (sight : Sight) (at : ReadPoint) → written_by (read_verb sight at) ≡ None
read_reads sight (ReadCurrent at) = current_reads sight.place at
read_reads sight (ReadUnsure value header at) = ring_reads sight.place at
read_reads sight (ReadRecheck value header) = refl
read_reads sight (ReadRing at) = ring_reads sight.place at
read_reads sight (ReadCells at) = cell_reads sight.cells at
read_reads sight (ReadHorizon worker) = refl

pub slot_reads : (place : Place) (at : SlotPoint) → written_by (slot_verb place at) ≡ None
slot_reads place CheckCount = refl
slot_reads place (CheckHead count) = refl

-- 3. Calls that write

pub claim_key_written : (path : Path) (at : ClaimKeyPoint)
    → written_by (claim_key_verb path at) ≡ claim_key_writes path at
claim_key_written path (KeyLook passed) = refl
claim_key_written path (KeyTake passed) = refl

pub lock_written : (worker : ℕ) (places : List Place) (held : List ℕ) (at : LockPoint)
    → written_by (lock_verb worker places held at) ≡ lock_writes places held at
lock_written worker places held Peek = refl
lock_written worker places held (Seize header) = refl
lock_written worker places held (GiveBack given found) = refl

pub copy_written : (place : Place) (count header : ℕ) (old : List ℕ) (ending : Stamp) (at : CopyPoint)
    → written_by (copy_verb place count header old ending at) ≡ copy_writes place count at
copy_written place count header old ending CopyMark = refl
copy_written place count header old ending CopyEnding = refl
copy_written place count header old ending (CopyWord nth) = refl
copy_written place count header old ending CopyHead = refl

pub install_written : (place : Place) (value : Option (List ℕ)) (count header : ℕ) (at : InstallPoint)
    → written_by (install_verb place value count header at) ≡ install_writes place at
install_written place value count header (InstallWord nth) = refl
install_written place value count header InstallCount = refl
install_written place value count header InstallHead = refl

claim_written : (cells : Cells) (at : ClaimPoint) → written_by (claim_verb cells at) ≡ claim_writes cells at
claim_written cells (ClaimLook cell) = refl
claim_written cells (ClaimTake cell tag) = refl

fill_written : (cells : Cells) (cell owner : ℕ) (version : Version) (at : FillPoint)
    → written_by (fill_verb cells cell owner version at) ≡ fill_writes cells cell at
fill_written cells cell owner version FillOwner = refl
fill_written cells cell owner version FillBegin = refl
fill_written cells cell owner version FillEnding = refl
fill_written cells cell owner version (FillWord nth) = refl

pub move_written : (place : Place) (cells : Cells) (at : MovePoint)
    → written_by (move_verb place cells at) ≡ move_writes place cells at
move_written place cells MoveCount = refl
move_written place cells (MoveHead slot) = refl
move_written place cells (MoveEnding slot header) = refl
move_written place cells (MoveClaim slot header ending at) = claim_written cells at
move_written place cells (MoveWords slot header ending cell tag got) = refl
move_written place cells (MoveFill slot header cell tag version at) =
    fill_written cells cell place.row version at
move_written place cells (MoveAgain slot header cell tag) = refl
move_written place cells (MoveFull slot header cell tag) = refl
move_written place cells (MoveFlag slot header) = refl
move_written place cells (MoveBack header cell tag) = refl

pub collect_written : (cells : Cells) (seen : List ℕ) (at : CollectPoint)
    → written_by (collect_verb cells seen at) ≡ collect_writes cells at
collect_written cells seen (HorizonLook known) = refl
collect_written cells seen (HorizonRaise known found) = refl
collect_written cells seen (CollectTag known cell) = refl
collect_written cells seen (CollectEnding known cell tag) = refl
collect_written cells seen (CollectFree known cell tag) = refl
