-- Which field the verb of a point may change: none where it is a read. The tables look no further into a point than to
-- the verbs that write.
use Rattle.std.specs.Prelude.{List, None, Option, Some, length, ℕ, ◌+◌}
use Rattle.nam_verbs.specs.VerbAt.{ExchangeAt, ReadAt, VerbAt, WriteAt}
use Rattle.nam_layout.specs.declared.field.Cells.{Cells}
use Rattle.nam_layout.specs.declared.field.Field.{Field}
use Rattle.nam_layout.specs.declared.field.Place.{Place}
use Rattle.nam_layout.specs.Place.{slot_of}
use Rattle.nam_layout.specs.declared.field.Field.TheVariants as field
use Rattle.nam_calls.specs.declared.horizon.CollectPoint.TheVariants.{CollectFree, HorizonRaise}
use Rattle.nam_calls.specs.declared.horizon.CollectPoint.{CollectPoint}
use Rattle.nam_calls.specs.declared.index.ClaimKeyPoint.TheVariants.{KeyTake}
use Rattle.nam_calls.specs.declared.index.ClaimKeyPoint.{ClaimKeyPoint}
use Rattle.nam_calls.specs.declared.index.Path.{Path}
use Rattle.nam_calls.specs.declared.lock.LockPoint.TheVariants.{GiveBack, Seize}
use Rattle.nam_calls.specs.declared.lock.LockPoint.{LockPoint}
use Rattle.nam_calls.specs.declared.mover.MovePoint.TheVariants.{MoveBack, MoveClaim, MoveFill, MoveFlag, MoveFull}
use Rattle.nam_calls.specs.declared.mover.MovePoint.{MovePoint}
use Rattle.nam_calls.specs.declared.overflow.ClaimPoint.TheVariants.{ClaimTake}
use Rattle.nam_calls.specs.declared.overflow.ClaimPoint.{ClaimPoint}
use Rattle.nam_calls.specs.declared.overflow.FillPoint.TheVariants.{FillBegin, FillEnding, FillOwner, FillWord}
use Rattle.nam_calls.specs.declared.overflow.FillPoint.{FillPoint}
use Rattle.nam_calls.specs.declared.record.InstallPoint.TheVariants.{InstallCount, InstallHead, InstallWord}
use Rattle.nam_calls.specs.declared.record.InstallPoint.{InstallPoint}
use Rattle.nam_calls.specs.declared.ring.CopyPoint.TheVariants.{CopyEnding, CopyHead, CopyMark, CopyWord}
use Rattle.nam_calls.specs.declared.ring.CopyPoint.{CopyPoint}
use Rattle.nam_calls.specs.Index.{nth_key}
use Rattle.nam_calls.specs.Lock.{header_field, nth_place}

-- what a verb may change
abbrev pub written_by : {W : Type 0} → VerbAt W → Option W
written_by (ReadAt at) = None
written_by (WriteAt at word) = Some at
written_by (ExchangeAt at expect word) = Some at

-- a position's key word, where it was free
abbrev pub claim_key_writes : Path → ClaimKeyPoint → Option Field
claim_key_writes path (KeyTake passed) = Some (nth_key path passed)
claim_key_writes path _ = None

-- the header of the next record, or of one that is given back
abbrev pub lock_writes : List Place → List ℕ → LockPoint → Option Field
lock_writes places held (Seize header) = Some (header_field (nth_place places (length held)))
lock_writes places held (GiveBack given found) = Some (header_field (nth_place places given))
lock_writes places held _ = None

-- the words of the slot that a version is copied into
abbrev pub copy_writes : Place → ℕ → CopyPoint → Option Field
copy_writes place count CopyMark = Some (field.SlotHeader place.row (slot_of place count))
copy_writes place count CopyEnding = Some (field.SlotEnd place.row (slot_of place count))
copy_writes place count (CopyWord nth) = Some (field.SlotWord place.row (slot_of place count) nth)
copy_writes place count CopyHead = Some (field.SlotHeader place.row (slot_of place count))

-- the words of the current version
abbrev pub install_writes : Place → InstallPoint → Option Field
install_writes place (InstallWord nth) = Some (field.Word place.row nth)
install_writes place InstallCount = Some (field.Count place.row)
install_writes place InstallHead = Some (field.Header place.row)

abbrev pub claim_writes : Cells → ClaimPoint → Option Field
claim_writes cells (ClaimTake cell tag) = Some (field.Tag cells.bucket cell)
claim_writes cells _ = None

abbrev pub fill_writes : Cells → ℕ → FillPoint → Option Field
fill_writes cells cell FillOwner = Some (field.Owner cells.bucket cell)
fill_writes cells cell FillBegin = Some (field.Begin cells.bucket cell)
fill_writes cells cell FillEnding = Some (field.End cells.bucket cell)
fill_writes cells cell (FillWord nth) = Some (field.CellWord cells.bucket cell nth)

-- the words of a cell, and the moved flag of the slot
abbrev pub move_writes : Place → Cells → MovePoint → Option Field
move_writes place cells (MoveClaim slot header ending at) = claim_writes cells at
move_writes place cells (MoveFill slot header cell tag version at) = fill_writes cells cell at
move_writes place cells (MoveFull slot header cell tag) = Some (field.Tag cells.bucket cell)
move_writes place cells (MoveFlag slot header) = Some (field.SlotHeader place.row slot)
move_writes place cells (MoveBack header cell tag) = Some (field.Tag cells.bucket cell)
move_writes place cells _ = None

-- a horizon entry, or a cell's tag
abbrev pub collect_writes : Cells → CollectPoint → Option Field
collect_writes cells (HorizonRaise known found) = Some (field.Horizon (length known + 1))
collect_writes cells (CollectFree known cell tag) = Some (field.Tag cells.bucket cell)
collect_writes cells _ = None
