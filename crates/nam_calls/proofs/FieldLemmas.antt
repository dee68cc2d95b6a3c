-- Each verb is at a field of what its call was given.
use Rattle.std.proofs.Common.{◌≡◌, ℕ, zero, suc, ◌+◌, ◌<◌, List, [], ◌∷◌, Option, refl, ap, arith, add_assoc, ◌∙◌}
use Rattle.si_model.specs.declared.log.Stamp.{Stamp}
use Rattle.nam_verbs.specs.VerbAt.{target}
use Rattle.nam_catalog.specs.declared.shape.Table.{Table}
use Rattle.nam_catalog.specs.declared.shape.Shape.{Shape}
use Rattle.nam_layout.specs.declared.field.Field.TheVariants.{Key}
use Rattle.nam_layout.specs.declared.field.Place.{Place}
use Rattle.nam_layout.specs.declared.field.Cells.{Cells}
use Rattle.nam_layout.specs.Rows.{row_of}
use Rattle.nam_layout.specs.Address.{IsRow}
use Rattle.nam_layout.specs.Place.{slot_of}
use Rattle.nam_layout.specs.PlaceFits.{FitsPlace}
use Rattle.nam_layout.specs.Known.{IsOfPlace, IsOfCells, IsKnown}
use Rattle.nam_layout.proofs.PositionLemmas.{position_is_row}
use Rattle.nam_calls.specs.declared.record.CurrentPoint.{CurrentPoint}
use Rattle.nam_calls.specs.declared.record.CurrentPoint.TheVariants.{CurrentHead, CurrentWords, CurrentAgain}
use Rattle.nam_calls.specs.declared.record.InstallPoint.{InstallPoint}
use Rattle.nam_calls.specs.declared.record.InstallPoint.TheVariants.{InstallWord, InstallCount, InstallHead}
use Rattle.nam_calls.specs.declared.ring.SlotPoint.{SlotPoint}
use Rattle.nam_calls.specs.declared.ring.SlotPoint.TheVariants.{CheckCount, CheckHead}
use Rattle.nam_calls.specs.declared.ring.CopyPoint.{CopyPoint}
use Rattle.nam_calls.specs.declared.ring.CopyPoint.TheVariants.{CopyMark, CopyEnding, CopyWord, CopyHead}
use Rattle.nam_calls.specs.declared.ring.RingPoint.{RingPoint}
use Rattle.nam_calls.specs.declared.ring.RingPoint.TheVariants.{SlotHead, SlotEnding, SlotWords, SlotAgain}
use Rattle.nam_calls.specs.declared.overflow.CellPoint.{CellPoint}
use Rattle.nam_calls.specs.declared.overflow.CellPoint.TheVariants.{CellTag, CellOwner, CellBegin, CellEnding}
use Rattle.nam_calls.specs.declared.overflow.CellPoint.TheVariants.{CellWords, CellAgain}
use Rattle.nam_calls.specs.declared.overflow.ClaimPoint.{ClaimPoint}
use Rattle.nam_calls.specs.declared.overflow.ClaimPoint.TheVariants.{ClaimLook, ClaimTake}
use Rattle.nam_calls.specs.declared.overflow.Version.{Version}
use Rattle.nam_calls.specs.declared.overflow.FillPoint.{FillPoint}
use Rattle.nam_calls.specs.declared.overflow.FillPoint.TheVariants.{FillOwner, FillBegin, FillEnding, FillWord}
use Rattle.nam_calls.specs.declared.mover.MovePoint.{MovePoint}
use Rattle.nam_calls.specs.declared.mover.MovePoint.TheVariants.{MoveCount, MoveHead, MoveEnding, MoveClaim}
use Rattle.nam_calls.specs.declared.mover.MovePoint.TheVariants.{MoveWords, MoveFill, MoveAgain, MoveFull}
use Rattle.nam_calls.specs.declared.mover.MovePoint.TheVariants.{MoveFlag, MoveBack}
use Rattle.nam_calls.specs.declared.horizon.CollectPoint.{CollectPoint}
use Rattle.nam_calls.specs.declared.horizon.CollectPoint.TheVariants.{HorizonLook, HorizonRaise, CollectTag}
use Rattle.nam_calls.specs.declared.horizon.CollectPoint.TheVariants.{CollectEnding, CollectFree}
use Rattle.nam_calls.specs.declared.reading.Sight.{Sight}
use Rattle.nam_calls.specs.declared.reading.ReadPoint.{ReadPoint}
use Rattle.nam_calls.specs.declared.reading.ReadPoint.TheVariants.{ReadCurrent, ReadUnsure, ReadRecheck}
use Rattle.nam_calls.specs.declared.reading.ReadPoint.TheVariants.{ReadRing, ReadCells, ReadHorizon}
use Rattle.nam_calls.specs.Words.{capacity_of, path_of}
use Rattle.nam_calls.specs.Index.{nth_position, nth_key}
use Rattle.nam_calls.specs.Record.{current_verb, install_verb}
use Rattle.nam_calls.specs.Ring.{slot_verb, copy_verb, ring_verb}
use Rattle.nam_calls.specs.Overflow.{cell_verb, claim_verb, fill_verb}
use Rattle.nam_calls.specs.Mover.{move_verb}
use Rattle.nam_calls.specs.Horizon.{collect_verb}
use Rattle.nam_calls.specs.Reading.{read_verb}
use Rattle.nam_calls.specs.Fits.{CurrentFits, InstallFits, CopyFits, RingFits, CellFits, ClaimFits, FillFits}
use Rattle.nam_calls.specs.Fits.{MoveFits, CollectFits, SightFits, ReadFits, FindFits, IsTableOf}
use Rattle.nam_calls.specs.FieldLaw.{PlaceVerbsLaw, CellVerbsLaw}

-- 1. Of a position

module _ (place : Place) (fits : FitsPlace place) where
  slot_within : (count : ℕ) → slot_of place count < place.ring
  slot_within count = let r = fits.least_ring in omega arith

  pub current_field : (at : CurrentPoint) → CurrentFits place at → IsOfPlace place (target (current_verb place at))
  current_field CurrentHead l = refl
  current_field (CurrentWords header got) l = (refl, l)
  current_field (CurrentAgain header value) l = refl

  pub install_field : (value : Option (List ℕ)) (count header : ℕ) (at : InstallPoint) → InstallFits place at
      → IsOfPlace place (target (install_verb place value count header at))
  install_field value count header (InstallWord nth) l = (refl, l)
  install_field value count header InstallCount l = refl
  install_field value count header InstallHead l = refl

  pub slot_field : (at : SlotPoint) → IsOfPlace place (target (slot_verb place at))
  slot_field CheckCount = refl
  slot_field (CheckHead count) = (refl, slot_within count)

  pub copy_field : (count header : ℕ) (old : List ℕ) (ending : Stamp) (at : CopyPoint) → CopyFits place at
      → IsOfPlace place (target (copy_verb place count header old ending at))
  copy_field count header old ending CopyMark l = (refl, slot_within count)
  copy_field count header old ending CopyEnding l = (refl, slot_within count)
  copy_field count header old ending (CopyWord nth) l = ((refl, slot_within count), l)
  copy_field count header old ending CopyHead l = (refl, slot_within count)

  pub ring_field : (at : RingPoint) → RingFits place at → IsOfPlace place (target (ring_verb place at))
  ring_field (SlotHead slot) l = (refl, l)
  ring_field (SlotEnding slot header) l = (refl, l)
  ring_field (SlotWords slot header got) l = ((refl, l.0), l.1)
  ring_field (SlotAgain slot header value) l = (refl, l.0)

  -- 2. Of a bucket's cells

  module _ (cells : Cells) where
    pub cell_field : (at : CellPoint) → CellFits cells place at → IsOfCells cells (target (cell_verb cells at))
    cell_field (CellTag cell) l = (refl, l)
    cell_field (CellOwner cell tag) l = (refl, l)
    cell_field (CellBegin cell tag) l = (refl, l)
    cell_field (CellEnding cell tag header) l = (refl, l)
    cell_field (CellWords cell tag header got) l =
        let w = fits.most_width in let m = l.1 in ((refl, l.0), omega arith)
    cell_field (CellAgain cell tag header value) l = (refl, l.0)

    pub claim_field : (at : ClaimPoint) → ClaimFits cells at → IsOfCells cells (target (claim_verb cells at))
    claim_field (ClaimLook cell) l = (refl, l)
    claim_field (ClaimTake cell tag) l = (refl, l)

    pub fill_field : (cell owner : ℕ) (version : Version) (at : FillPoint) → cell < cells.cells
        → FillFits place.width at → IsOfCells cells (target (fill_verb cells cell owner version at))
    fill_field cell owner version FillOwner c l = (refl, c)
    fill_field cell owner version FillBegin c l = (refl, c)
    fill_field cell owner version FillEnding c l = (refl, c)
    fill_field cell owner version (FillWord nth) c l = let w = fits.most_width in ((refl, c), omega arith)

    -- a field of a bucket is known to who has the bucket's cells
    known_claim : (workers : ℕ) (at : ClaimPoint) → ClaimFits cells at
        → IsKnown place cells workers (target (claim_verb cells at))
    known_claim workers (ClaimLook cell) l = (refl, l)
    known_claim workers (ClaimTake cell tag) l = (refl, l)

    known_fill : (workers cell owner : ℕ) (version : Version) (at : FillPoint) → cell < cells.cells
        → FillFits place.width at → IsKnown place cells workers (target (fill_verb cells cell owner version at))
    known_fill workers cell owner version FillOwner c l = (refl, c)
    known_fill workers cell owner version FillBegin c l = (refl, c)
    known_fill workers cell owner version FillEnding c l = (refl, c)
    known_fill workers cell owner version (FillWord nth) c l = fill_field cell owner version (FillWord nth) c l

    -- 3. Of both

    pub move_field : (workers : ℕ) (at : MovePoint) → MoveFits place cells at
        → IsKnown place cells workers (target (move_verb place cells at))
    move_field workers MoveCount l = refl
    move_field workers (MoveHead slot) l = (refl, l)
    move_field workers (MoveEnding slot header) l = (refl, l)
    move_field workers (MoveClaim slot header ending at) l = known_claim workers at l.1
    move_field workers (MoveWords slot header ending cell tag got) l = ((refl, l.0), l.2)
    move_field workers (MoveFill slot header cell tag version at) l =
        known_fill workers cell place.row version at l.1 l.3
    move_field workers (MoveAgain slot header cell tag) l = (refl, l.0)
    move_field workers (MoveFull slot header cell tag) l = (refl, l.1)
    move_field workers (MoveFlag slot header) l = (refl, l)
    move_field workers (MoveBack header cell tag) l = (refl, l)

pub collect_field : (place : Place) (cells : Cells) (workers : ℕ) (seen : List ℕ) (at : CollectPoint)
    → CollectFits cells workers at → IsKnown place cells workers (target (collect_verb cells seen at))
collect_field place cells workers seen (HorizonLook known) l = (omega arith, omega arith)
collect_field place cells workers seen (HorizonRaise known found) l = (omega arith, omega arith)
collect_field place cells workers seen (CollectTag known cell) l = (refl, l.1)
collect_field place cells workers seen (CollectEnding known cell tag) l = (refl, l.1)
collect_field place cells workers seen (CollectFree known cell tag) l = (refl, l.1)

-- 4. Of a whole read

module _ (sight : Sight) (fits : SightFits sight) where
  abbrev IsSeen : ReadPoint → Type 0
  IsSeen at = IsKnown sight.place sight.cells sight.workers (target (read_verb sight at))

  seen_ring : (at : RingPoint) → RingFits sight.place at
      → IsKnown sight.place sight.cells sight.workers (target (ring_verb sight.place at))
  seen_ring (SlotHead slot) l = (refl, l)
  seen_ring (SlotEnding slot header) l = (refl, l)
  seen_ring (SlotWords slot header got) l = ((refl, l.0), l.1)
  seen_ring (SlotAgain slot header value) l = (refl, l.0)

  seen_current : (at : CurrentPoint) → CurrentFits sight.place at → IsSeen (ReadCurrent at)
  seen_current CurrentHead l = refl
  seen_current (CurrentWords header got) l = (refl, l)
  seen_current (CurrentAgain header value) l = refl

  seen_cell : (at : CellPoint) → CellFits sight.cells sight.place at → IsSeen (ReadCells at)
  seen_cell (CellTag cell) l = (refl, l)
  seen_cell (CellOwner cell tag) l = (refl, l)
  seen_cell (CellBegin cell tag) l = (refl, l)
  seen_cell (CellEnding cell tag header) l = (refl, l)
  seen_cell (CellWords cell tag header got) l =
      cell_field sight.place fits.place sight.cells (CellWords cell tag header got) l
  seen_cell (CellAgain cell tag header value) l = (refl, l.0)

  pub read_field : (at : ReadPoint) → ReadFits sight at → IsSeen at
  read_field (ReadCurrent at) l = seen_current at l
  read_field (ReadUnsure value header at) l = seen_ring at l.1
  read_field (ReadRecheck value header) l = refl
  read_field (ReadRing at) l = seen_ring at l
  read_field (ReadCells at) l = seen_cell at l
  read_field (ReadHorizon worker) l = l

-- 5. Of a path

-- a table's rows follow each other
pub row_after : (tables : List Table) (table position : ℕ)
    → row_of tables table 0 + position ≡ row_of tables table position
row_after [] table position = omega arith
row_after (t ∷ ts) zero position = omega arith
row_after (t ∷ ts) (suc table) position =
    add_assoc t.capacity (row_of ts table 0) position ∙ ap (λ n. t.capacity + n) (row_after ts table position)

pub key_is : (shape : Shape) (table key passed : ℕ)
    → nth_key (path_of shape table key) passed
    ≡ Key (row_of shape.tables table (nth_position (path_of shape table key) passed))
key_is shape table key passed = ap Key (row_after shape.tables table (nth_position (path_of shape table key) passed))

pub row_within : (shape : Shape) (table position : ℕ) → IsTableOf shape table → position < capacity_of shape table
    → IsRow shape (row_of shape.tables table position)
row_within shape table position is l = (position_is_row shape.tables table position (is, l)).within

pub path_field : (shape : Shape) (table key passed : ℕ) → IsTableOf shape table
    → FindFits (capacity_of shape table) passed
    → IsRow shape (row_of shape.tables table (nth_position (path_of shape table key) passed))
path_field shape table key passed is l =
    row_within shape table (nth_position (path_of shape table key) passed) is (omega arith)

-- 6. The laws

pub place_verbs : PlaceVerbsLaw
place_verbs place fits = record {
  current = current_field place fits;
  recheck = refl;
  words = λ got l. (refl, l);
  install = install_field place fits;
  slot = slot_field place fits;
  copy = copy_field place fits;
  ring = ring_field place fits;
}

pub cell_verbs : CellVerbsLaw
cell_verbs cells place fits = record {
  search = cell_field place fits cells;
  claim = claim_field place fits cells;
  fill = fill_field place fits cells;
}
