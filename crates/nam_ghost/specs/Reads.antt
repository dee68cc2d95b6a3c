-- Reads by eight steps: what a reader may rely on at each of its points.
use Rattle.nam_calls.specs.Fits.{HasWidth}
use Rattle.nam_calls.specs.Memory.{memory}
use Rattle.nam_calls.specs.declared.overflow.CellPoint.{CellPoint}
use Rattle.nam_calls.specs.declared.overflow.CellPoint.TheVariants.{CellAgain, CellBegin, CellEnding, CellOwner}
use Rattle.nam_calls.specs.declared.overflow.CellPoint.TheVariants.{CellTag, CellWords}
use Rattle.nam_calls.specs.declared.reading.ReadPoint.{ReadPoint}
use Rattle.nam_calls.specs.declared.reading.ReadPoint.TheVariants.{ReadCells, ReadCurrent, ReadHorizon, ReadRecheck}
use Rattle.nam_calls.specs.declared.reading.ReadPoint.TheVariants.{ReadRing, ReadUnsure}
use Rattle.nam_calls.specs.declared.reading.ReadingEnd.{ReadingEnd}
use Rattle.nam_calls.specs.declared.reading.ReadingEnd.TheVariants.{Astray, Got, Passed}
use Rattle.nam_calls.specs.declared.record.CurrentPoint.{CurrentPoint}
use Rattle.nam_calls.specs.declared.record.CurrentPoint.TheVariants.{CurrentAgain, CurrentHead, CurrentWords}
use Rattle.nam_calls.specs.declared.ring.RingPoint.{RingPoint}
use Rattle.nam_catalog.specs.declared.form.Form.{Form}
use Rattle.nam_catalog.specs.declared.shape.Shape.{Shape}
use Rattle.nam_ghost.specs.Cells.{CellMap, IsElsewhere, IsEnded, IsOverflowed, Stores, copied_at, end_at}
use Rattle.nam_ghost.specs.Slots.{Ring}
use Rattle.nam_ghost.specs.Versions.{Chain, HasData, HasGot, IsNth, Version, current_number, old_word}
use Rattle.nam_ghost.specs.Wanted.{IsNewest, RingAt, Wanted}
use Rattle.nam_header.specs.Stamp.{FitsStamp, stamp_in}
use Rattle.nam_header.specs.Visible.{is_visible}
use Rattle.nam_layout.specs.Place.{bucket_of}
use Rattle.nam_layout.specs.Rows.{width_at}
use Rattle.nam_layout.specs.declared.field.Field.{Field}
use Rattle.nam_layout.specs.declared.field.Field.TheVariants.{Horizon, Tag}
use Rattle.nam_layout.specs.declared.field.Place.{Place}
use Rattle.nam_protocol.specs.Reader.{Reader, reader_of}
use Rattle.nam_store.specs.Everyone.{Everyone}
use Rattle.nam_store.specs.Store.{Store}
use Rattle.nam_verbs.specs.declared.now.Now.{Now}
use Rattle.nam_verbs.specs.declared.now.Now.TheVariants.{At, Over}
use Rattle.std.specs.Prelude.{Bool, List, None, Option, Some, [], false, is_some, slice_index, true, ℕ, ◌+◌, ◌-◌, ◌<◌}
use Rattle.std.specs.Prelude.{◌≡◌, ◌≤◌, ◌⊎◌}

-- 1. Of the row alone: the current version, and the rings

-- the header that was read as the current one is of the wanted version, which has a value
pub record HeaderRead (form : Form) (seen : List ℕ) (chain : Chain) (header number : ℕ) (version : Version)
    : Type 0 where
  pub wanted : Wanted seen chain number version
  pub stamp_is : stamp_in form header ≡ version.stamp
  pub some : is_some version.value ≡ true

module _ (place : Place) (seen : List ℕ) (chain : Chain) (ring : Ring) (Elsewhere : ℕ → Type 0) where
  -- What was got under the header is the version's, as long as it is the current one and no data word of the next one
  -- is written; once one is, its slot has it whole.
  abbrev pub CurrentWith : ℕ → List ℕ → Type 0
  CurrentWith header got = (number : ℕ) × (version : Version) × HeaderRead place.form seen chain header number version
      × (number ≡ current_number chain → chain.dirty ≡ false → HasGot got version.value)

  -- step 1 to 3: the current version
  abbrev pub CurrentAt : CurrentPoint → Type 0
  CurrentAt CurrentHead = Unit {0}
  CurrentAt (CurrentWords header got) = CurrentWith header got
  CurrentAt (CurrentAgain header value) = CurrentWith header value

  -- the data that were read are the version's, or the header bears another stamp by now
  abbrev pub IsUnsure : List ℕ → ℕ → Version → Type 0
  IsUnsure value number version =
      HasData place.width (slice_index value) version.value ⊎ (number < current_number chain)

  -- step 4, the ring under a locked record: it is ahead, or the data are right, or the header is another
  abbrev pub UnsureAt : List ℕ → ℕ → RingPoint → Type 0
  UnsureAt value header at =
      (number : ℕ) × (version : Version) × HeaderRead place.form seen chain header number version
      × RingAt place seen chain ring (IsUnsure value number version) number at

  -- step 5: the header once more
  abbrev pub RecheckAt : List ℕ → ℕ → Type 0
  RecheckAt value header =
      (number : ℕ) × (version : Version) × HeaderRead place.form seen chain header number version
      × IsUnsure value number version

  -- the wanted version is old
  abbrev pub WantsOld : ℕ → Version → Type 0
  WantsOld number version = Wanted seen chain number version × (number < current_number chain)

  -- step 6, the ring again: the wanted version is ahead, or stands elsewhere
  abbrev pub OldRingAt : RingPoint → Type 0
  OldRingAt at = (number : ℕ) × (version : Version) × WantsOld number version
      × RingAt place seen chain ring (Elsewhere number) number at

-- 2. The cells and the horizon

module _ (shape : Shape) (chains : ℕ → Chain) (rings : ℕ → Ring) (m : Field → ℕ) (cells : CellMap)
    (seen : List ℕ) (row : ℕ) where
  -- what was read of a cell, by the version there
  pub record CellTest (cell header : ℕ) (got : List ℕ) (ended : Bool) : Type 0 where
    pub number : ℕ
    pub version : Version
    pub stored : cells (bucket_of shape row) cell ≡ Stores row number
    pub was_copied : number < copied_at shape chains rings row
    pub is : IsNth (chains row) number version
    pub fits : FitsStamp shape.form version.stamp
    pub header_is : header ≡ old_word shape.form false version
    pub sees : is_visible version.stamp seen ≡ true
    pub hidden : ended ≡ true → is_visible (end_at shape chains rings row number) seen ≡ false
    pub words : HasGot got version.value

  -- The wanted version is after this cell, or has ended, or is in this cell under the tag that was read. It isn't only
  -- 'in a full cell from this one on': while a cell is tested its tag may be exchanged, and the version stand in a cell
  -- before, since two movers may put one version into two cells.
  abbrev pub IsAheadOf : ℕ → ℕ → ℕ → Type 0
  IsAheadOf number cell tag =
      IsOverflowed shape chains rings m cells (cell + 1) row number
      ⊎ ((m (Tag (bucket_of shape row) cell) ≡ tag) × (cells (bucket_of shape row) cell ≡ Stores row number))

  -- as long as the cell bears the tag that was read; tags never fall, so the claim stays
  abbrev pub UnderTag : ℕ → ℕ → Type 0 → Type 0
  UnderTag cell tag Claim =
      (tag ≤ m (Tag (bucket_of shape row) cell)) × (m (Tag (bucket_of shape row) cell) ≡ tag → Claim)

  -- step 7: the cells of the row's bucket
  abbrev pub CellsAt : ℕ → CellPoint → Type 0
  CellsAt number (CellTag cell) = IsOverflowed shape chains rings m cells cell row number
  CellsAt number (CellOwner cell tag) = IsAheadOf number cell tag
      × UnderTag cell tag ((r : ℕ) × (n : ℕ) × (cells (bucket_of shape row) cell ≡ Stores r n))
  CellsAt number (CellBegin cell tag) = IsAheadOf number cell tag
      × UnderTag cell tag ((n : ℕ) × (cells (bucket_of shape row) cell ≡ Stores row n))
  CellsAt number (CellEnding cell tag header) =
      IsAheadOf number cell tag × UnderTag cell tag (CellTest cell header [] false)
  CellsAt number (CellWords cell tag header got) =
      IsAheadOf number cell tag × UnderTag cell tag (CellTest cell header got true)
  CellsAt number (CellAgain cell tag header value) =
      IsAheadOf number cell tag × UnderTag cell tag (CellTest cell header value true)

  -- step 8: the wanted version has ended within the horizon, and a horizon entry from this worker on is above the
  -- snapshot's, so that one is found
  abbrev pub HorizonAt : ℕ → ℕ → Type 0
  HorizonAt number worker =
      IsEnded shape chains rings m cells row number
      × ((above : ℕ) × (worker ≤ above) × (1 ≤ above) × (above ≤ shape.workers)
      × (slice_index seen (above - 1) < m (Horizon above)))

  -- 3. The whole read at a row's place

  abbrev pub ReadOkAt : Place → ReadPoint → Type 0
  ReadOkAt place (ReadCurrent at) = CurrentAt place seen (chains row) (rings row)
      (IsElsewhere shape chains rings m cells row) at
  ReadOkAt place (ReadUnsure value header at) = UnsureAt place seen (chains row) (rings row)
      (IsElsewhere shape chains rings m cells row) value header at
  ReadOkAt place (ReadRecheck value header) = RecheckAt place seen (chains row) (rings row)
      (IsElsewhere shape chains rings m cells row) value header
  ReadOkAt place (ReadRing at) = OldRingAt place seen (chains row) (rings row)
      (IsElsewhere shape chains rings m cells row) at
  ReadOkAt place (ReadCells at) = (number : ℕ) × (version : Version)
      × WantsOld place seen (chains row) (rings row) (IsElsewhere shape chains rings m cells row) number version
      × CellsAt number at
  ReadOkAt place (ReadHorizon worker) = (number : ℕ) × (version : Version)
      × WantsOld place seen (chains row) (rings row) (IsElsewhere shape chains rings m cells row) number version
      × HorizonAt number worker

  -- What a read may come to: the newest version that its snapshot sees, whole; or the wanted version has ended within
  -- the horizon, of which the entry that is told is above the snapshot's; never astray.
  abbrev pub ReadEndsAs : Now ReadPoint ReadingEnd → Type 0
  ReadEndsAs (At at) = Unit {0}
  ReadEndsAs (Over (Got value)) =
      IsNewest seen (chains row) value × HasWidth (width_at shape.tables row) value
  ReadEndsAs (Over (Passed worker entry horizon)) =
      (entry ≡ slice_index seen (worker - 1)) × (horizon ≡ m (Horizon worker)) × (entry < horizon)
      × ((number : ℕ) × (version : Version) × Wanted seen (chains row) number version
      × IsEnded shape chains rings m cells row number)
  ReadEndsAs (Over Astray) = ⊥

-- 4. Of a store: each client that reads, in an operation or in a scan

module _ (shape : Shape) (chains : ℕ → Chain) (rings : ℕ → Ring) (m : Field → ℕ) (cells : CellMap) where
  abbrev pub ReaderOk : Option Reader → Type 0
  ReaderOk None = Unit {0}
  ReaderOk (Some reader) = ReadOkAt shape chains rings m cells reader.seen reader.sight.place.row
      reader.sight.place reader.at

abbrev pub ReadsOk : Shape → Store → (ℕ → Chain) → (ℕ → Ring) → CellMap → Type 0
ReadsOk shape store chains rings cells =
    Everyone (λ nth client. ReaderOk shape chains rings (memory shape store.words) cells (reader_of shape client))
    store.clients
