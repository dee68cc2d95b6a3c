-- Cells and the horizon: what each cell holds, and where an old version stands.
use Rattle.nam_catalog.specs.declared.shape.Shape.{Shape}
use Rattle.nam_ghost.specs.Slots.{Keeps, Kept, Ring, copied_count, home}
use Rattle.nam_ghost.specs.Versions.{CellImage, Chain, HasData, IsNth, Version, cell_image, current_number, old_word}
use Rattle.nam_ghost.specs.Versions.{versions}
use Rattle.nam_header.specs.Stamp.{FitsStamp, stamp_word}
use Rattle.nam_header.specs.Tag.{state_of}
use Rattle.nam_layout.specs.Address.{IsCell, IsRow}
use Rattle.nam_layout.specs.Place.{bucket_of, place_at}
use Rattle.nam_layout.specs.Rows.{width_at}
use Rattle.nam_layout.specs.declared.field.Field.{Field}
use Rattle.nam_layout.specs.declared.field.Field.TheVariants.{Entry, Horizon}
use Rattle.nam_layout.specs.declared.field.Place.{Place}
use Rattle.si_model.specs.declared.log.Stamp.{Stamp}
use Rattle.std.specs.Prelude.{None, Option, Some, false, if◌then◌else◌, slice_get, true, ℕ, ◌&&◌, ◌+◌, ◌<◌, ◌==◌, ◌≡◌}
use Rattle.std.specs.Prelude.{◌≤◌, ◌⊎◌}

-- a cell is free, or is written by the worker that claimed it, or holds a version of a row
pub data Cell : Type 0 where
  FreeCell : Cell
  ClaimedBy : (worker : ℕ) → Cell
  Stores : (row number : ℕ) → Cell

-- by bucket and cell
abbrev pub CellMap : Type 0
CellMap = ℕ → ℕ → Cell

abbrev pub put_cell : CellMap → ℕ → ℕ → Cell → CellMap
put_cell cells bucket cell x b c = if (b == bucket) && (c == cell) then x else cells b c

-- 1. The end of a version: the next version's stamp, or while there is none the end of the copy in its slot

abbrev pub end_by : Option Version → Option Kept → Stamp
end_by (Some next) slot = next.stamp
end_by None (Some kept) = kept.next
end_by None None = record { thread = 0; number = 0 }

-- of a copied version it never changes again, whatever becomes of its slot
abbrev pub version_end : Place → Chain → Ring → ℕ → Stamp
version_end place chain ring number = end_by (slice_get (versions chain) (number + 1)) (ring.kept (home place number))

-- a worker's stamp, which its horizon entry has reached
abbrev pub IsBelowHorizon : (Field → ℕ) → ℕ → Stamp → Type 0
IsBelowHorizon m workers stamp =
    (1 ≤ stamp.thread) × (stamp.thread ≤ workers) × (stamp.number ≤ m (Horizon stamp.thread))

module _ (shape : Shape) (chains : ℕ → Chain) (rings : ℕ → Ring) where
  abbrev pub copied_at : ℕ → ℕ
  copied_at row = copied_count (chains row) (rings row)

  abbrev pub end_at : ℕ → ℕ → Stamp
  end_at row number = version_end (place_at shape row) (chains row) (rings row) number

  -- 2. A cell's words

  -- they say a copied version of a row, whole: the row as owner, its header as begin, its end, and its data
  pub record IsWhole (row number : ℕ) (image : CellImage) : Type 0 where
    pub inside : IsRow shape row
    pub was_copied : number < copied_at row
    pub version : Version
    pub version_is : IsNth (chains row) number version
    pub fits : FitsStamp shape.form version.stamp
    pub end_fits : FitsStamp shape.form (end_at row number)
    pub owner_is : image.owner ≡ row
    pub begin_is : image.begin ≡ old_word shape.form false version
    pub ending_is : image.ending ≡ stamp_word shape.form (end_at row number)
    pub data_is : HasData (width_at shape.tables row) image.body version.value

  -- The tag says whether the cell is free, written or full; a full cell holds one version whole, and stands in its
  -- owner's bucket. A tag never falls, and each full tag of a cell is of another generation, so under one tag a cell
  -- holds one version alone.
  abbrev pub CellIs : ℕ → CellImage → Cell → Type 0
  CellIs bucket image FreeCell = state_of image.tag ≡ 0
  CellIs bucket image (ClaimedBy worker) = state_of image.tag ≡ 1
  CellIs bucket image (Stores row number) =
      (state_of image.tag ≡ 2) × (bucket ≡ bucket_of shape row) × IsWhole row number image

  abbrev pub CellsAre : (Field → ℕ) → CellMap → Type 0
  CellsAre m cells =
      (bucket cell : ℕ) → IsCell shape bucket cell → CellIs bucket (cell_image m bucket cell) (cells bucket cell)

  -- 3. Where an old version stands

  module _ (m : Field → ℕ) (cells : CellMap) where
    -- in a full cell of its row's bucket, from this one on
    abbrev pub InCell : ℕ → ℕ → ℕ → Type 0
    InCell from row number =
        (cell : ℕ) × (from ≤ cell) × (cell < shape.cells) × (cells (bucket_of shape row) cell ≡ Stores row number)

    -- its end is within the horizon, so that no snapshot that is still good needs it
    abbrev pub IsEnded : ℕ → ℕ → Type 0
    IsEnded row number = IsBelowHorizon m shape.workers (end_at row number)

    abbrev pub IsOverflowed : ℕ → ℕ → ℕ → Type 0
    IsOverflowed from row number = InCell from row number ⊎ IsEnded row number

    -- a copied version that needs its slot no longer
    abbrev pub IsElsewhere : ℕ → ℕ → Type 0
    IsElsewhere row number = IsRow shape row × (number < copied_at row) × IsOverflowed 0 row number

-- Each old version is kept by its slot, or stands elsewhere; and where a slot keeps a version that was moved, that
-- version stands elsewhere already. Why: a mover fills a cell before it sets the flag, the mark is written only over
-- the flag, and a collector frees a cell only where the version's end is within the horizon.
pub record OldOk (place : Place) (Elsewhere : ℕ → Type 0) (chain : Chain) (ring : Ring) : Type 0 where
  pub old : (number : ℕ) → number < current_number chain
      → Keeps (ring.kept (home place number)) number ⊎ Elsewhere number
  pub gone : (slot : ℕ) → slot < place.ring → (kept : Kept) → ring.kept slot ≡ Some kept → kept.moved ≡ true
      → Elsewhere kept.number

-- horizon entries are at most the vector's: they are raised only to a snapshot's, which was taken before
abbrev pub IsHorizonBehind : Shape → (Field → ℕ) → Type 0
IsHorizonBehind shape m = (a : ℕ) → a < shape.workers → m (Horizon (a + 1)) ≤ m (Entry (a + 1))
