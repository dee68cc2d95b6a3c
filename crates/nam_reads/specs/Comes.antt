-- What a word of a read leads to: on, to a point where the reader may rely on what is claimed there, or to an end that
-- tells the truth.
use Rattle.std.specs.Prelude.{List, Option, slice_index, ℕ, ◌-◌, ◌<◌, ◌≡◌}
use Rattle.nam_calls.specs.Horizon.{old_begin}
use Rattle.nam_calls.specs.declared.horizon.OldEnd.{OldEnd}
use Rattle.nam_calls.specs.declared.horizon.OldEnd.TheVariants.{NotPassed, TooOld}
use Rattle.nam_calls.specs.declared.overflow.CellPoint.{CellPoint}
use Rattle.nam_calls.specs.declared.reading.ReadPoint.{ReadPoint}
use Rattle.nam_calls.specs.declared.reading.ReadingEnd.{ReadingEnd}
use Rattle.nam_calls.specs.declared.reading.Sight.{Sight}
use Rattle.nam_calls.specs.declared.ring.SearchEnd.{SearchEnd}
use Rattle.nam_calls.specs.declared.ring.SearchEnd.TheVariants.{Found, NotThere}
use Rattle.nam_catalog.specs.declared.shape.Shape.{Shape}
use Rattle.nam_ghost.specs.Cells.{CellMap, IsEnded}
use Rattle.nam_ghost.specs.Reads.{CellsAt, HorizonAt, ReadEndsAs, ReadOkAt}
use Rattle.nam_ghost.specs.Slots.{Ring}
use Rattle.nam_ghost.specs.Versions.{Chain}
use Rattle.nam_layout.specs.Place.{bucket_of, cells_of, place_at}
use Rattle.nam_layout.specs.declared.field.Field.{Field}
use Rattle.nam_layout.specs.declared.field.Field.TheVariants.{Horizon}
use Rattle.nam_verbs.specs.declared.now.Now.{Now}
use Rattle.nam_verbs.specs.declared.now.Now.TheVariants.{At, Over}

-- where a read at a row looks
abbrev pub row_sight : Shape → ℕ → Sight
row_sight shape row = record {
  place = place_at shape row;
  cells = cells_of shape (bucket_of shape row);
  workers = shape.workers;
}

module _ (shape : Shape) (chains : ℕ → Chain) (rings : ℕ → Ring) (m : Field → ℕ) (cells : CellMap) (seen : List ℕ)
    (row : ℕ) where
  abbrev pub Comes : Now ReadPoint ReadingEnd → Type 0
  Comes (At at) = ReadOkAt shape chains rings m cells seen row (place_at shape row) at
  Comes (Over end) = ReadEndsAs shape chains rings m cells seen row (Over end)

  -- of a search of the cells for the version of this number and value: on, or to the value, or to the horizon, of which
  -- an entry is above the snapshot's then
  abbrev pub CellsCome : ℕ → Option (List ℕ) → Now CellPoint SearchEnd → Type 0
  CellsCome number value (At at) = CellsAt shape chains rings m cells seen row number at
  CellsCome number value (Over (Found got)) = got ≡ value
  CellsCome number value (Over NotThere) = HorizonAt shape chains rings m cells seen row number old_begin

  -- of the look at the horizon: on, or to an entry that is above the snapshot's
  abbrev pub HorizonComes : ℕ → Now ℕ OldEnd → Type 0
  HorizonComes number (At worker) = HorizonAt shape chains rings m cells seen row number worker
  HorizonComes number (Over (TooOld worker entry horizon)) =
      (entry ≡ slice_index seen (worker - 1)) × (horizon ≡ m (Horizon worker)) × (entry < horizon)
      × IsEnded shape chains rings m cells row number
  HorizonComes number (Over NotPassed) = ⊥
