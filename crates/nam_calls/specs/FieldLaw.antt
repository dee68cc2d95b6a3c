-- Each verb is at a field of what its call was given: a position, a bucket's cells, the workers' entries, or a path.
use Rattle.std.specs.Prelude.{◌≡◌, ℕ, ◌<◌, List, Option}
use Rattle.si_model.specs.declared.log.Stamp.{Stamp}
use Rattle.nam_verbs.specs.VerbAt.{target}
use Rattle.nam_catalog.specs.declared.shape.Shape.{Shape}
use Rattle.nam_layout.specs.declared.field.Field.TheVariants.{Key}
use Rattle.nam_layout.specs.declared.field.Place.{Place}
use Rattle.nam_layout.specs.declared.field.Cells.{Cells}
use Rattle.nam_layout.specs.Rows.{row_of}
use Rattle.nam_layout.specs.Address.{IsRow}
use Rattle.nam_layout.specs.PlaceFits.{FitsPlace}
use Rattle.nam_layout.specs.Known.{IsOfPlace, IsOfCells, IsKnown}
use Rattle.nam_calls.specs.declared.record.CurrentPoint.{CurrentPoint}
use Rattle.nam_calls.specs.declared.record.InstallPoint.{InstallPoint}
use Rattle.nam_calls.specs.declared.ring.SlotPoint.{SlotPoint}
use Rattle.nam_calls.specs.declared.ring.CopyPoint.{CopyPoint}
use Rattle.nam_calls.specs.declared.ring.RingPoint.{RingPoint}
use Rattle.nam_calls.specs.declared.overflow.CellPoint.{CellPoint}
use Rattle.nam_calls.specs.declared.overflow.ClaimPoint.{ClaimPoint}
use Rattle.nam_calls.specs.declared.overflow.Version.{Version}
use Rattle.nam_calls.specs.declared.overflow.FillPoint.{FillPoint}
use Rattle.nam_calls.specs.declared.mover.MovePoint.{MovePoint}
use Rattle.nam_calls.specs.declared.horizon.CollectPoint.{CollectPoint}
use Rattle.nam_calls.specs.declared.reading.Sight.{Sight}
use Rattle.nam_calls.specs.declared.reading.ReadPoint.{ReadPoint}
use Rattle.nam_calls.specs.Words.{capacity_of, path_of}
use Rattle.nam_calls.specs.Index.{nth_position, nth_key}
use Rattle.nam_calls.specs.Record.{current_verb, recheck_verb, words_verb, install_verb}
use Rattle.nam_calls.specs.Ring.{slot_verb, copy_verb, ring_verb}
use Rattle.nam_calls.specs.Overflow.{cell_verb, claim_verb, fill_verb}
use Rattle.nam_calls.specs.Mover.{move_verb}
use Rattle.nam_calls.specs.Horizon.{collect_verb}
use Rattle.nam_calls.specs.Reading.{read_verb}
use Rattle.nam_calls.specs.Fits.{CurrentFits, WordsFit, InstallFits, CopyFits, RingFits, CellFits, ClaimFits}
use Rattle.nam_calls.specs.Fits.{FillFits}
use Rattle.nam_calls.specs.Fits.{MoveFits, CollectFits, SightFits, ReadFits, FindFits, IsTableOf}

-- 1. Of a position

pub record PlaceVerbs (place : Place) : Type 0 where
  pub current : (at : CurrentPoint) → CurrentFits place at → IsOfPlace place (target (current_verb place at))
  pub recheck : IsOfPlace place (target (recheck_verb place))
  pub words : (got : List ℕ) → WordsFit place got → IsOfPlace place (target (words_verb place got))
  pub install : (value : Option (List ℕ)) (count header : ℕ) (at : InstallPoint) → InstallFits place at
      → IsOfPlace place (target (install_verb place value count header at))
  pub slot : (at : SlotPoint) → IsOfPlace place (target (slot_verb place at))
  pub copy : (count header : ℕ) (old : List ℕ) (ending : Stamp) (at : CopyPoint) → CopyFits place at
      → IsOfPlace place (target (copy_verb place count header old ending at))
  pub ring : (at : RingPoint) → RingFits place at → IsOfPlace place (target (ring_verb place at))

abbrev pub PlaceVerbsLaw : Type 0
PlaceVerbsLaw = (place : Place) → FitsPlace place → PlaceVerbs place

-- 2. Of a bucket's cells, whose values are no wider than a position's

pub record CellVerbs (cells : Cells) (place : Place) : Type 0 where
  pub search : (at : CellPoint) → CellFits cells place at → IsOfCells cells (target (cell_verb cells at))
  pub claim : (at : ClaimPoint) → ClaimFits cells at → IsOfCells cells (target (claim_verb cells at))
  pub fill : (cell owner : ℕ) (version : Version) (at : FillPoint) → cell < cells.cells → FillFits place.width at
      → IsOfCells cells (target (fill_verb cells cell owner version at))

abbrev pub CellVerbsLaw : Type 0
CellVerbsLaw = (cells : Cells) (place : Place) → FitsPlace place → CellVerbs cells place

-- 3. Of both, and of the workers' entries

abbrev pub MoveVerbsLaw : Type 0
MoveVerbsLaw = (place : Place) (cells : Cells) (workers : ℕ) → FitsPlace place → (at : MovePoint)
    → MoveFits place cells at → IsKnown place cells workers (target (move_verb place cells at))

abbrev pub CollectVerbsLaw : Type 0
CollectVerbsLaw = (place : Place) (cells : Cells) (workers : ℕ) (seen : List ℕ) (at : CollectPoint)
    → CollectFits cells workers at → IsKnown place cells workers (target (collect_verb cells seen at))

abbrev pub ReadVerbsLaw : Type 0
ReadVerbsLaw = (sight : Sight) → SightFits sight → (at : ReadPoint) → ReadFits sight at
    → IsKnown sight.place sight.cells sight.workers (target (read_verb sight at))

-- 4. Of a path: the key words of the table's positions

abbrev pub PathLaw : Type 0
PathLaw = (shape : Shape) (table key passed : ℕ) → IsTableOf shape table → FindFits (capacity_of shape table) passed
    → let row = row_of shape.tables table (nth_position (path_of shape table key) passed) in
    (nth_key (path_of shape table key) passed ≡ Key row) × IsRow shape row
