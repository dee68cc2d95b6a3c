-- One step as cells and readers see it: rows go on as they may, and some words change.
use Rattle.std.specs.Prelude.{ℕ, ◌+◌, ◌<◌, ◌≡◌, ◌≤◌}
use Rattle.nam_catalog.specs.Fits.{FitsLimits}
use Rattle.nam_catalog.specs.declared.shape.Shape.{Shape}
use Rattle.nam_ghost.specs.Cells.{CellMap, CellsAre, IsHorizonBehind, copied_at, end_at}
use Rattle.nam_ghost.specs.Copiers.{RowRing}
use Rattle.nam_ghost.specs.Slots.{Ring, SlotNext}
use Rattle.nam_ghost.specs.Versions.{Chain, IsNth, Version}
use Rattle.nam_layout.specs.Address.{IsRow, IsSlot}
use Rattle.nam_layout.specs.declared.field.Field.{Field}
use Rattle.nam_layout.specs.declared.field.Field.TheVariants.{Entry}

-- Versions stay with their numbers, at least as many are copied, the ends of those that were copied stay, and each slot
-- goes on as it may.
pub record RowsGo (shape : Shape) (chains later : ℕ → Chain) (rings next : ℕ → Ring) : Type 0 where
  pub numbers : (row number : ℕ) (version : Version) → IsRow shape row → IsNth (chains row) number version
      → IsNth (later row) number version
  pub counts : (row : ℕ) → IsRow shape row → copied_at shape chains rings row ≤ copied_at shape later next row
  pub ends : (row number : ℕ) → IsRow shape row → number < copied_at shape chains rings row
      → end_at shape later next row number ≡ end_at shape chains rings row number
  pub slots : (row slot : ℕ) → IsSlot shape row slot
      → SlotNext (copied_at shape chains rings row) ((rings row).kept slot) ((next row).kept slot)

-- A step of the nth client, from the words m to the words now: what holds before, and what others have shown of it.
pub record Turn (shape : Shape) : Type 0 where
  pub limits : FitsLimits shape
  pub chains : ℕ → Chain
  pub later : ℕ → Chain
  pub rings : ℕ → Ring
  pub next : ℕ → Ring
  pub m : Field → ℕ
  pub now : Field → ℕ
  pub cells : CellMap
  pub nth : ℕ
  pub images : (row : ℕ) → IsRow shape row → RowRing shape m row (chains row) (rings row)
  pub once : (row a b : ℕ) (u v : Version) → IsRow shape row → IsNth (chains row) a u → IsNth (chains row) b v
      → u.stamp ≡ v.stamp → a ≡ b
  pub rows : RowsGo shape chains later rings next
  pub vector : (a : ℕ) → a < shape.workers → m (Entry (a + 1)) ≤ now (Entry (a + 1))
  pub are : CellsAre shape chains rings m cells
  pub behind : IsHorizonBehind shape m
