-- What readers rely on holds at the opening, and each step keeps it.
use Rattle.std.specs.Prelude.{List, map, ℕ}
use Rattle.nam_calls.specs.Memory.{memory}
use Rattle.nam_catalog.specs.Fits.{FitsLimits}
use Rattle.nam_catalog.specs.declared.shape.Shape.{Shape}
use Rattle.nam_ghost.specs.Cells.{IsElsewhere}
use Rattle.nam_ghost.specs.Chains.{ChainsOk, IsNew}
use Rattle.nam_ghost.specs.Copiers.{SlotsOk}
use Rattle.nam_ghost.specs.Ghost.{Ghost, ghost_step, opening_ghost}
use Rattle.nam_ghost.specs.Locks.{LocksOk}
use Rattle.nam_ghost.specs.Moments.{EntriesRise, MomentsOk, observer_of}
use Rattle.nam_ghost.specs.Reads.{ReadsOk}
use Rattle.nam_ghost.specs.Slots.{RowNext}
use Rattle.nam_ghost.specs.Stepping.{stepping}
use Rattle.nam_ghost.specs.Upkeep.{CellsNext, CellsOk}
use Rattle.nam_layout.specs.Address.{IsRow}
use Rattle.nam_layout.specs.Place.{place_at}
use Rattle.nam_layout.specs.Rows.{width_at}
use Rattle.nam_store.specs.Base.{BaseOk}
use Rattle.nam_store.specs.Opening.{AreLoaded, opening_store}
use Rattle.nam_store.specs.Store.{StepsTo, Store}
use Rattle.si_model.specs.declared.row.Row.{Row}

module _ (shape : Shape) where
  -- what the law of words says of a store, as far as a read needs it
  pub record Stands (store : Store) (ghost : Ghost) : Type 0 where
    pub base : BaseOk shape store
    pub moments : MomentsOk shape store
    pub locks : LocksOk shape store ghost.chains
    pub chains : ChainsOk shape store ghost.chains
    pub slots : SlotsOk shape store ghost.chains ghost.rings
    pub cells : CellsOk shape store ghost.chains ghost.rings ghost.cells
    pub reads : ReadsOk shape store ghost.chains ghost.rings ghost.cells

  -- So it is before a step; and of the step other groups show that each row goes on as it may, where the moved flag is
  -- set only at a version that stands elsewhere, and a version that is installed is in no snapshot that was taken; and
  -- that cells and the horizon go on as they may; and that no entry of the vector falls.
  pub record Ready (before after : Store) (goes : StepsTo shape before after) (ghost : Ghost) : Type 0 where
    pub stands : Stands before ghost
    pub rows : (row : ℕ) → IsRow shape row → let later = ghost_step shape before after goes ghost in
        RowNext (place_at shape row)
        (IsElsewhere shape ghost.chains ghost.rings (memory shape before.words) ghost.cells row)
        (IsNew (width_at shape.tables row) (map observer_of before.clients)) (ghost.chains row) (ghost.rings row)
        (later.chains row) (later.rings row)
    pub next : let later = ghost_step shape before after goes ghost in
        CellsNext shape (memory shape before.words) (memory shape after.words) later.chains later.rings ghost.cells
        later.cells (stepping shape before after goes)
    pub vector : EntriesRise shape before after

abbrev pub OpensLaw : Type 0
OpensLaw = (shape : Shape) → FitsLimits shape → (rows : List Row) → AreLoaded shape rows
    → let ghost = opening_ghost shape rows in
    ReadsOk shape (opening_store shape rows) ghost.chains ghost.rings ghost.cells

abbrev pub KeepsLaw : Type 0
KeepsLaw = (shape : Shape) (before after : Store) (goes : StepsTo shape before after) (ghost : Ghost)
    → Ready shape before after goes ghost → let later = ghost_step shape before after goes ghost in
    ReadsOk shape after later.chains later.rings later.cells
