-- What is claimed of cells and the moves that fill them holds at the opening, and each step keeps it.
use Rattle.nam_calls.specs.Memory.{memory}
use Rattle.nam_catalog.specs.Fits.{FitsLimits}
use Rattle.nam_catalog.specs.declared.shape.Shape.{Shape}
use Rattle.nam_filled.specs.Filled.{FilledOk}
use Rattle.nam_filled.specs.Holders.{Holders, holders_next, no_holders}
use Rattle.nam_ghost.specs.Cells.{IsElsewhere}
use Rattle.nam_ghost.specs.Chains.{IsNew}
use Rattle.nam_ghost.specs.Copiers.{SlotsOk}
use Rattle.nam_ghost.specs.Ghost.{Ghost, ghost_step, opening_ghost}
use Rattle.nam_ghost.specs.Keys.{KeysNext, KeysOk}
use Rattle.nam_ghost.specs.Moments.{observer_of}
use Rattle.nam_ghost.specs.Slots.{RowNext}
use Rattle.nam_ghost.specs.Upkeep.{CellsOk}
use Rattle.nam_layout.specs.Address.{IsRow}
use Rattle.nam_layout.specs.Place.{place_at}
use Rattle.nam_layout.specs.Rows.{width_at}
use Rattle.nam_store.specs.Base.{BaseOk}
use Rattle.nam_store.specs.Opening.{AreLoaded, opening_store}
use Rattle.nam_store.specs.Store.{StepsTo, Store}
use Rattle.si_model.specs.declared.row.Row.{Row}
use Rattle.std.specs.Prelude.{List, map, ℕ}

-- What the law of words says before a step, and of the step: each row goes on as it may, and no key word that stands is
-- changed.
pub record RestsOn (shape : Shape) (before after : Store) (goes : StepsTo shape before after) (ghost : Ghost)
    : Type 0 where
  pub base : BaseOk shape before
  pub slots : SlotsOk shape before ghost.chains ghost.rings
  pub cells : CellsOk shape before ghost.chains ghost.rings ghost.cells
  pub keys : KeysOk shape before ghost.chains
  pub rows : (row : ℕ) → IsRow shape row → let later = ghost_step shape before after goes ghost in
      RowNext (place_at shape row)
      (IsElsewhere shape ghost.chains ghost.rings (memory shape before.words) ghost.cells row)
      (IsNew (width_at shape.tables row) (map observer_of before.clients))
      (ghost.chains row) (ghost.rings row) (later.chains row) (later.rings row)
  pub bears : KeysNext shape (memory shape before.words) (memory shape after.words)

abbrev pub OpensLaw : Type 0
OpensLaw = (shape : Shape) → FitsLimits shape → (rows : List Row) → AreLoaded shape rows
    → FilledOk shape (opening_store shape rows) (opening_ghost shape rows) no_holders

abbrev pub KeepsLaw : Type 0
KeepsLaw = (shape : Shape) (before after : Store) (goes : StepsTo shape before after) (ghost : Ghost)
    (holders : Holders) → RestsOn shape before after goes ghost → FilledOk shape before ghost holders
    → FilledOk shape after (ghost_step shape before after goes ghost)
    (holders_next shape before after goes holders)
