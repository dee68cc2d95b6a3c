-- What is claimed of cells and the horizon holds at the opening, each step keeps it, what a step owes all others; and
-- what that comes to.
use Rattle.std.specs.Prelude.{List, Some, ℕ, ◌+◌, ◌<◌, ◌≡◌, ◌≢◌, ◌≤◌, ◌⊎◌}
use Rattle.nam_calls.specs.Memory.{memory}
use Rattle.nam_catalog.specs.Fits.{FitsLimits}
use Rattle.nam_catalog.specs.declared.shape.Shape.{Shape}
use Rattle.nam_ghost.specs.Cells.{IsElsewhere, IsEnded, IsWhole, Stores}
use Rattle.nam_ghost.specs.Chains.{ChainsOk}
use Rattle.nam_ghost.specs.Copiers.{SlotsOk}
use Rattle.nam_ghost.specs.Ghost.{Ghost, ghost_step, opening_ghost}
use Rattle.nam_ghost.specs.Moments.{EntriesRise, MomentsOk}
use Rattle.nam_ghost.specs.Slots.{Kept, KeptOk, RowNext, home}
use Rattle.nam_ghost.specs.Stepping.{stepping}
use Rattle.nam_ghost.specs.Upkeep.{CellsNext, CellsOk, FlagsElsewhere}
use Rattle.nam_ghost.specs.Versions.{cell_image, current_number, slot_image}
use Rattle.nam_header.specs.Tag.{state_of}
use Rattle.nam_layout.specs.Address.{IsCell, IsRow}
use Rattle.nam_layout.specs.Place.{bucket_of, place_at}
use Rattle.nam_layout.specs.declared.field.Field.TheVariants.{Entry, Horizon, Tag}
use Rattle.nam_store.specs.Base.{BaseOk}
use Rattle.nam_store.specs.Opening.{AreLoaded, opening_store}
use Rattle.nam_store.specs.Store.{StepsTo, Store}
use Rattle.si_model.specs.declared.row.Row.{Row}

-- 1. One step

module _ (shape : Shape) where
  -- What the law of words says before a step, and what other groups show of it: no entry of the vector falls, and what
  -- is said of snapshots holds after it; each row goes on as it may, and the moved flag is set only where the version
  -- stands elsewhere by now.
  pub record Ready (before after : Store) (goes : StepsTo shape before after) (ghost : Ghost) : Type 0 where
    pub base : BaseOk shape before
    pub vector : EntriesRise shape before after
    pub moments : MomentsOk shape after
    pub chains : ChainsOk shape before ghost.chains
    pub slots : SlotsOk shape before ghost.chains ghost.rings
    pub cells : CellsOk shape before ghost.chains ghost.rings ghost.cells
    pub rows : (row : ℕ) → IsRow shape row → let later = ghost_step shape before after goes ghost in
        RowNext (place_at shape row)
        (IsElsewhere shape ghost.chains ghost.rings (memory shape before.words) ghost.cells row) (λ version. Unit {0})
        (ghost.chains row) (ghost.rings row) (later.chains row) (later.rings row)

  abbrev pub CellsAfter : (before after : Store) → StepsTo shape before after → Ghost → Type 0
  CellsAfter before after goes ghost =
      let later = ghost_step shape before after goes ghost in
      CellsOk shape after later.chains later.rings later.cells

-- 2. The group

abbrev pub OpensLaw : Type 0
OpensLaw = (shape : Shape) → FitsLimits shape → (rows : List Row) → AreLoaded shape rows
    → let ghost = opening_ghost shape rows in
    CellsOk shape (opening_store shape rows) ghost.chains ghost.rings ghost.cells

abbrev pub KeepsLaw : Type 0
KeepsLaw = (shape : Shape) (before after : Store) (goes : StepsTo shape before after) (ghost : Ghost)
    → Ready shape before after goes ghost → CellsAfter shape before after goes ghost

-- what the step owes all other clients
abbrev pub NextLaw : Type 0
NextLaw = (shape : Shape) (before after : Store) (goes : StepsTo shape before after) (ghost : Ghost)
    → Ready shape before after goes ghost → let later = ghost_step shape before after goes ghost in
    CellsNext shape (memory shape before.words) (memory shape after.words) later.chains later.rings ghost.cells
    later.cells (stepping shape before after goes)

-- where a mover's next verb sets the moved flag of a slot, the version there stands elsewhere
abbrev pub FlagsLaw : Type 0
FlagsLaw = (shape : Shape) (store : Store) (ghost : Ghost) → BaseOk shape store → ChainsOk shape store ghost.chains
    → SlotsOk shape store ghost.chains ghost.rings → CellsOk shape store ghost.chains ghost.rings ghost.cells
    → FlagsElsewhere shape store ghost.chains ghost.rings ghost.cells

-- 3. What that comes to

-- a cell whose tag says that it is full has one version of its owner, whole, in its owner's bucket
abbrev pub FullLaw : Type 0
FullLaw = (shape : Shape) (store : Store) (ghost : Ghost) → CellsOk shape store ghost.chains ghost.rings ghost.cells
    → (bucket cell : ℕ) → IsCell shape bucket cell → state_of (memory shape store.words (Tag bucket cell)) ≡ 2
    → (row : ℕ) × (number : ℕ) × (bucket ≡ bucket_of shape row)
    × IsWhole shape ghost.chains ghost.rings row number (cell_image (memory shape store.words) bucket cell)

-- a horizon entry never falls, and is at most the vector's
abbrev pub HorizonLaw : Type 0
HorizonLaw = (shape : Shape) (before after : Store) (goes : StepsTo shape before after) (ghost : Ghost)
    → Ready shape before after goes ghost → (a : ℕ) → a < shape.workers
    → (memory shape before.words (Horizon (a + 1)) ≤ memory shape after.words (Horizon (a + 1)))
    × (memory shape after.words (Horizon (a + 1)) ≤ memory shape after.words (Entry (a + 1)))

-- a step changes the tag of a full cell only where the end of its version is within the horizon
abbrev pub FreedLaw : Type 0
FreedLaw = (shape : Shape) (before after : Store) (goes : StepsTo shape before after) (ghost : Ghost)
    → Ready shape before after goes ghost → let later = ghost_step shape before after goes ghost in
    (bucket cell row number : ℕ) → IsCell shape bucket cell → ghost.cells bucket cell ≡ Stores row number
    → memory shape after.words (Tag bucket cell) ≢ memory shape before.words (Tag bucket cell)
    → IsEnded shape later.chains later.rings (memory shape after.words) later.cells row number

module _ (shape : Shape) (store : Store) (ghost : Ghost) (row number : ℕ) where
  -- whole in its slot
  abbrev pub IsInSlot : Type 0
  IsInSlot = let slot = home (place_at shape row) number in
      (kept : Kept) × ((ghost.rings row).kept slot ≡ Some kept) × (kept.number ≡ number)
      × KeptOk (place_at shape row) slot (slot_image (memory shape store.words) row slot) (ghost.chains row) kept

  -- whole in a full cell of its bucket
  abbrev pub IsInFull : Type 0
  IsInFull = let bucket = bucket_of shape row in
      (cell : ℕ) × (cell < shape.cells) × (state_of (memory shape store.words (Tag bucket cell)) ≡ 2)
      × IsWhole shape ghost.chains ghost.rings row number (cell_image (memory shape store.words) bucket cell)

-- each old version is whole in its slot, or whole in a full cell, or its end is within the horizon
abbrev pub PlacesLaw : Type 0
PlacesLaw = (shape : Shape) (store : Store) (ghost : Ghost) → BaseOk shape store
    → SlotsOk shape store ghost.chains ghost.rings → CellsOk shape store ghost.chains ghost.rings ghost.cells
    → (row number : ℕ) → IsRow shape row → number < current_number (ghost.chains row)
    → IsInSlot shape store ghost row number
    ⊎ (IsInFull shape store ghost row number
    ⊎ IsEnded shape ghost.chains ghost.rings (memory shape store.words) ghost.cells row number)
