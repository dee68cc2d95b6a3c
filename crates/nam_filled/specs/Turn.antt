-- One step of the nth client as this group sees it: what it makes of cells, of holders, and of the client's log.
use Rattle.nam_catalog.specs.declared.shape.Shape.{Shape}
use Rattle.nam_filled.specs.Filled.{ArePassed, FilledBy, IsHeld, NowOk, OthersCollected, Scene, StoredBy}
use Rattle.nam_filled.specs.Filled.{end_of_version}
use Rattle.nam_filled.specs.Holders.{add_holder, mover_of}
use Rattle.nam_filled.specs.Moves.{FillsIn, HasCollected, Move, MovesAt, running_move}
use Rattle.nam_ghost.specs.Cells.{ClaimedBy, FreeCell, Stores, end_at}
use Rattle.nam_ghost.specs.Slots.{Ring}
use Rattle.nam_layout.specs.declared.field.Field.{Field}
use Rattle.nam_ghost.specs.Keys.{KeysNext}
use Rattle.nam_ghost.specs.Versions.{Chain, IsNth, Version}
use Rattle.nam_header.specs.Tag.{freed, full, has_next, state_of, written}
use Rattle.nam_layout.specs.Address.{IsCell, IsRow}
use Rattle.nam_layout.specs.declared.field.Field.TheVariants.{Horizon, Tag}
use Rattle.nam_protocol.specs.declared.client.ClientState.{ClientState}
use Rattle.si_model.specs.declared.log.Event.TheVariants.{Collected}
use Rattle.std.specs.Prelude.{List, Some, [], false, length, slice_get, slice_set, true, ℕ, ◌+◌, ◌++◌, ◌<◌, ◌∷◌, ◌≡◌}
use Rattle.std.specs.Prelude.{◌⊎◌}

-- versions stay with their numbers, the ends of stored ones stay, and so do key words
pub record Frame (shape : Shape) (before : Scene) (m : Field → ℕ) (chains : ℕ → Chain) (rings : ℕ → Ring)
    : Type 0 where
  pub numbers : (row number : ℕ) (version : Version) → IsRow shape row → IsNth (before.chains row) number version
      → IsNth (chains row) number version
  pub ends : (bucket cell row number : ℕ) → IsCell shape bucket cell → before.cells bucket cell ≡ Stores row number
      → end_at shape chains rings row number ≡ end_of_version shape before row number
  pub keys : KeysNext shape before.m m

-- a word that the nth client takes: the store before it, and what it makes of words, version chains and rings
pub record Word (shape : Shape) : Type 0 where
  pub before : Scene
  pub m : Field → ℕ
  pub chains : ℕ → Chain
  pub rings : ℕ → Ring
  pub frame : Frame shape before m chains rings
  pub nth : ℕ
  pub client : ClientState

module _ (shape : Shape) (before after : Scene) (nth : ℕ) (client later : ClientState) where
  -- A cell's tag, what it holds, and its holders: they stay; or a move claims the cell, fills it, or gives it back,
  -- which it can't under the last tag; or a collection frees it.
  pub data CellGoes (bucket cell : ℕ) : Type 0 where
    Keeps : (tag : after.m (Tag bucket cell) ≡ before.m (Tag bucket cell))
        → (same : after.cells bucket cell ≡ before.cells bucket cell)
        → (holders : after.holders bucket cell ≡ before.holders bucket cell)
        → (fills : FillsIn shape client.call bucket cell → FillsIn shape later.call bucket cell
        × (length later.log.events ≡ length client.log.events)) → CellGoes bucket cell
    Claims : (free : state_of (before.m (Tag bucket cell)) ≡ 0)
        → (tag : after.m (Tag bucket cell) ≡ written (before.m (Tag bucket cell)))
        → (claimed : after.cells bucket cell ≡ ClaimedBy (nth + 1))
        → (holders : after.holders bucket cell ≡ before.holders bucket cell ++ mover_of nth client ∷ [])
        → (fills : FillsIn shape later.call bucket cell × (length later.log.events ≡ length client.log.events))
        → CellGoes bucket cell
    Fills : (row number : ℕ) → (writes : state_of (before.m (Tag bucket cell)) ≡ 1)
        → (own : before.cells bucket cell ≡ ClaimedBy (nth + 1))
        → (tag : after.m (Tag bucket cell) ≡ full (before.m (Tag bucket cell)))
        → (stored : after.cells bucket cell ≡ Stores row number)
        → (holders : after.holders bucket cell ≡ before.holders bucket cell)
        → (by_move : FilledBy shape before bucket cell (nth + 1) → StoredBy shape after bucket cell row number)
        → CellGoes bucket cell
    GivesBack : (writes : state_of (before.m (Tag bucket cell)) ≡ 1)
        → (next : has_next (before.m (Tag bucket cell)) ≡ true)
        → (tag : after.m (Tag bucket cell) ≡ freed (before.m (Tag bucket cell)))
        → (free : after.cells bucket cell ≡ FreeCell)
        → (holders : after.holders bucket cell ≡ before.holders bucket cell) → CellGoes bucket cell
    Sticks : (writes : state_of (before.m (Tag bucket cell)) ≡ 1)
        → (none : has_next (before.m (Tag bucket cell)) ≡ false)
        → (tag : after.m (Tag bucket cell) ≡ before.m (Tag bucket cell))
        → (own : after.cells bucket cell ≡ ClaimedBy (nth + 1))
        → (holders : after.holders bucket cell ≡ before.holders bucket cell) → CellGoes bucket cell
    Frees : (was_full : state_of (before.m (Tag bucket cell)) ≡ 2)
        → (next : has_next (before.m (Tag bucket cell)) ≡ true)
        → (tag : after.m (Tag bucket cell) ≡ freed (before.m (Tag bucket cell)))
        → (free : after.cells bucket cell ≡ FreeCell)
        → (holders : after.holders bucket cell ≡ before.holders bucket cell) → (collects : HasCollected later)
        → CellGoes bucket cell

  -- all holders stay, and the client's move may become one
  pub data HoldersGo : Type 0 where
    SameHolders : (same : after.holders ≡ before.holders) → HoldersGo
    NewHolder : (bucket cell : ℕ)
        → (added : after.holders ≡ add_holder before.holders bucket cell (mover_of nth client))
        → (unclaimed : running_move shape client.call ≡ []) → (held : IsHeld shape after bucket (mover_of nth client))
        → HoldersGo

  -- no done collection is told, or one is: it has passed all cells of its bucket
  pub data CollectionsGo : Type 0 where
    NoneMore : (same : (n bucket prefix : ℕ) (entries : List ℕ)
        → slice_get later.log.events n ≡ Some (Collected bucket prefix entries false)
        → slice_get client.log.events n ≡ Some (Collected bucket prefix entries false)) → CollectionsGo
    OneMore : (bucket prefix : ℕ) (entries : List ℕ)
        → (listed : later.log.events ≡ client.log.events ++ Collected bucket prefix entries false ∷ [])
        → (passed : OthersCollected shape after nth ⊎ ArePassed shape after nth bucket entries shape.cells)
        → CollectionsGo

  -- what the client has told or runs it tells still
  pub record LogGoes : Type 0 where
    pub moves : (place : ℕ) (move : Move) → MovesAt shape client place move → MovesAt shape later place move
    pub collected : HasCollected client → HasCollected later
    pub collections : CollectionsGo

  pub record Turn : Type 0 where
    pub here : slice_get before.clients nth ≡ Some client
    pub clients : after.clients ≡ slice_set before.clients nth later
    pub frame : Frame shape before after.m after.chains after.rings
    pub log : LogGoes
    pub holders : HoldersGo
    pub cells : (bucket cell : ℕ) → IsCell shape bucket cell → CellGoes bucket cell
    pub horizon : HasCollected later
        ⊎ ((a : ℕ) → a < shape.workers → after.m (Horizon (a + 1)) ≡ before.m (Horizon (a + 1)))
    pub own : NowOk shape after nth later.call
