-- The law of words: what every word, version and call in flight may rely on, group by group. That it holds is not
-- proved here.
use Rattle.nam_catalog.specs.Fits.{FitsLimits}
use Rattle.nam_catalog.specs.declared.shape.Shape.{Shape}
use Rattle.nam_ghost.specs.Chains.{ChainsOk}
use Rattle.nam_ghost.specs.Copiers.{SlotsOk}
use Rattle.nam_ghost.specs.Ghost.{Ghost, IsReachedWith}
use Rattle.nam_ghost.specs.Keys.{KeysOk}
use Rattle.nam_ghost.specs.Locks.{LocksOk}
use Rattle.nam_ghost.specs.Moments.{MomentsOk}
use Rattle.nam_ghost.specs.Origins.{ListedOk, OriginsOk}
use Rattle.nam_ghost.specs.Publications.{PublishedOk}
use Rattle.nam_ghost.specs.Reads.{ReadsOk}
use Rattle.nam_ghost.specs.Since.{SinceOk}
use Rattle.nam_ghost.specs.Upkeep.{CellsOk}
use Rattle.nam_store.specs.Base.{BaseOk}
use Rattle.nam_store.specs.Opening.{AreLoaded}
use Rattle.nam_store.specs.Reached.{IsReached}
use Rattle.nam_store.specs.Store.{Store}
use Rattle.si_model.specs.declared.row.Row.{Row}
use Rattle.std.specs.Prelude.{List}

-- The groups that the others stand on: of words and calls alone.
pub record GroundOk (shape : Shape) (store : Store) (ghost : Ghost) : Type 0 where
  pub base : BaseOk shape store
  pub moments : MomentsOk shape store
  pub locks : LocksOk shape store ghost.chains
  pub chains : ChainsOk shape store ghost.chains
  pub published : PublishedOk shape store ghost.chains ghost.published
  pub slots : SlotsOk shape store ghost.chains ghost.rings
  pub cells : CellsOk shape store ghost.chains ghost.rings ghost.cells
  pub keys : KeysOk shape store ghost.chains
  pub origins : OriginsOk shape store ghost.chains ghost.published
  pub since : SinceOk shape store ghost.published ghost.order

-- all of it: with what readers rely on, and what logs list
pub record WordsOk (shape : Shape) (store : Store) (ghost : Ghost) : Type 0 where
  pub ground : GroundOk shape store ghost
  pub reads : ReadsOk shape store ghost.chains ghost.rings ghost.cells
  pub listed : ListedOk shape store ghost.published

-- it holds with what is known along the steps
abbrev pub GhostLaw : Type 0
GhostLaw = (shape : Shape) → FitsLimits shape → (rows : List Row) → AreLoaded shape rows → (store : Store)
    → (ghost : Ghost) → IsReachedWith shape rows store ghost → WordsOk shape store ghost

-- so each store that comes about meets it, with some such knowledge
abbrev pub WordsOkLaw : Type 0
WordsOkLaw = (shape : Shape) → FitsLimits shape → (rows : List Row) → AreLoaded shape rows → (store : Store)
    → IsReached shape rows store → (ghost : Ghost) × WordsOk shape store ghost
