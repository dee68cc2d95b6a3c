-- What versions, publications and guards rest on: calls, snapshots, locks, and their own claims.
use Rattle.nam_catalog.specs.declared.shape.Shape.{Shape}
use Rattle.nam_ghost.specs.Chains.{ChainsOk}
use Rattle.nam_ghost.specs.Ghost.{Ghost}
use Rattle.nam_ghost.specs.Locks.{LocksOk}
use Rattle.nam_ghost.specs.Moments.{MomentsOk}
use Rattle.nam_ghost.specs.Publications.{PublishedOk}
use Rattle.nam_store.specs.Base.{BaseOk}
use Rattle.nam_store.specs.Store.{Store}

pub record CommitsOk (shape : Shape) (store : Store) (ghost : Ghost) : Type 0 where
  pub base : BaseOk shape store
  pub moments : MomentsOk shape store
  pub locks : LocksOk shape store ghost.chains
  pub chains : ChainsOk shape store ghost.chains
  pub published : PublishedOk shape store ghost.chains ghost.published
