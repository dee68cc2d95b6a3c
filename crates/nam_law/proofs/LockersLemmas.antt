-- A lock that stood in a commit's way is listed by another client, in each store that comes about.
use Rattle.std.proofs.Common.{List}
use Rattle.nam_catalog.specs.Fits.{FitsLimits}
use Rattle.nam_catalog.specs.declared.shape.Shape.{Shape}
use Rattle.nam_store.specs.Opening.{AreLoaded}
use Rattle.nam_store.specs.Reached.{IsReached}
use Rattle.nam_store.specs.Store.{Store}
use Rattle.nam_store.proofs.ReachedLemmas.{ghost_rides, reached_keeps}
use Rattle.nam_ghost.specs.Ghost.{Ghost, ghost_step, opening_ghost}
use Rattle.nam_ghost.specs.Law.{GroundOk}
use Rattle.nam_refused.specs.Lockers.{LockersOk}
use Rattle.nam_refused.proofs.LockerSteps.{listed_holds, lockers_keep, lockers_open}
use Rattle.nam_law.specs.LockersLaw.{ListedLaw, ReachedLaw}
use Rattle.nam_law.proofs.GroundLemmas.{ground_keep, ground_opens}
use Rattle.si_model.specs.declared.row.Row.{Row}

record HasLockers (shape : Shape) (store : Store) (ghost : Ghost) : Type 0 where
  ground : GroundOk shape store ghost
  lockers : LockersOk store

known : (shape : Shape) → FitsLimits shape → (rows : List Row) → AreLoaded shape rows → (store : Store)
    → IsReached shape rows store → (ghost : Ghost) × HasLockers shape store ghost
known shape limits rows loaded store reached =
    let along = ghost_rides shape rows (opening_ghost shape rows) (ghost_step shape) store tt reached in (
      along.0,
      reached_keeps shape rows (opening_ghost shape rows) (ghost_step shape) (HasLockers shape)
          record { ground = ground_opens shape limits rows loaded; lockers = lockers_open shape limits rows loaded }
          (λ before after ghost goes has. record {
            ground = ground_keep shape before after goes ghost has.ground;
            lockers = lockers_keep shape before after goes ghost.chains has.ground.base has.ground.locks
                has.ground.keys has.lockers;
          })
          store along.0 along.1,
    )

pub lockers_reached : ReachedLaw
lockers_reached shape limits rows loaded store reached = (known shape limits rows loaded store reached).1.lockers

pub listed_tells : ListedLaw
listed_tells shape limits rows loaded store reached nth client attempt lock ends =
    let (ghost, has) = known shape limits rows loaded store reached in
    listed_holds shape store ghost.chains has.ground.base has.ground.locks has.ground.keys has.lockers nth client
    attempt lock ends
