-- What is said of locks, in words of clients and headers alone.
use Rattle.std.proofs.Common.{List, arith, ℕ}
use Rattle.nam_catalog.specs.Fits.{FitsLimits}
use Rattle.nam_catalog.specs.declared.shape.Shape.{Shape}
use Rattle.nam_ghost.proofs.ListedLemmas.{holder_is, locked_of, someone_lists}
use Rattle.nam_ghost.specs.Ghost.{ghost_step, opening_ghost}
use Rattle.nam_ghost.specs.Locks.{LocksOk}
use Rattle.nam_ghost.specs.Versions.{Chain}
use Rattle.nam_locks.proofs.StoreLemmas.{locks_reached}
use Rattle.nam_locks.specs.LocksLaw.{ListedLaw, LockedLaw, OnceLaw}
use Rattle.nam_store.proofs.ReachedLemmas.{ghost_rides, reached_law}
use Rattle.nam_store.specs.Base.{BaseOk}
use Rattle.nam_store.specs.Opening.{AreLoaded}
use Rattle.nam_store.specs.Reached.{IsReached}
use Rattle.nam_store.specs.Store.{Store}
use Rattle.si_model.specs.declared.row.Row.{Row}

-- a store that comes about has chains that meet what is said
known : (shape : Shape) → FitsLimits shape → (rows : List Row) → AreLoaded shape rows → (store : Store)
    → IsReached shape rows store → BaseOk shape store × ((chains : ℕ → Chain) × LocksOk shape store chains)
known shape limits rows loaded store reached =
    let with_ghost = ghost_rides shape rows (opening_ghost shape rows) (ghost_step shape) store tt reached in (
      reached_law shape limits rows loaded store reached,
      (with_ghost.0.chains, locks_reached shape limits rows loaded store with_ghost.0 with_ghost.1),
    )

pub locked_listed : LockedLaw
locked_listed shape limits rows loaded store reached row is locked =
    let k = known shape limits rows loaded store reached in
    someone_lists shape store k.0 k.1.0 k.1.1 row is locked

pub listed_locked : ListedLaw
listed_locked shape limits rows loaded store reached row nth client here lists =
    let k = known shape limits rows loaded store reached in
    let held = holder_is shape store k.0 k.1.0 k.1.1 row nth client here lists in
    (held.0, locked_of shape store k.0 k.1.0 k.1.1 row held.0 nth held.1)

pub listed_once : OnceLaw
listed_once shape limits rows loaded store reached row nth other one two here there first second =
    let k = known shape limits rows loaded store reached in
    let a = (holder_is shape store k.0 k.1.0 k.1.1 row nth one here first).1 in
    let b = (holder_is shape store k.0 k.1.0 k.1.1 row other two there second).1 in
    omega arith
