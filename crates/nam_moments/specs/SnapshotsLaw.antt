-- Snapshots that were taken, and the commits that they contain: of any two, one contains all that the other contains.
-- So there is an order of the commits of which each of them contains a prefix.
use Rattle.std.specs.Prelude.{IsTrue, List, length, ℕ, ◌≡◌, ◌⊎◌}
use Rattle.nam_catalog.specs.Fits.{FitsLimits}
use Rattle.nam_catalog.specs.declared.shape.Shape.{Shape}
use Rattle.nam_ghost.specs.Moments.{AreFound, AreOrdered, IsTaken, entry_in}
use Rattle.nam_store.specs.Opening.{AreLoaded}
use Rattle.nam_store.specs.Reached.{IsReached}
use Rattle.nam_store.specs.Store.{Store}
use Rattle.si_model.specs.Snapshots.{contains}
use Rattle.si_model.specs.declared.log.Stamp.{Stamp}
use Rattle.si_model.specs.declared.row.Row.{Row}

-- each commit that the first contains the second contains too
abbrev pub IsContainedIn : List ℕ → List ℕ → Type 0
IsContainedIn s t = (stamp : Stamp) → IsTrue (contains s stamp) → IsTrue (contains t stamp)

pub record AreSnapshots (shape : Shape) (store : Store) : Type 0 where
  -- one entry for each worker
  pub wide : (s : List ℕ) → IsTaken store s → length s ≡ shape.workers
  -- it contains only what is published
  pub published : (s : List ℕ) → IsTaken store s → AreFound shape.start (entry_in shape store) shape.workers s
  -- any two are ordered, in each entry, and by what they contain
  pub ordered : (s t : List ℕ) → IsTaken store s → IsTaken store t → AreOrdered shape.workers s t
  pub prefixes : (s t : List ℕ) → IsTaken store s → IsTaken store t → IsContainedIn s t ⊎ IsContainedIn t s

abbrev pub SnapshotsLaw : Type 0
SnapshotsLaw = (shape : Shape) → FitsLimits shape → (rows : List Row) → AreLoaded shape rows → (store : Store)
    → IsReached shape rows store → AreSnapshots shape store
