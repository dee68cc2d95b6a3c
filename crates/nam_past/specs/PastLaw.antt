-- What is claimed of the moments of snapshots in the order of publication holds at the opening, and each step keeps it.
use Rattle.std.specs.Prelude.{List}
use Rattle.nam_catalog.specs.Fits.{FitsLimits}
use Rattle.nam_catalog.specs.declared.shape.Shape.{Shape}
use Rattle.nam_ghost.specs.Ghost.{Ghost, ghost_step, opening_ghost}
use Rattle.nam_ghost.specs.Moments.{MomentsNext, MomentsOk}
use Rattle.nam_past.specs.Past.{PastOk}
use Rattle.nam_store.specs.Base.{BaseOk}
use Rattle.nam_store.specs.Opening.{AreLoaded, opening_store}
use Rattle.nam_store.specs.Store.{StepsTo, Store}
use Rattle.si_model.specs.declared.row.Row.{Row}

-- what the law of words says before a step; no more of it is needed
pub record RestsOn (shape : Shape) (store : Store) : Type 0 where
  pub base : BaseOk shape store
  pub moments : MomentsOk shape store

abbrev pub OpensLaw : Type 0
OpensLaw = (shape : Shape) → FitsLimits shape → (rows : List Row) → AreLoaded shape rows
    → PastOk shape (opening_store shape rows) (opening_ghost shape rows).order

abbrev pub KeepsLaw : Type 0
KeepsLaw = (shape : Shape) (before after : Store) (goes : StepsTo shape before after) (ghost : Ghost)
    → RestsOn shape before → MomentsNext shape before after goes → PastOk shape before ghost.order
    → PastOk shape after (ghost_step shape before after goes ghost).order
