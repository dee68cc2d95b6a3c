-- Each store that comes about meets what is said of every store.
use Rattle.std.specs.Prelude.{List}
use Rattle.si_model.specs.declared.row.Row.{Row}
use Rattle.nam_catalog.specs.declared.shape.Shape.{Shape}
use Rattle.nam_catalog.specs.Fits.{FitsLimits}
use Rattle.nam_store.specs.Base.{BaseOk}
use Rattle.nam_store.specs.Opening.{AreLoaded, opening_store}
use Rattle.nam_store.specs.Reached.{IsReached}
use Rattle.nam_store.specs.Store.{Store, StepsTo}

abbrev pub OpensLaw : Type 0
OpensLaw = (shape : Shape) → FitsLimits shape → (rows : List Row) → AreLoaded shape rows
    → BaseOk shape (opening_store shape rows)

abbrev pub KeepsLaw : Type 0
KeepsLaw = (shape : Shape) (before after : Store) → StepsTo shape before after → BaseOk shape before
    → BaseOk shape after

abbrev pub ReachedLaw : Type 0
ReachedLaw = (shape : Shape) → FitsLimits shape → (rows : List Row) → AreLoaded shape rows → (store : Store)
    → IsReached shape rows store → BaseOk shape store
