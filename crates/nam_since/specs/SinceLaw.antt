-- What is claimed of guards and of the order of publication holds at the opening, and each step keeps it.
use Rattle.std.specs.Prelude.{List}
use Rattle.nam_catalog.specs.Fits.{FitsLimits}
use Rattle.nam_catalog.specs.declared.shape.Shape.{Shape}
use Rattle.nam_ghost.specs.Commits.{CommitsOk}
use Rattle.nam_ghost.specs.Ghost.{Ghost, ghost_step, opening_ghost}
use Rattle.nam_ghost.specs.Moments.{MomentsNext}
use Rattle.nam_ghost.specs.Since.{SinceOk}
use Rattle.nam_store.specs.Opening.{AreLoaded, opening_store}
use Rattle.nam_store.specs.Store.{StepsTo, Store}
use Rattle.si_model.specs.declared.row.Row.{Row}

abbrev pub OpensLaw : Type 0
OpensLaw = (shape : Shape) → FitsLimits shape → (rows : List Row) → AreLoaded shape rows
    → let ghost = opening_ghost shape rows in
    SinceOk shape (opening_store shape rows) ghost.published ghost.order

abbrev pub KeepsLaw : Type 0
KeepsLaw = (shape : Shape) (before after : Store) (goes : StepsTo shape before after) (ghost : Ghost)
    → CommitsOk shape before ghost → MomentsNext shape before after goes
    → SinceOk shape before ghost.published ghost.order
    → let later = ghost_step shape before after goes ghost in SinceOk shape after later.published later.order
