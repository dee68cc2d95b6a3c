-- The law of words: it holds at the opening, each step keeps it, and so each store that comes about meets it.
use Rattle.std.specs.Prelude.{List}
use Rattle.nam_catalog.specs.Fits.{FitsLimits}
use Rattle.nam_catalog.specs.declared.shape.Shape.{Shape}
use Rattle.nam_ghost.specs.Ghost.{Ghost, IsReachedWith, ghost_step, opening_ghost}
use Rattle.nam_ghost.specs.Law.{GroundOk, WordsOk}
use Rattle.nam_origins.specs.Logs.{LogsOk}
use Rattle.nam_refused.specs.Refused.{RefusedOk}
use Rattle.nam_scans.specs.Gathered.{ScansOk}
use Rattle.nam_store.specs.Opening.{AreLoaded, opening_store}
use Rattle.nam_store.specs.Store.{StepsTo, Store}
use Rattle.si_model.specs.declared.row.Row.{Row}

-- what holds of a store with its ghost: the groups of `nam_ghost`; and what clients rely on beside them, in their logs,
-- their scans and their refused commits
pub record LawOk (shape : Shape) (store : Store) (ghost : Ghost) : Type 0 where
  pub words : WordsOk shape store ghost
  pub logs : LogsOk shape store ghost.published
  pub scans : ScansOk shape store ghost.chains
  pub refused : RefusedOk shape store ghost.chains

-- the groups that the others stand on are kept by themselves
abbrev pub GroundLaw : Type 0
GroundLaw = (shape : Shape) (before after : Store) (goes : StepsTo shape before after) (ghost : Ghost)
    → GroundOk shape before ghost → GroundOk shape after (ghost_step shape before after goes ghost)

abbrev pub OpensLaw : Type 0
OpensLaw = (shape : Shape) → FitsLimits shape → (rows : List Row) → AreLoaded shape rows
    → LawOk shape (opening_store shape rows) (opening_ghost shape rows)

abbrev pub KeepsLaw : Type 0
KeepsLaw = (shape : Shape) (before after : Store) (goes : StepsTo shape before after) (ghost : Ghost)
    → LawOk shape before ghost → LawOk shape after (ghost_step shape before after goes ghost)

abbrev pub ReachedLaw : Type 0
ReachedLaw = (shape : Shape) → FitsLimits shape → (rows : List Row) → AreLoaded shape rows → (store : Store)
    → (ghost : Ghost) → IsReachedWith shape rows store ghost → LawOk shape store ghost
