-- The law of words in a world: whatever turns its workers take and wherever sessions are stopped, the words and clients
-- meet it.
use Rattle.nam_catalog.specs.Fits.{FitsLimits}
use Rattle.nam_catalog.specs.declared.shape.Shape.{Shape}
use Rattle.nam_ghost.specs.Ghost.{Ghost, IsReachedWith}
use Rattle.nam_law.specs.WordsLaw.{LawOk}
use Rattle.nam_protocol.specs.HoldsWords.{JobHolds}
use Rattle.nam_protocol.specs.SessionFits.{JobFits}
use Rattle.nam_protocol.specs.World.{Turn, World, after_turn, new_world}
use Rattle.nam_protocol.specs.declared.session.Job.{Job}
use Rattle.nam_store.specs.Opening.{AreLoaded}
use Rattle.nam_store.specs.Turns.{MayTurn, store_of}
use Rattle.si_model.specs.declared.op.Policy.{Policy}
use Rattle.si_model.specs.declared.row.Row.{Row}
use Rattle.std.specs.List.{AllByRecursion}
use Rattle.std.specs.Prelude.{List, length, ◌≡◌, ◌≤◌}

-- the jobs are such as a world's sessions may have, one list for each worker
pub record AreJobs (shape : Shape) (policy : Policy) (jobs : List (List Job)) : Type 0 where
  pub tries : 1 ≤ policy.tries
  pub workers : length jobs ≡ shape.workers
  pub fit : AllByRecursion (AllByRecursion (JobFits shape)) jobs
  pub words : AllByRecursion (AllByRecursion JobHolds) jobs

-- a world to which turns lead, one after another; in form Held no session is stopped
module _ (shape : Shape) (first : World) where
  pub data TurnsTo : World → Type 0 where
    Opens : TurnsTo first
    Turned : (before : World) (was : TurnsTo before) (turn : Turn) (may : MayTurn shape turn)
        → TurnsTo (after_turn shape before turn)

abbrev pub WorldsLaw : Type 0
WorldsLaw = (shape : Shape) → FitsLimits shape → (rows : List Row) → AreLoaded shape rows → (policy : Policy)
    (jobs : List (List Job)) → AreJobs shape policy jobs → (world : World)
    → TurnsTo shape (new_world shape rows policy jobs) world
    → (ghost : Ghost) × IsReachedWith shape rows (store_of world) ghost × LawOk shape (store_of world) ghost
