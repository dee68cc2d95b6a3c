-- A world's turns are steps of its store, so the law of words holds in it.
use Rattle.std.proofs.Common.{List}
use Rattle.si_model.specs.declared.op.Policy.{Policy}
use Rattle.si_model.specs.declared.row.Row.{Row}
use Rattle.nam_catalog.specs.Fits.{FitsLimits}
use Rattle.nam_catalog.specs.declared.shape.Shape.{Shape}
use Rattle.nam_protocol.specs.World.{World, new_world}
use Rattle.nam_protocol.specs.declared.session.Job.{Job}
use Rattle.nam_store.specs.Opening.{opening_store}
use Rattle.nam_store.specs.Reached.{IsReached, Opened}
use Rattle.nam_store.specs.Turns.{WorldRuns, store_of}
use Rattle.nam_store.proofs.ReachedLemmas.{ghost_rides, path_reached}
use Rattle.nam_store.proofs.TurnLemmas.{world_turns}
use Rattle.nam_store.proofs.WorldOpens.{world_opens}
use Rattle.nam_ghost.specs.Ghost.{ghost_step, opening_ghost}
use Rattle.nam_law.specs.WorldsLaw.{AreJobs, Opens, Turned, TurnsTo, WorldsLaw}
use Rattle.nam_law.proofs.LawLemmas.{law_reached}

module _ (shape : Shape) (limits : FitsLimits shape) (rows : List Row) (policy : Policy) (jobs : List (List Job))
    (are : AreJobs shape policy jobs) where
  -- its store comes about from the opening, and its sessions run on
  comes : (world : World) → TurnsTo shape (new_world shape rows policy jobs) world
      → IsReached shape rows (store_of world) × WorldRuns shape world
  comes _ Opens =
      let t = world_opens shape limits rows policy jobs are.tries are.workers are.fit are.words in
      (path_reached shape rows (opening_store shape rows) (store_of (new_world shape rows policy jobs)) t.0 Opened, t.1)
  comes _ (Turned before was turn may) =
      let b = comes before was in
      let t = world_turns shape limits before turn may b.1 in
      (path_reached shape rows (store_of before) _ t.0 b.0, t.1)

pub worlds_law : WorldsLaw
worlds_law shape limits rows loaded policy jobs are world turns =
    let reached = (comes shape limits rows policy jobs are world turns).0 in
    let along = ghost_rides shape rows (opening_ghost shape rows) (ghost_step shape) (store_of world) tt reached in
    (along.0, along.1, law_reached shape limits rows loaded (store_of world) along.0 along.1)
