-- The law of every store follows from the law along its steps, since a ghost goes along with any store.
use Rattle.nam_ghost.specs.Ghost.{ghost_step, opening_ghost}
use Rattle.nam_ghost.specs.Law.{GhostLaw, WordsOkLaw}
use Rattle.nam_store.proofs.ReachedLemmas.{ghost_rides}

pub outer_law : GhostLaw → WordsOkLaw
outer_law law shape limits rows loaded store reached =
    let along = ghost_rides shape rows (opening_ghost shape rows) (ghost_step shape) store tt reached in
    (along.0, law shape limits rows loaded store along.0 along.1)
