use Rattle.std.proofs.Common.{ap}
use Rattle.nam_upkeep.specs.Move.{running}
use Rattle.nam_upkeep.proofs.mover.Mover.take.Goals as goal

pub returns-clause-after : goal.returns-clause-after
returns-clause-after c = rw (← c.self.view_is) (ap running c.take.ensures.value)
