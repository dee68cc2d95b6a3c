use Rattle.std.proofs.Common.{ap}
use Rattle.nam_upkeep.specs.Collector.{running}
use Rattle.nam_upkeep.proofs.collector.Collector.take.Goals as goal

pub returns-clause-after : goal.returns-clause-after
returns-clause-after c = rw (← c.self.view_is) (ap (running c.args.seen.now) c.take.ensures.value)
