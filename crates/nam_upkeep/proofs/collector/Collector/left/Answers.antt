use Rattle.nam_upkeep.proofs.collector.Collector.left.Goals as goal

pub returns : goal.returns
returns c = λ seen. rw (← c.self.view_is) (c.left.ensures seen)
