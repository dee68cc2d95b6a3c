use Rattle.nam_ring.proofs.CheckLemmas.{free_by, by_free, not_moved_by, by_not_moved}
use Rattle.nam_ring.proofs.laws.check_law.Goals as goal

pub returns-clause-free : goal.returns-clause-free
returns-clause-free c place steps count = (free_by place steps count, λ is. by_free place steps count is.0 is.1 is.2)

pub returns-clause-not_moved : goal.returns-clause-not_moved
returns-clause-not_moved c place steps slot header =
    (not_moved_by place steps slot header, λ is. by_not_moved place steps is.0 slot header is.1 is.2 is.3)
