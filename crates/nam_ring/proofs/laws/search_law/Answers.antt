use Rattle.nam_ring.proofs.SearchLemmas.{found_by, finds_by, missed_by, misses_by}
use Rattle.nam_ring.proofs.laws.search_law.Goals as goal

pub returns-clause-found : goal.returns-clause-found
returns-clause-found c place fits seen steps value =
    (found_by place fits seen steps value, finds_by place fits seen steps value)

pub returns-clause-not_there : goal.returns-clause-not_there
returns-clause-not_there c place fits seen steps = (missed_by place fits seen steps, misses_by place fits seen steps)
