use Rattle.nam_calls.specs.Words.{path_of}
use Rattle.nam_calls.proofs.FallsTables.{has_capacity}
use Rattle.nam_index.proofs.FindLemmas.{found, absent}
use Rattle.nam_index.proofs.laws.find_law.Goals as goal

pub returns-clause-found : goal.returns-clause-found
returns-clause-found c = λ shape limits table is key.
    found (path_of shape table key) (has_capacity shape limits table is)

pub returns-clause-absent : goal.returns-clause-absent
returns-clause-absent c = λ shape limits table is key.
    absent (path_of shape table key) (has_capacity shape limits table is)
