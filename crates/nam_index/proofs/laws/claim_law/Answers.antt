use Rattle.nam_calls.specs.Words.{path_of}
use Rattle.nam_calls.proofs.FallsTables.{has_capacity}
use Rattle.nam_index.proofs.ClaimLemmas.{claimed, no_space}
use Rattle.nam_index.proofs.laws.claim_law.Goals as goal

pub returns-clause-claimed : goal.returns-clause-claimed
returns-clause-claimed c = λ shape limits table is key.
    claimed (path_of shape table key) (has_capacity shape limits table is)

pub returns-clause-no_space : goal.returns-clause-no_space
returns-clause-no_space c = λ shape limits table is key.
    no_space (path_of shape table key) (has_capacity shape limits table is)
