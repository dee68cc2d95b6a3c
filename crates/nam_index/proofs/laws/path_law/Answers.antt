use Rattle.nam_index.proofs.PathLemmas.{goes_through}
use Rattle.nam_index.proofs.laws.path_law.Goals as goal

pub returns : goal.returns
returns c = goes_through
