use Rattle.nam_protocol.proofs.OpeningLemmas.{opening_law, path_law}
use Rattle.nam_protocol.proofs.laws_opening.opening_law.Goals as goal

pub returns-clause-positions : goal.returns-clause-positions
returns-clause-positions c = opening_law

pub returns-clause-paths : goal.returns-clause-paths
returns-clause-paths c = path_law
