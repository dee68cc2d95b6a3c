use Rattle.nam_moments.proofs.SnapshotLemmas.{entry_law}
use Rattle.nam_moments.proofs.StepLemmas.{vector_rises}
use Rattle.nam_moments.proofs.laws.vector_law.Goals as goal

pub returns-clause-entry : goal.returns-clause-entry
returns-clause-entry c = entry_law

pub returns-clause-rises : goal.returns-clause-rises
returns-clause-rises c = vector_rises
