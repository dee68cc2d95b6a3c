use Rattle.nam_moments.proofs.SnapshotLemmas.{taken_law}
use Rattle.nam_moments.proofs.laws.snapshots_law.Goals as goal

pub returns : goal.returns
returns c = taken_law
