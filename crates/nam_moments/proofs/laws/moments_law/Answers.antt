use Rattle.nam_moments.proofs.OpeningLemmas.{opening_moments}
use Rattle.nam_moments.proofs.SnapshotLemmas.{moments_reached}
use Rattle.nam_moments.proofs.StepLemmas.{moments_kept, moments_next}
use Rattle.nam_moments.proofs.laws.moments_law.Goals as goal

pub returns-clause-opening : goal.returns-clause-opening
returns-clause-opening c = opening_moments

pub returns-clause-step : goal.returns-clause-step
returns-clause-step c = moments_kept

pub returns-clause-next : goal.returns-clause-next
returns-clause-next c = moments_next

pub returns-clause-reached : goal.returns-clause-reached
returns-clause-reached c = moments_reached
