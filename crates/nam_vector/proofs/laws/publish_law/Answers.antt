use Rattle.std.proofs.Common.{refl}
use Rattle.nam_vector.proofs.laws.publish_law.Goals as goal

pub returns : goal.returns
returns c worker number = (refl, λ found. refl)
