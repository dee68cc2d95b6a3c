use Rattle.nam_raised.proofs.BehindLemmas.{behind_holds}
use Rattle.nam_raised.proofs.laws.behind_law.Goals as goal

pub returns : goal.returns
returns c = record { behind = behind_holds }
