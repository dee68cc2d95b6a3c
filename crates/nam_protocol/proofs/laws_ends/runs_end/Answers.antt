use Rattle.nam_protocol.proofs.EndsWorld.{runs_end}
use Rattle.nam_protocol.proofs.laws_ends.runs_end.Goals as goal

pub returns : goal.returns
returns c = runs_end
