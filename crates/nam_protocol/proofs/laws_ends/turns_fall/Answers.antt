use Rattle.nam_protocol.proofs.EndsWorld.{turns_fall}
use Rattle.nam_protocol.proofs.laws_ends.turns_fall.Goals as goal

pub returns : goal.returns
returns c = turns_fall
