use Rattle.nam_protocol.proofs.FieldLemmas.{reached_within}
use Rattle.nam_protocol.proofs.laws_left.reached_within.Goals as goal

pub returns : goal.returns
returns c = reached_within
