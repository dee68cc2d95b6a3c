use Rattle.nam_protocol.proofs.Grows.{logs_grow}
use Rattle.nam_protocol.proofs.laws_growth.logs_grow_law.Goals as goal

pub returns : goal.returns
returns c = logs_grow
