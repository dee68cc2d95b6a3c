use Rattle.nam_protocol.proofs.GrowsSession.{session_logs_grow}
use Rattle.nam_protocol.proofs.laws_growth.session_logs_grow_law.Goals as goal

pub returns : goal.returns
returns c = session_logs_grow
