use Rattle.nam_protocol.proofs.KeptSession.{session_keeps}
use Rattle.nam_protocol.proofs.laws_answers.session_keeps.Goals as goal

pub returns : goal.returns
returns c = session_keeps
