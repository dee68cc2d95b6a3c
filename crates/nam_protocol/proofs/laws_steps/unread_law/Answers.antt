use Rattle.nam_protocol.proofs.UnreadLemmas.{unread_law}
use Rattle.nam_protocol.proofs.laws_steps.unread_law.Goals as goal

pub returns : goal.returns
returns c = unread_law
