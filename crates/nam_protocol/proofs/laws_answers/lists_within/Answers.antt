use Rattle.nam_protocol.proofs.ListsSession.{lists_within}
use Rattle.nam_protocol.proofs.laws_answers.lists_within.Goals as goal

pub returns : goal.returns
returns c = lists_within
