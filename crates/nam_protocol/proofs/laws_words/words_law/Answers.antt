use Rattle.nam_protocol.proofs.HoldsClient.{client_keeps}
use Rattle.nam_protocol.proofs.HoldsVerbs.{client_writes}
use Rattle.nam_protocol.proofs.HoldsSession.{session_keeps, world_keeps}
use Rattle.nam_protocol.proofs.HoldsOpening.{new_world_holds}
use Rattle.nam_protocol.proofs.laws_words.words_law.Goals as goal

pub returns-clause-client : goal.returns-clause-client
returns-clause-client c = client_keeps

pub returns-clause-writes : goal.returns-clause-writes
returns-clause-writes c = client_writes

pub returns-clause-session : goal.returns-clause-session
returns-clause-session c = session_keeps

pub returns-clause-opening : goal.returns-clause-opening
returns-clause-opening c = new_world_holds

pub returns-clause-world : goal.returns-clause-world
returns-clause-world c = world_keeps
