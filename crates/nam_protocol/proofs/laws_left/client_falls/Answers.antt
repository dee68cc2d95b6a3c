use Rattle.nam_protocol.proofs.FallsClient.{client_falls, client_begins}
use Rattle.nam_protocol.proofs.laws_left.client_falls.Goals as goal

pub returns-clause-falls : goal.returns-clause-falls
returns-clause-falls c = client_falls

pub returns-clause-begins : goal.returns-clause-begins
returns-clause-begins c = client_begins
