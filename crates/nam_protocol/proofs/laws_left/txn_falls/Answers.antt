use Rattle.nam_protocol.proofs.FallsTxn.{txn_falls}
use Rattle.nam_protocol.proofs.FallsBegins.{txn_begins}
use Rattle.nam_protocol.proofs.laws_left.txn_falls.Goals as goal

pub returns-clause-falls : goal.returns-clause-falls
returns-clause-falls c = txn_falls

pub returns-clause-begins : goal.returns-clause-begins
returns-clause-begins c = txn_begins
