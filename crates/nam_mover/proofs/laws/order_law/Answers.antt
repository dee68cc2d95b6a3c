use Rattle.nam_mover.proofs.OrderLemmas.{writes_into_taken, exchanges_in_order}
use Rattle.nam_mover.proofs.laws.order_law.Goals as goal

pub returns-clause-writes : goal.returns-clause-writes
returns-clause-writes c = writes_into_taken

pub returns-clause-exchanges : goal.returns-clause-exchanges
returns-clause-exchanges c = exchanges_in_order
