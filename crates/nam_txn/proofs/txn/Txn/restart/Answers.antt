use Rattle.nam_txn.proofs.StandLemmas.{new_is}
use Rattle.nam_txn.proofs.txn.Txn.restart.Goals as goal

pub returns-clause-of : goal.returns-clause-of
returns-clause-of c = λ shape can.
    new_is shape c.args.worker c.args.last c.args.seen.now can c.restart.new.self c.restart.ensures.step
    c.restart.ensures.state
