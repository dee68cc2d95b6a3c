-- What is said of a client's commit by its point, and of a commit that has stepped by its point or its answer.
use Rattle.std.specs.Prelude.{Option, Some}
use Rattle.nam_protocol.specs.declared.client.Answer.{Answer}
use Rattle.nam_protocol.specs.declared.client.CallPoint.{CallPoint}
use Rattle.nam_protocol.specs.declared.client.CallPoint.TheVariants.{InTxn}
use Rattle.nam_protocol.specs.declared.client.Open.{Open}
use Rattle.nam_protocol.specs.declared.txn.CommitPoint.{CommitPoint}
use Rattle.nam_protocol.specs.declared.txn.TxnAnswer.{TxnAnswer}
use Rattle.nam_protocol.specs.declared.txn.TxnPoint.{TxnPoint}
use Rattle.nam_protocol.specs.declared.txn.TxnPoint.TheVariants.{Committing}
use Rattle.nam_protocol.specs.declared.txn.TxnState.{TxnState}
use Rattle.nam_verbs.specs.declared.now.Now.{Now}
use Rattle.nam_verbs.specs.declared.now.Now.TheVariants.{At, Over}

-- of a client: nothing where it runs no commit
abbrev pub InCall : (TxnState → CommitPoint → Type 0) → Option (Now CallPoint Answer) → Option Open → Type 0
InCall Point (Some (At (InTxn (Committing at)))) (Some attempt) = Point attempt.state at
InCall Point _ _ = Unit {0}

-- of what a commit has come to
abbrev pub InNow : (TxnState → CommitPoint → Type 0) → (TxnAnswer → Type 0) → TxnState → Now TxnPoint TxnAnswer → Type 0
InNow Point Ends state (At (Committing at)) = Point state at
InNow Point Ends state (At _) = Unit {0}
InNow Point Ends state (Over answer) = Ends answer
