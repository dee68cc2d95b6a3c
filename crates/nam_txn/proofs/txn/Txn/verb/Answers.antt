use Rattle.std.proofs.Common.{sym, subst}
use Rattle.nam_txn.specs.Txn.{IsTxnOf, value_of}
use Rattle.nam_txn.proofs.VerbLemmas.{verb_within}
use Rattle.nam_txn.proofs.txn.Txn.verb.Goals as goal

pub returns-clause-within : goal.returns-clause-within
returns-clause-within c = λ shape of.
    let is = subst (IsTxnOf shape) (sym c.self.view_is) of in
    rw (c.verb.ensures shape is) (verb_within shape (value_of c.self.inside.registers) is)
