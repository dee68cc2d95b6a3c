use Rattle.std.proofs.Common.{◌<◌, sym, subst}
use Rattle.nam_txn.specs.Txn.{Transacting, IsTxnOf, Runs, value_of, verbs_left}
use Rattle.nam_txn.proofs.StandLemmas.{taken}
use Rattle.nam_txn.proofs.txn.Txn.take.Goals as goal

pub returns-clause-of : goal.returns-clause-of
returns-clause-of c =
    let shape = c.args.layout.now in
    let a = c.self.inside.registers in
    let of = subst (IsTxnOf shape) (sym c.self.view_is) c.requires.of in
    let runs = subst (λ (v : Transacting). Runs v.call) (sym c.self.view_is) c.requires.runs in
    (taken shape a c.take.new.self of c.args.found runs c.take.ensures.keeps c.take.ensures.after).of

pub returns-clause-falls : goal.returns-clause-falls
returns-clause-falls c =
    let shape = c.args.layout.now in
    let a = c.self.inside.registers in
    let of = subst (IsTxnOf shape) (sym c.self.view_is) c.requires.of in
    let runs = subst (λ (v : Transacting). Runs v.call) (sym c.self.view_is) c.requires.runs in
    subst (λ (v : Transacting). verbs_left shape (value_of c.take.new.self) < verbs_left shape v) c.self.view_is
    (taken shape a c.take.new.self of c.args.found runs c.take.ensures.keeps c.take.ensures.after).falls
