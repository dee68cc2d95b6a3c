use Rattle.std.proofs.Common.{◌≡◌, ◌≤◌, [], sym, subst}
use Rattle.nam_protocol.specs.TxnFits.{TxnCallFits, txn_call_bound}
use Rattle.nam_txn.specs.Txn.{Transacting, IsTxnOf, value_of, verbs_left}
use Rattle.nam_txn.proofs.StandLemmas.{asked}
use Rattle.nam_txn.proofs.txn.Txn.ask.Goals as goal

pub returns-clause-of : goal.returns-clause-of
returns-clause-of c =
    let shape = c.args.layout.now in
    let a = c.self.inside.registers in
    let of = subst (IsTxnOf shape) (sym c.self.view_is) c.requires.of in
    let fits = subst (λ (v : Transacting). TxnCallFits shape v.state c.args.call.now) (sym c.self.view_is)
    c.requires.fits in
    let none = subst (λ (v : Transacting). v.state.held ≡ []) (sym c.self.view_is) c.requires.unlocked in
    (asked shape a c.ask.new.self of c.args.call.now fits none c.ask.ensures.keeps c.ask.ensures.value).of

pub returns-clause-left : goal.returns-clause-left
returns-clause-left c =
    let shape = c.args.layout.now in
    let a = c.self.inside.registers in
    let of = subst (IsTxnOf shape) (sym c.self.view_is) c.requires.of in
    let fits = subst (λ (v : Transacting). TxnCallFits shape v.state c.args.call.now) (sym c.self.view_is)
    c.requires.fits in
    let none = subst (λ (v : Transacting). v.state.held ≡ []) (sym c.self.view_is) c.requires.unlocked in
    subst (λ (v : Transacting). verbs_left shape (value_of c.ask.new.self) ≤ txn_call_bound shape v.state c.args.call.now)
    c.self.view_is
    (asked shape a c.ask.new.self of c.args.call.now fits none c.ask.ensures.keeps c.ask.ensures.value).left
