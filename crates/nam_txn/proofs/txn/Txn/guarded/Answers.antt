use Rattle.std.proofs.Common.{◌≡◌, length, sym, subst, arith}
use Rattle.si_model.specs.Evaluation.{unwritten}
use Rattle.nam_protocol.proofs.FewLemmas.{few_keys}
use Rattle.nam_txn.specs.Txn.{Transacting, IsTxnOf}
use Rattle.nam_txn.proofs.txn.Txn.guarded.Goals as goal

pub returns : goal.returns
returns c = λ shape of.
    let is = subst (IsTxnOf shape) (sym c.self.view_is) of in
    let exact = (few_keys shape c.self.inside.registers.state is.fits).exact in
    let claims = c.len.ensures.value in
    let writes = c.len-2.ensures.value in
    let rest = c.saturating_sub.ensures in
    subst (λ (v : Transacting). c.saturating_sub.result ≡ length (unwritten v.state.writes v.state.guards))
    c.self.view_is (omega arith)
