use Rattle.std.proofs.Common.{◌∙◌, ap, sym}
use Rattle.nam_txn.specs.Txn.{Transacting, answer_in}
use Rattle.nam_txn.proofs.StandLemmas.{no_answer}
use Rattle.nam_txn.proofs.txn.Txn.answer.Goals as goal

pub returns-in_default : goal.returns-in_default
returns-in_default c =
    let a = c.self.inside.registers in
    sym (no_answer a a.step c.self.invariant.at c.in_default.not-Answered)
    ∙ ap (λ (v : Transacting). answer_in v.call) c.self.view_is
