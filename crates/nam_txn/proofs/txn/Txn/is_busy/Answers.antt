use Rattle.std.proofs.Common.{subst, refl}
use Rattle.nam_txn.specs.Txn.{Transacting, Runs}
use Rattle.nam_txn.proofs.StandLemmas.{runs_at}
use Rattle.nam_txn.proofs.txn.Txn.is_busy.Goals as goal

pub returns-in_default : goal.returns-in_default
returns-in_default c =
    let a = c.self.inside.registers in
    let runs = runs_at a a.step c.self.invariant.at c.in_default.not-Resting c.in_default.not-Answered in
    (λ t. subst (λ (v : Transacting). Runs v.call) c.self.view_is runs, λ r. refl)
