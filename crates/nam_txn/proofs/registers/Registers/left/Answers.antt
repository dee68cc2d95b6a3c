use Rattle.std.proofs.Common.{◌≡◌, ◌+◌, sym, subst}
use Rattle.nam_txn.specs.Txn.{left_of, call_at}
use Rattle.nam_txn.specs.declared.step.Step.TheVariants as step
use Rattle.nam_txn.proofs.StandLemmas.{stands}
use Rattle.nam_txn.proofs.VerbLemmas.{read_left_is}
use Rattle.nam_txn.proofs.registers.Registers.left.Goals as goal

pub returns-in-Reading : goal.returns-in-Reading
returns-in-Reading c = λ shape of.
    let a = c.args.self.now in
    let here = stands shape a step.Reading c.in-Reading.is c.requires of in
    subst (λ s. c.read_left.result + c.claim_most-in-Reading.result ≡ left_of shape a.state (call_at s a))
    (sym c.in-Reading.is)
    (read_left_is shape a here.0 c.claim_most-in-Reading.result c.claim_most-in-Reading.ensures.value here.1
    c.read_left.result c.read_left.ensures.value)
