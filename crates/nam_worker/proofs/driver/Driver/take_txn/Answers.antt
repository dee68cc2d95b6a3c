use Rattle.std.proofs.Common.{subst, sym}
use Rattle.nam_protocol.specs.declared.client.Answer.TheVariants.{Txn}
use Rattle.nam_protocol.specs.declared.session.DriverState.{DriverState}
use Rattle.nam_protocol.specs.Driver.{driver_next}
use Rattle.nam_worker.specs.Answering.{AnswersNext}
use Rattle.nam_worker.specs.Driving.{driver_of}
use Rattle.nam_worker.proofs.DriverLemmas.{counts_taken}
use Rattle.nam_worker.proofs.driver.Driver.take_txn.Goals as goal

pub invariant_of-self : goal.invariant_of-self
invariant_of-self c =
    counts_taken c.args.jobs.now (driver_of c.self.inside.registers) (driver_of c.take_end.new.a) (Txn c.args.«end».now)
    c.self.invariant
    (subst (λ (d : DriverState). AnswersNext (driver_next c.args.jobs.now d) (Txn c.args.«end».now)) (sym c.self.view_is)
    c.requires.asked)
    c.take_end.ensures
