use Rattle.std.proofs.Common.{sym, subst}
use Rattle.nam_worker.specs.Session.{IsSessionOf}
use Rattle.nam_worker.proofs.MedicLemmas.{medic_within}
use Rattle.nam_worker.proofs.session.Session.verb.Goals as goal

pub returns-in-Some-clause-within : goal.returns-in-Some-clause-within
returns-in-Some-clause-within c shape is =
    rw c.verb.ensures (medic_within shape _ (subst (IsSessionOf shape) (sym c.self.view_is) is) c.in-Some.medic
    c.in-Some.is)
