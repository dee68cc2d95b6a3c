use Rattle.std.proofs.Common.{sym, subst, ap, ◌∙◌}
use Rattle.nam_protocol.specs.CutClient.{into_log}
use Rattle.nam_client.specs.Registers.{client_of}
use Rattle.nam_worker.specs.Session.{IsSessionOf}
use Rattle.nam_worker.proofs.MedicLemmas.{medic_stopped, log_finished, log_unfinished, session_log_of}
use Rattle.nam_worker.proofs.session.Session.into_log.Goals as goal
use Rattle.nam_worker.proofs.session.Session.into_log.Goals.{in-Some, in_default}

pub finished-requires-clause-cut : goal.finished-requires-clause-cut
finished-requires-clause-cut c =
    (medic_stopped _ c.in-Some.how c.self.invariant (sym c.finish_of.ensures ∙ c.in-Some.is)).cut

pub finished-requires-clause-once : goal.finished-requires-clause-once
finished-requires-clause-once c =
    (medic_stopped _ c.in-Some.how c.self.invariant (sym c.finish_of.ensures ∙ c.in-Some.is)).unfinished

pub finished-requires-clause-runs : goal.finished-requires-clause-runs
finished-requires-clause-runs c =
    (medic_stopped _ c.in-Some.how c.self.invariant (sym c.finish_of.ensures ∙ c.in-Some.is)).runs

pub returns : goal.returns
returns c shape is =
    let here = subst (IsSessionOf shape) (sym c.self.view_is) is in
    let view = ap (session_log_of shape) c.self.view_is in
    elim c.match-finish_of.branch [
      | in-Some w ↦
          c.into_log.ensures shape (rw w.client-is (w.finished.ensures.of shape here.of))
          ∙ ap (λ r. into_log shape (client_of r)) w.client-is ∙ ap (into_log shape) w.finished.ensures.client
          ∙ log_finished shape _ here w.in-Some.how (sym c.finish_of.ensures ∙ w.in-Some.is) ∙ view
      | in_default w ↦
          c.into_log.ensures shape (rw w.client-is here.of) ∙ ap (λ r. into_log shape (client_of r)) w.client-is
          ∙ log_unfinished shape _ here (sym c.finish_of.ensures ∙ w.in_default.is) ∙ view
    ]
