-- The log of a client that is closed.
use Rattle.std.specs.Prelude.{Option, Some, None}
use Rattle.std.proofs.Common.{◌≡◌, ◌∙◌, ap, refl}
use Rattle.si_model.specs.declared.log.Finish.{Finish}
use Rattle.nam_catalog.specs.declared.shape.Shape.{Shape}
use Rattle.nam_protocol.specs.declared.client.ClientState.{ClientState}
use Rattle.nam_protocol.specs.CutClient.{into_log}
use Rattle.si_model.specs.declared.log.Log.{Log}
use Rattle.nam_client.specs.declared.registers.Registers.{Registers}
use Rattle.nam_client.specs.Registers.{call_of, client_of, medic_of}
use Rattle.nam_client.specs.Fits.{HandFits, IsClientOf}
use Rattle.nam_client.specs.Closing.{ended, finish_listed}

by_registers : (shape : Shape) (client : ClientState) (finish : Option Finish) → client.medic ≡ medic_of finish
    → finish_listed finish (ended shape client).log ≡ into_log shape client
by_registers shape client None e = rw e refl
by_registers shape client (Some how) e = rw e refl

pub closed_is : (shape : Shape) (a b d : Registers) (log : Log) → b.log.log ≡ (ended shape (client_of a)).log
    → b.finish ≡ a.finish → d.log.log ≡ finish_listed b.finish b.log.log → log ≡ d.log.log
    → log ≡ into_log shape (client_of a)
closed_is shape a b d log called finish listed is =
    is ∙ listed ∙ ap (λ how. finish_listed how b.log.log) finish ∙ ap (λ l. finish_listed a.finish l) called
    ∙ by_registers shape (client_of a) a.finish refl

pub log_of : (shape : Shape) (a : Registers) (log : Log)
    → ((other : Shape) → HandFits other a (call_of a.step a) → log ≡ into_log other (client_of a))
    → IsClientOf shape a → log ≡ into_log shape (client_of a)
log_of shape a log is of = is shape of.hand
