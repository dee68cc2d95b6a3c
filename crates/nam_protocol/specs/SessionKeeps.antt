-- What a session keeps of its client: whatever each word of the client and each call that it may be asked keep.
use Rattle.std.specs.Prelude.{◌≡◌, ℕ, ◌≤◌, Bool, true, false, List, Some, is_some}
use Rattle.std.specs.List.{AllByRecursion}
use Rattle.si_model.specs.declared.op.Policy.{Policy}
use Rattle.si_model.specs.declared.log.Finish.{Finish}
use Rattle.nam_verbs.specs.declared.now.Now.{Now}
use Rattle.nam_verbs.specs.declared.now.Now.TheVariants.{At}
use Rattle.nam_catalog.specs.declared.shape.Shape.{Shape}
use Rattle.nam_catalog.specs.Fits.{FitsLimits}
use Rattle.nam_catalog.specs.Greatest.{greatest_number}
use Rattle.nam_calls.specs.Fits.{IsOf}
use Rattle.nam_calls.specs.declared.medic.MedicPoint.{MedicPoint}
use Rattle.nam_protocol.specs.declared.client.Call.{Call}
use Rattle.nam_protocol.specs.declared.client.CallPoint.{CallPoint}
use Rattle.nam_protocol.specs.declared.client.ClientState.{ClientState}
use Rattle.nam_protocol.specs.declared.session.DriverPoint.{DriverPoint}
use Rattle.nam_protocol.specs.declared.session.DriverPoint.TheVariants.{ToAsk}
use Rattle.nam_protocol.specs.declared.session.Job.{Job}
use Rattle.nam_protocol.specs.declared.session.SessionState.{SessionState}
use Rattle.nam_protocol.specs.Client.{client_after, client_ask}
use Rattle.nam_protocol.specs.ClientFits.{ClientFits}
use Rattle.nam_protocol.specs.CutClient.{client_cut, client_treated}
use Rattle.nam_protocol.specs.EventsLaw.{IsReached}
use Rattle.nam_protocol.specs.Own.{MayAsk}
use Rattle.nam_protocol.specs.SessionFits.{JobFits}
use Rattle.nam_protocol.specs.Telling.{new_client}

-- is an operation, or the commit, asked next or running
abbrev pub is_asking : DriverPoint → Bool
is_asking (ToAsk nth) = true
is_asking _ = false

-- a transaction is open exactly for its calls
abbrev pub OpensAsked : SessionState → Type 0
OpensAsked session = is_some session.client.txn ≡ is_asking session.driver.place

-- a client keeps this: with each word that it takes, with each call that it may be asked, with a stop, and with its
-- medic
pub record ClientKeeps (shape : Shape) (Holds : ClientState → Type 0) : Type 0 where
  pub word : (client : ClientState) (place : CallPoint) (found : ℕ) → ClientFits shape client → client.cut ≡ false
      → client.call ≡ Some (At place) → Holds client → Holds (client_after shape client found)
  pub asked : (client : ClientState) (asked : Call) → ClientFits shape client → MayAsk shape client asked
      → Holds client → Holds (client_ask shape client asked)
  pub cut : (client : ClientState) → Holds client → Holds (client_cut client)
  pub treated : (client : ClientState) (medic : Now MedicPoint Finish) → Holds client
      → Holds (client_treated client medic)

-- of any test that a worker's new client passes and that a client keeps: each session that occurs passes it
abbrev pub SessionKeepsLaw : Type 0
SessionKeepsLaw =
    (shape : Shape) → FitsLimits shape → (worker start : ℕ) (jobs : List Job) (policy : Policy)
    → IsOf shape.workers worker → start ≤ greatest_number shape.form → AllByRecursion (JobFits shape) jobs
    → 1 ≤ policy.tries
    → (test : ClientState → Bool) → ClientKeeps shape (λ client. test client ≡ true)
    → test (new_client worker start) ≡ true → (session : SessionState)
    → IsReached shape worker start jobs policy session → test session.client ≡ true
