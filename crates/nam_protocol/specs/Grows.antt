-- A client's log only grows: what it lists stands for good, and more may follow.
use Rattle.std.specs.Prelude.{◌≡◌, ℕ}
use Rattle.si_model.specs.Lists.{IsFront}
use Rattle.si_model.specs.declared.log.Log.{Log}
use Rattle.nam_catalog.specs.declared.shape.Shape.{Shape}
use Rattle.nam_protocol.specs.declared.client.Call.{Call}
use Rattle.nam_protocol.specs.declared.client.ClientState.{ClientState}
use Rattle.nam_protocol.specs.declared.session.SessionState.{SessionState}
use Rattle.nam_protocol.specs.Client.{client_ask, client_after, client_abandon}
use Rattle.nam_protocol.specs.CutClient.{client_cut, into_log}
use Rattle.nam_protocol.specs.Session.{session_after, session_cut}

-- each list of the old log is a front of the new one's
pub record Grows (old new : Log) : Type 0 where
  pub events : IsFront old.events new.events
  pub reads : IsFront old.reads new.reads
  pub locks : IsFront old.locks new.locks
  pub writes : IsFront old.writes new.writes
  pub snaps : IsFront old.snaps new.snaps

module _ (shape : Shape) where
  -- by a word that is taken, by a call that is asked, by giving up, by a stop, and by closing the client
  pub record LogsGrow : Type 0 where
    pub word : (client : ClientState) (found : ℕ) → Grows client.log (client_after shape client found).log
    pub asked : (client : ClientState) (call : Call) → Grows client.log (client_ask shape client call).log
    pub abandoned : (client : ClientState) → Grows client.log (client_abandon client).log
    pub cut : (client : ClientState) → (client_cut client).log ≡ client.log
    pub closed : (client : ClientState) → Grows client.log (into_log shape client)

  -- the same of a session, which asks its calls by itself
  pub record SessionLogsGrow : Type 0 where
    pub word : (session : SessionState) (found : ℕ)
        → Grows session.client.log (session_after shape session found).client.log
    pub cut : (session : SessionState) → (session_cut shape.form session).client.log ≡ session.client.log
