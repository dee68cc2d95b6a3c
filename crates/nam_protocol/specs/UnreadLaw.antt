-- What a call has read is at hand only while the call runs.
use Rattle.std.specs.Prelude.{ℕ}
use Rattle.nam_catalog.specs.declared.shape.Shape.{Shape}
use Rattle.nam_protocol.specs.declared.client.Call.{Call}
use Rattle.nam_protocol.specs.declared.client.ClientState.{ClientState}
use Rattle.nam_protocol.specs.Client.{client_abandon, client_after, client_ask}
use Rattle.nam_protocol.specs.CutClient.{client_cut}
use Rattle.nam_protocol.specs.Own.{Rests, UnreadClient}
use Rattle.nam_protocol.specs.Telling.{new_client}

-- so it is after each call that it is asked at rest and each word, and when it gives its transaction up or is cut off
pub record KeepsUnread (shape : Shape) (client : ClientState) : Type 0 where
  pub asked : (asked : Call) → Rests client.call → UnreadClient (client_ask shape client asked)
  pub word : (found : ℕ) → UnreadClient (client_after shape client found)
  pub abandoned : UnreadClient (client_abandon client)
  pub stopped : UnreadClient (client_cut client)

pub record UnreadLaw : Type 0 where
  pub new : (worker start : ℕ) → UnreadClient (new_client worker start)
  pub keeps : (shape : Shape) (client : ClientState) → UnreadClient client → KeepsUnread shape client
