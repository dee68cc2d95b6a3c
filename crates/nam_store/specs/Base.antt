-- What holds of a store whatever else its words say: how many they are, that each is below 2^64, and what each client
-- keeps by itself.
use Rattle.std.specs.Prelude.{◌≡◌, ℕ, ◌+◌, length}
use Rattle.nam_catalog.specs.declared.shape.Shape.{Shape}
use Rattle.nam_catalog.specs.Fits.{FitsLimits}
use Rattle.nam_catalog.specs.Words.{words_of}
use Rattle.nam_calls.specs.Holds.{AreWords}
use Rattle.nam_protocol.specs.declared.client.ClientState.{ClientState}
use Rattle.nam_protocol.specs.Carries.{Carries}
use Rattle.nam_protocol.specs.ClientFits.{ClientFits}
use Rattle.nam_protocol.specs.HoldsWords.{HoldsWords}
use Rattle.nam_protocol.specs.Own.{OpenClient, OwnOk, StageClient, UnreadClient}
use Rattle.nam_store.specs.Everyone.{Everyone}
use Rattle.nam_store.specs.Store.{Store}

-- The nth client by itself: it is its worker's, its point fits, a transaction is open exactly for its calls, its
-- commit's point says so much, nothing that was read is at hand but to its call, it has what its call has found, and
-- all that it may still write is below 2^64.
pub record ClientOk (shape : Shape) (nth : ℕ) (client : ClientState) : Type 0 where
  pub own : OwnOk shape (nth + 1) client
  pub fits : ClientFits shape client
  pub opened : OpenClient client
  pub stage : StageClient client
  pub unread : UnreadClient client
  pub carries : Carries client
  pub holds : HoldsWords shape client

pub record BaseOk (shape : Shape) (store : Store) : Type 0 where
  pub limits : FitsLimits shape
  pub whole : length store.words ≡ words_of shape
  pub words : AreWords store.words
  pub workers : length store.clients ≡ shape.workers
  pub clients : Everyone (ClientOk shape) store.clients
