-- What a client's log has by itself: its events own all written items that it lists, and all snapshots but the one that
-- is still in use. And the rows of what was published are rows of the shape.
use Rattle.std.specs.Prelude.{List, None, Option, Some, [], length, ℕ, ◌++◌, ◌<◌, ◌∷◌, ◌≡◌}
use Rattle.nam_catalog.specs.declared.shape.Shape.{Shape}
use Rattle.nam_ghost.specs.Publications.{Publication}
use Rattle.nam_layout.specs.Address.{IsRow}
use Rattle.nam_protocol.specs.declared.client.Answer.{Answer}
use Rattle.nam_protocol.specs.declared.client.CallPoint.{CallPoint}
use Rattle.nam_protocol.specs.declared.client.CallPoint.TheVariants.{Collecting}
use Rattle.nam_protocol.specs.declared.client.ClientState.{ClientState}
use Rattle.nam_protocol.specs.declared.client.Open.{Open}
use Rattle.nam_store.specs.Everyone.{Everyone}
use Rattle.nam_store.specs.Store.{Store}
use Rattle.nam_verbs.specs.declared.now.Now.{Now}
use Rattle.nam_verbs.specs.declared.now.Now.TheVariants.{At}
use Rattle.si_model.specs.Lists.{Listed}
use Rattle.si_model.specs.Tells.{snaps_in, total, writes_in}

-- The snapshot that the log lists and that no event owns yet: the open transaction's, or the running collection's.
abbrev pub pending : Option Open → Option (Now CallPoint Answer) → List (List ℕ)
pending (Some attempt) call = attempt.state.seen ∷ []
pending None (Some (At (Collecting bucket prefix seen at))) = seen ∷ []
pending None _ = []

pub record LogOk (shape : Shape) (published : ℕ → List Publication) (nth : ℕ) (client : ClientState) : Type 0 where
  pub writes : total writes_in client.log.events ≡ length client.log.writes
  pub owned : List (List ℕ)
  pub snaps : client.log.snaps ≡ owned ++ pending client.txn client.call
  pub all_owned : total snaps_in client.log.events ≡ length owned
  pub rows : (commit : Publication) → Listed commit (published nth) → (p : ℕ) → p < commit.records
      → IsRow shape (commit.row p)

abbrev pub LogsOk : Shape → Store → (ℕ → List Publication) → Type 0
LogsOk shape store published = Everyone (LogOk shape published) store.clients
