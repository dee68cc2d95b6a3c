-- What is claimed of lists holds of each store that comes about, and what it comes to for a client without a published
-- commit in flight.
use Rattle.std.specs.Prelude.{List, Some, false, length, slice_get, ℕ, ◌≡◌}
use Rattle.nam_calls.specs.Memory.{memory}
use Rattle.nam_catalog.specs.Fits.{FitsLimits}
use Rattle.nam_catalog.specs.declared.shape.Shape.{Shape}
use Rattle.nam_ghost.specs.Ghost.{Ghost, IsReachedWith, ghost_step, opening_ghost}
use Rattle.nam_ghost.specs.Keys.{KeysNext, KeysOk}
use Rattle.nam_ghost.specs.Moments.{has_published}
use Rattle.nam_ghost.specs.Origins.{IsListedAs, ListedOk, OriginsOk, listed_commits}
use Rattle.nam_ghost.specs.Publications.{Publication}
use Rattle.nam_origins.specs.Logs.{LogsOk}
use Rattle.nam_protocol.specs.declared.client.ClientState.{ClientState}
use Rattle.nam_store.specs.Base.{BaseOk}
use Rattle.nam_store.specs.Opening.{AreLoaded, opening_store}
use Rattle.nam_store.specs.Store.{StepsTo, Store, client_at}
use Rattle.si_model.specs.Commits.{Published}
use Rattle.si_model.specs.declared.row.Row.{Row}

-- 1. Logs by themselves

abbrev pub LogsOpenLaw : Type 0
LogsOpenLaw = (shape : Shape) → FitsLimits shape → (rows : List Row) → AreLoaded shape rows
    → LogsOk shape (opening_store shape rows) (opening_ghost shape rows).published

abbrev pub LogsKeepLaw : Type 0
LogsKeepLaw = (shape : Shape) (before after : Store) (goes : StepsTo shape before after) (ghost : Ghost)
    → BaseOk shape before → LogsOk shape before ghost.published
    → LogsOk shape after (ghost_step shape before after goes ghost).published

abbrev pub LogsReachedLaw : Type 0
LogsReachedLaw = (shape : Shape) → FitsLimits shape → (rows : List Row) → AreLoaded shape rows → (store : Store)
    → (ghost : Ghost) → IsReachedWith shape rows store ghost → LogsOk shape store ghost.published

-- 2. What they list

abbrev pub ListsOpenLaw : Type 0
ListsOpenLaw = (shape : Shape) → FitsLimits shape → (rows : List Row) → AreLoaded shape rows
    → ListedOk shape (opening_store shape rows) (opening_ghost shape rows).published

-- the keys of written records stand, and stay
abbrev pub ListsKeepLaw : Type 0
ListsKeepLaw = (shape : Shape) (before after : Store) (goes : StepsTo shape before after) (ghost : Ghost)
    → BaseOk shape before → OriginsOk shape before ghost.chains ghost.published → KeysOk shape before ghost.chains
    → KeysNext shape (memory shape before.words) (memory shape after.words) → LogsOk shape before ghost.published
    → ListedOk shape before ghost.published
    → ListedOk shape after (ghost_step shape before after goes ghost).published

-- where no commit that has published is in flight, the log lists all that was published, in order
pub record AreAllListed (shape : Shape) (store : Store) (published : List Publication) (client : ClientState)
    : Type 0 where
  pub count : length (listed_commits client) ≡ length published
  pub each : (k : ℕ) (commit : Publication) → slice_get published k ≡ Some commit
      → (listed : Published) × (slice_get (listed_commits client) k ≡ Some listed)
      × IsListedAs shape (memory shape store.words) commit listed

abbrev pub AllListedLaw : Type 0
AllListedLaw = (shape : Shape) (store : Store) (published : ℕ → List Publication) → ListedOk shape store published
    → (nth : ℕ) (client : ClientState) → client_at store nth ≡ Some client → has_published client.call ≡ false
    → AreAllListed shape store (published nth) client
