-- What is claimed of origins holds of each store that comes about, and what it comes to for versions and commits.
use Rattle.std.specs.Prelude.{List, Some, ℕ, ◌+◌, ◌≡◌}
use Rattle.nam_catalog.specs.Fits.{FitsLimits}
use Rattle.nam_catalog.specs.declared.shape.Shape.{Shape}
use Rattle.nam_ghost.specs.Ghost.{Ghost, IsReachedWith, ghost_step, opening_ghost}
use Rattle.nam_ghost.specs.Holders.{holder_of}
use Rattle.nam_ghost.specs.Origins.{HasOrigin, IsDoneAs, OriginsOk}
use Rattle.nam_ghost.specs.Versions.{IsNth, Version}
use Rattle.nam_layout.specs.Address.{IsRow}
use Rattle.nam_protocol.specs.declared.client.ClientState.{ClientState}
use Rattle.nam_store.specs.Base.{BaseOk}
use Rattle.nam_store.specs.Everyone.{Someone}
use Rattle.nam_store.specs.Opening.{AreLoaded, opening_store}
use Rattle.nam_store.specs.Store.{StepsTo, Store, client_at}
use Rattle.si_model.specs.declared.row.Row.{Row}

-- 1. The claims

abbrev pub OpensLaw : Type 0
OpensLaw = (shape : Shape) → FitsLimits shape → (rows : List Row) → AreLoaded shape rows
    → let ghost = opening_ghost shape rows in
    OriginsOk shape (opening_store shape rows) ghost.chains ghost.published

abbrev pub KeepsLaw : Type 0
KeepsLaw = (shape : Shape) (before after : Store) (goes : StepsTo shape before after) (ghost : Ghost)
    → BaseOk shape before → OriginsOk shape before ghost.chains ghost.published
    → let later = ghost_step shape before after goes ghost in OriginsOk shape after later.chains later.published

abbrev pub ReachedLaw : Type 0
ReachedLaw = (shape : Shape) → FitsLimits shape → (rows : List Row) → AreLoaded shape rows → (store : Store)
    → (ghost : Ghost) → IsReachedWith shape rows store ghost → OriginsOk shape store ghost.chains ghost.published

-- 2. What they come to

-- each version but the loader's is what a commit gave one of its records: a published one, or one in flight
abbrev pub WrittenLaw : Type 0
WrittenLaw = (shape : Shape) → FitsLimits shape → (rows : List Row) → AreLoaded shape rows → (store : Store)
    → (ghost : Ghost) → IsReachedWith shape rows store ghost → (row : ℕ) → IsRow shape row → (number : ℕ)
    → (version : Version) → IsNth (ghost.chains row) (number + 1) version
    → Someone (HasOrigin ghost.published row version) store.clients

-- A commit that has given a record its version is still in flight one step later, with this record done, or has
-- published: so it is not refused any more.
abbrev pub StaysLaw : Type 0
StaysLaw = (shape : Shape) → FitsLimits shape → (rows : List Row) → AreLoaded shape rows → (before after : Store)
    → (ghost : Ghost) → IsReachedWith shape rows before ghost → (goes : StepsTo shape before after) → (nth : ℕ)
    → (client : ClientState) → client_at before nth ≡ Some client → (row : ℕ) → (version : Version)
    → IsDoneAs (holder_of client) row version
    → (later : ClientState) × (client_at after nth ≡ Some later)
    × HasOrigin (ghost_step shape before after goes ghost).published row version nth later
