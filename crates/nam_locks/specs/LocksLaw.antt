-- What is claimed of locks holds of each store that comes about, and what it comes to.
use Rattle.std.specs.Prelude.{List, Some, true, ℕ, ◌+◌, ◌≡◌}
use Rattle.nam_catalog.specs.Fits.{FitsLimits}
use Rattle.nam_catalog.specs.declared.shape.Shape.{Shape}
use Rattle.nam_ghost.specs.Ghost.{Ghost, IsReachedWith, ghost_step, opening_ghost}
use Rattle.nam_ghost.specs.Locks.{Lists, LocksOk, header_at}
use Rattle.nam_header.specs.Flag.{holder_named}
use Rattle.nam_header.specs.Header.{header_of}
use Rattle.nam_header.specs.Stamp.{is_locked}
use Rattle.nam_layout.specs.Address.{IsRow}
use Rattle.nam_protocol.specs.declared.client.ClientState.{ClientState}
use Rattle.nam_store.specs.Base.{BaseOk}
use Rattle.nam_store.specs.Everyone.{Someone}
use Rattle.nam_store.specs.Opening.{AreLoaded, opening_store}
use Rattle.nam_store.specs.Reached.{IsReached}
use Rattle.nam_store.specs.Store.{StepsTo, Store, client_at}
use Rattle.si_model.specs.declared.row.Row.{Row}

-- 1. The claims

abbrev pub OpensLaw : Type 0
OpensLaw = (shape : Shape) → FitsLimits shape → (rows : List Row) → AreLoaded shape rows
    → LocksOk shape (opening_store shape rows) (opening_ghost shape rows).chains

abbrev pub KeepsLaw : Type 0
KeepsLaw = (shape : Shape) (before after : Store) (goes : StepsTo shape before after) (ghost : Ghost)
    → BaseOk shape before → LocksOk shape before ghost.chains
    → LocksOk shape after (ghost_step shape before after goes ghost).chains

abbrev pub ReachedLaw : Type 0
ReachedLaw = (shape : Shape) → FitsLimits shape → (rows : List Row) → AreLoaded shape rows → (store : Store)
    → (ghost : Ghost) → IsReachedWith shape rows store ghost → LocksOk shape store ghost.chains

-- 2. In words of clients and headers alone

-- a locked header is listed by some client; in form Held the header names it
abbrev pub LockedLaw : Type 0
LockedLaw = (shape : Shape) → FitsLimits shape → (rows : List Row) → AreLoaded shape rows → (store : Store)
    → IsReached shape rows store → (row : ℕ) → IsRow shape row
    → is_locked shape.form (header_at shape store row) ≡ true
    → Someone (λ nth client. Lists row client
    × ((header_of shape.form (header_at shape store row)).holder ≡ holder_named shape.form (nth + 1))) store.clients

-- what is listed is a row, and its header is locked
abbrev pub ListedLaw : Type 0
ListedLaw = (shape : Shape) → FitsLimits shape → (rows : List Row) → AreLoaded shape rows → (store : Store)
    → IsReached shape rows store → (row nth : ℕ) (client : ClientState) → client_at store nth ≡ Some client
    → Lists row client → IsRow shape row × (is_locked shape.form (header_at shape store row) ≡ true)

-- by one client only
abbrev pub OnceLaw : Type 0
OnceLaw = (shape : Shape) → FitsLimits shape → (rows : List Row) → AreLoaded shape rows → (store : Store)
    → IsReached shape rows store → (row nth other : ℕ) (one two : ClientState) → client_at store nth ≡ Some one
    → client_at store other ≡ Some two → Lists row one → Lists row two → nth ≡ other
