-- What is claimed of the horizon holds at the opening, and each step keeps it; what a client has collected by is behind
-- its later snapshots.
use Rattle.nam_catalog.specs.Fits.{FitsLimits}
use Rattle.nam_catalog.specs.declared.shape.Shape.{Shape}
use Rattle.nam_ghost.specs.Moments.{AtMost, MomentsOk}
use Rattle.nam_protocol.specs.declared.client.CallPoint.TheVariants.{Collecting}
use Rattle.nam_calls.specs.declared.horizon.CollectPoint.{CollectPoint}
use Rattle.nam_protocol.specs.declared.client.ClientState.{ClientState}
use Rattle.nam_protocol.specs.declared.client.Open.{Open}
use Rattle.nam_raised.specs.Raised.{OfEntries, RaisedOk}
use Rattle.nam_store.specs.Base.{BaseOk}
use Rattle.nam_store.specs.Everyone.{Everyone}
use Rattle.nam_store.specs.Opening.{AreLoaded, opening_store}
use Rattle.nam_store.specs.Store.{StepsTo, Store}
use Rattle.nam_tells.specs.Steps.{no_tells, tells_next}
use Rattle.nam_tells.specs.Teller.{IsTold, Teller}
use Rattle.nam_verbs.specs.declared.now.Now.TheVariants.{At}
use Rattle.si_model.specs.Lists.{Pairwise}
use Rattle.si_model.specs.Tells.{Tell, own_snaps}
use Rattle.si_model.specs.declared.row.Row.{Row}
use Rattle.std.specs.List.{AllByRecursion}
use Rattle.std.specs.Prelude.{List, Some, ℕ, ◌≡◌}

-- What is known of the store before a step, proved of each store that comes about: what holds whatever its words say,
-- what is claimed of moments, and that the tellers are the clients'.
pub record RestsOn (shape : Shape) (store : Store) (tellers : ℕ → Teller) : Type 0 where
  pub base : BaseOk shape store
  pub moments : MomentsOk shape store
  pub told : Everyone (λ nth client. IsTold client (tellers nth)) store.clients

-- 1. The claims

abbrev pub OpensLaw : Type 0
OpensLaw = (shape : Shape) → FitsLimits shape → (rows : List Row) → AreLoaded shape rows
    → RaisedOk shape (opening_store shape rows) no_tells

abbrev pub KeepsLaw : Type 0
KeepsLaw = (shape : Shape) (before after : Store) (goes : StepsTo shape before after) (tellers : ℕ → Teller)
    → RestsOn shape before tellers → RaisedOk shape before tellers
    → RaisedOk shape after (tells_next shape before after goes tellers)

-- 2. What a client has collected by

-- the entries of a collection that is told are at most the snapshot's
abbrev pub IsBehind : ℕ → List ℕ → Tell → Type 0
IsBehind workers seen t = OfEntries (λ entries. AtMost workers entries seen) t.event

-- so it is of each snapshot that is told later, of the open transaction's, and of that by which the client collects now
pub record StaysBehind (workers : ℕ) (client : ClientState) (teller : Teller) : Type 0 where
  pub later : Pairwise (λ earlier now. AllByRecursion (λ seen. IsBehind workers seen earlier) (own_snaps now))
      teller.front
  pub opened : (attempt : Open) → client.txn ≡ Some attempt
      → AllByRecursion (IsBehind workers attempt.state.seen) teller.front
  pub collects : (bucket prefix : ℕ) (seen : List ℕ) (at : CollectPoint)
      → client.call ≡ Some (At (Collecting bucket prefix seen at))
      → AllByRecursion (IsBehind workers seen) teller.front

abbrev pub BehindLaw : Type 0
BehindLaw = (shape : Shape) (store : Store) (tellers : ℕ → Teller) → RestsOn shape store tellers
    → RaisedOk shape store tellers
    → Everyone (λ nth client. StaysBehind shape.workers client (tellers nth)) store.clients
