-- What is claimed of the horizon: each entry above the start is that of a collection that some client has told or runs;
-- and no snapshot that a client takes is behind what it has collected by, since entries never fall.
use Rattle.nam_calls.specs.Memory.{memory}
use Rattle.nam_catalog.specs.declared.shape.Shape.{Shape}
use Rattle.nam_ghost.specs.Moments.{AtMost}
use Rattle.nam_layout.specs.declared.field.Field.TheVariants.{Horizon}
use Rattle.nam_protocol.specs.declared.client.ClientState.{ClientState}
use Rattle.nam_protocol.specs.declared.client.Open.{Open}
use Rattle.nam_store.specs.Everyone.{Everyone, Someone}
use Rattle.nam_store.specs.Store.{Store}
use Rattle.nam_tells.specs.Teller.{Teller}
use Rattle.nam_tells.specs.TellsLaw.{tells_now}
use Rattle.si_model.specs.Causes.{collects_entry}
use Rattle.si_model.specs.Lists.{Pairwise}
use Rattle.si_model.specs.Tells.{Tell}
use Rattle.si_model.specs.declared.log.Event.{Event}
use Rattle.si_model.specs.declared.log.Event.TheVariants.{Collected}
use Rattle.std.specs.List.{AllByRecursion, list_any}
use Rattle.std.specs.Prelude.{Bool, IsTrue, List, None, Option, Some, slice_index, ℕ, ◌+◌, ◌<◌, ◌≡◌, ◌⊎◌}

-- 1. What is told of collections

-- does one of the events collect, by a snapshot with this entry for the worker
abbrev pub tells_entry : ℕ → ℕ → List Tell → Bool
tells_entry worker entry tells = list_any (λ (t : Tell). collects_entry worker entry t.event) tells

-- of the entries of a collection; nothing of another event
abbrev pub OfEntries : (List ℕ → Type 0) → Event → Type 0
OfEntries Claim (Collected bucket prefix entries cut) = Claim entries
OfEntries Claim event = Unit {0}

-- the entries that a collection tells are those of its snapshot
abbrev pub ShowsSnap : Tell → Type 0
ShowsSnap t = OfEntries (λ entries. entries ≡ t.snap) t.event

-- 2. The horizon

module _ (shape : Shape) (tellers : ℕ → Teller) where
  -- one of the clients tells a collection with this entry, were its log taken now
  abbrev pub IsCollected : List ClientState → ℕ → ℕ → Type 0
  IsCollected clients worker entry =
      Someone (λ nth client. IsTrue (tells_entry worker entry (tells_now shape (tellers nth) client))) clients

  -- an entry is the start, or one that was collected by
  abbrev pub AreRaised : Store → Type 0
  AreRaised store =
      (a : ℕ) → a < shape.workers → let entry = memory shape store.words (Horizon (a + 1)) in
      (entry ≡ shape.start) ⊎ IsCollected store.clients (a + 1) entry

-- 3. One client by itself

-- its open transaction's snapshot has its own last number
abbrev pub SeesLast : ℕ → ℕ → Option Open → Type 0
SeesLast nth last None = Unit {0}
SeesLast nth last (Some attempt) = slice_index attempt.state.seen nth ≡ last

-- Each snapshot that it has taken is at most those that it took later; collections tell the entries of their snapshots.
pub record SnapsRise (workers nth : ℕ) (client : ClientState) (teller : Teller) : Type 0 where
  pub rising : Pairwise (AtMost workers) client.log.snaps
  pub shows : AllByRecursion ShowsSnap teller.front
  pub last : SeesLast nth client.last client.txn

-- 4. A store with its tellers

pub record RaisedOk (shape : Shape) (store : Store) (tellers : ℕ → Teller) : Type 0 where
  pub entries : AreRaised shape tellers store
  pub each : Everyone (λ nth client. SnapsRise shape.workers nth client (tellers nth)) store.clients
