-- What is claimed of the moments of snapshots holds of every store that comes about.
use Rattle.std.specs.Prelude.{List, Some, ℕ, ◌≡◌}
use Rattle.nam_catalog.specs.Fits.{FitsLimits}
use Rattle.nam_catalog.specs.declared.shape.Shape.{Shape}
use Rattle.nam_ghost.specs.Moments.{EntriesRise, MomentsNext, MomentsOk, entry_in, number_now}
use Rattle.nam_protocol.specs.declared.client.ClientState.{ClientState}
use Rattle.nam_store.specs.Base.{BaseOk}
use Rattle.nam_store.specs.Opening.{AreLoaded, opening_store}
use Rattle.nam_store.specs.Reached.{IsReached}
use Rattle.nam_store.specs.Store.{StepsTo, Store, client_at}
use Rattle.si_model.specs.declared.row.Row.{Row}

-- 1. The group

abbrev pub OpensLaw : Type 0
OpensLaw = (shape : Shape) → FitsLimits shape → (rows : List Row) → AreLoaded shape rows
    → MomentsOk shape (opening_store shape rows)

abbrev pub KeepsLaw : Type 0
KeepsLaw = (shape : Shape) (before after : Store) → StepsTo shape before after → BaseOk shape before
    → MomentsOk shape before → MomentsOk shape after

-- what its client owes all others
abbrev pub NextLaw : Type 0
NextLaw = (shape : Shape) (before after : Store) (goes : StepsTo shape before after) → BaseOk shape before
    → MomentsOk shape before → MomentsNext shape before after goes

abbrev pub ReachedLaw : Type 0
ReachedLaw = (shape : Shape) → FitsLimits shape → (rows : List Row) → AreLoaded shape rows → (store : Store)
    → IsReached shape rows store → MomentsOk shape store

-- 2. The vector

-- a worker's entry is the number of its last commit, and one more from its publication on to the commit's answer
abbrev pub EntryLaw : Type 0
EntryLaw = (shape : Shape) → FitsLimits shape → (rows : List Row) → AreLoaded shape rows → (store : Store)
    → IsReached shape rows store → (nth : ℕ) (client : ClientState) → client_at store nth ≡ Some client
    → entry_in shape store nth ≡ number_now client.call client.last

-- no step lets an entry fall
abbrev pub RisesLaw : Type 0
RisesLaw = (shape : Shape) (before after : Store) → StepsTo shape before after → BaseOk shape before
    → MomentsOk shape before → EntriesRise shape before after
