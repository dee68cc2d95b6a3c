-- What is claimed of the keys that stand holds at the opening, is kept by each step, and so of each store that comes
-- about.
use Rattle.std.specs.Prelude.{List, [], ℕ}
use Rattle.si_model.specs.declared.row.Row.{Row}
use Rattle.nam_catalog.specs.Fits.{FitsLimits}
use Rattle.nam_catalog.specs.declared.shape.Shape.{Shape}
use Rattle.nam_protocol.specs.declared.client.Call.{Call}
use Rattle.nam_store.specs.Base.{BaseOk}
use Rattle.nam_store.specs.Everyone.{Everyone}
use Rattle.nam_store.specs.Opening.{AreLoaded, opening_store}
use Rattle.nam_store.specs.Reached.{Reached, calls_after}
use Rattle.nam_store.specs.Store.{StepsTo, Store}
use Rattle.nam_claimed.specs.Claimed.{ClaimedOk, RunsAskedOps}
use Rattle.nam_tells.specs.AskedLaw.{Tales, no_tales, tales_next}

-- what a step takes of the store before it: what holds of every store, and that what runs was asked
pub record RestsOn (shape : Shape) (store : Store) (calls : ℕ → List Call) : Type 0 where
  pub base : BaseOk shape store
  pub asked : Everyone (λ nth client. RunsAskedOps (calls nth) client) store.clients

abbrev pub OpensLaw : Type 0
OpensLaw = (shape : Shape) (rows : List Row) → AreLoaded shape rows
    → ClaimedOk shape rows (opening_store shape rows) (λ nth. [])

abbrev pub KeepsLaw : Type 0
KeepsLaw = (shape : Shape) (rows : List Row) (before after : Store) (goes : StepsTo shape before after)
    (calls : ℕ → List Call) → RestsOn shape before calls → ClaimedOk shape rows before calls
    → ClaimedOk shape rows after (calls_after shape before after goes calls)

-- the calls that the clients were asked go along with their tellers
abbrev pub ReachedLaw : Type 0
ReachedLaw = (shape : Shape) → FitsLimits shape → (rows : List Row) → AreLoaded shape rows → (store : Store)
    (tales : Tales) → Reached shape rows no_tales (tales_next shape) store tales
    → ClaimedOk shape rows store tales.calls

abbrev pub AskedLaw : Type 0
AskedLaw = (shape : Shape) (rows : List Row) (store : Store) (tales : Tales)
    → Reached shape rows no_tales (tales_next shape) store tales
    → Everyone (λ nth client. RunsAskedOps (tales.calls nth) client) store.clients
