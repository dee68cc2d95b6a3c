-- Where a commit answers Locked, another client has listed that lock, in words of clients and logs alone: it holds at
-- the opening, and each step keeps it.
use Rattle.std.specs.Prelude.{List, ℕ}
use Rattle.nam_catalog.specs.Fits.{FitsLimits}
use Rattle.nam_catalog.specs.declared.shape.Shape.{Shape}
use Rattle.nam_ghost.specs.Keys.{KeysOk}
use Rattle.nam_ghost.specs.Locks.{LocksOk}
use Rattle.nam_ghost.specs.Versions.{Chain}
use Rattle.nam_protocol.specs.declared.client.ClientState.{ClientState}
use Rattle.nam_protocol.specs.declared.client.Open.{Open}
use Rattle.nam_refused.specs.Lockers.{IsListed, LockersOk}
use Rattle.nam_refused.specs.RefusedLaw.{EndsWith}
use Rattle.nam_store.specs.Base.{BaseOk}
use Rattle.nam_store.specs.Opening.{AreLoaded, opening_store}
use Rattle.nam_store.specs.Store.{StepsTo, Store}
use Rattle.si_model.specs.declared.log.Lock.{Lock}
use Rattle.si_model.specs.declared.row.Row.{Row}
use Rattle.nam_protocol.specs.declared.txn.TxnAnswer.TheVariants as txn_answer

abbrev pub OpensLaw : Type 0
OpensLaw = (shape : Shape) → FitsLimits shape → (rows : List Row) → AreLoaded shape rows
    → LockersOk (opening_store shape rows)

abbrev pub KeepsLaw : Type 0
KeepsLaw = (shape : Shape) (before after : Store) → StepsTo shape before after → (chains : ℕ → Chain)
    → BaseOk shape before → LocksOk shape before chains → KeysOk shape before chains → LockersOk before
    → LockersOk after

-- the lock that the answer names is one that another client has listed, under the same stamp
abbrev pub ListedLaw : Type 0
ListedLaw = (shape : Shape) (store : Store) (chains : ℕ → Chain) → BaseOk shape store → LocksOk shape store chains
    → KeysOk shape store chains → LockersOk store → (nth : ℕ) (client : ClientState) (attempt : Open) (lock : Lock)
    → EndsWith shape store nth client attempt (txn_answer.Locked lock) → IsListed store.clients nth lock
