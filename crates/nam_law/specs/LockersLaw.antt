-- Whose lock it is that stood in a commit's way: in each store that comes about, in words of clients and logs alone.
use Rattle.nam_catalog.specs.Fits.{FitsLimits}
use Rattle.nam_catalog.specs.declared.shape.Shape.{Shape}
use Rattle.nam_protocol.specs.declared.client.ClientState.{ClientState}
use Rattle.nam_protocol.specs.declared.client.Open.{Open}
use Rattle.nam_refused.specs.Lockers.{IsListed, LockersOk}
use Rattle.nam_refused.specs.RefusedLaw.{EndsWith}
use Rattle.nam_store.specs.Opening.{AreLoaded}
use Rattle.nam_store.specs.Reached.{IsReached}
use Rattle.nam_store.specs.Store.{Store}
use Rattle.si_model.specs.declared.log.Lock.{Lock}
use Rattle.si_model.specs.declared.row.Row.{Row}
use Rattle.std.specs.Prelude.{List, ℕ}
use Rattle.nam_protocol.specs.declared.txn.TxnAnswer.TheVariants as txn_answer

abbrev pub ReachedLaw : Type 0
ReachedLaw = (shape : Shape) → FitsLimits shape → (rows : List Row) → AreLoaded shape rows → (store : Store)
    → IsReached shape rows store → LockersOk store

-- the lock that the answer Locked names is one that another client has listed, under the same stamp
abbrev pub ListedLaw : Type 0
ListedLaw = (shape : Shape) → FitsLimits shape → (rows : List Row) → AreLoaded shape rows → (store : Store)
    → IsReached shape rows store → (nth : ℕ) (client : ClientState) (attempt : Open) (lock : Lock)
    → EndsWith shape store nth client attempt (txn_answer.Locked lock) → IsListed store.clients nth lock
