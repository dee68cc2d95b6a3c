-- Which keys stand in the words: keys of loaded rows, and keys that operations claim which were asked.
use Rattle.std.specs.List.{AllByRecursion}
use Rattle.std.specs.Prelude.{List, Some, ℕ, ◌<◌, ◌≡◌}
use Rattle.si_model.specs.Evaluation.{key_claimed}
use Rattle.si_model.specs.Lists.{Listed, concat_of}
use Rattle.si_model.specs.Rows.{key_at, row_key}
use Rattle.si_model.specs.declared.op.Op.{Op}
use Rattle.si_model.specs.declared.row.Key.{Key}
use Rattle.si_model.specs.declared.row.Row.{Row}
use Rattle.nam_catalog.specs.declared.shape.Shape.{Shape}
use Rattle.nam_calls.specs.Memory.{memory}
use Rattle.nam_calls.specs.Words.{capacity_of}
use Rattle.nam_protocol.specs.declared.client.Call.{Call}
use Rattle.nam_protocol.specs.declared.client.ClientState.{ClientState}
use Rattle.nam_store.specs.Store.{Store}
use Rattle.nam_ghost.specs.Keys.{Bears}
use Rattle.nam_tells.specs.AskedLaw.{attempts_asked}
use Rattle.nam_tells.specs.Teller.{running}

-- the operations that were asked in a client's attempts, one after another
abbrev pub ops_asked : List Call → List Op
ops_asked calls = concat_of (attempts_asked calls)

-- the operation of the call that runs is one of them
abbrev pub RunsAskedOps : List Call → ClientState → Type 0
RunsAskedOps calls client = AllByRecursion (λ op. Listed op (ops_asked calls)) (running client.call)

-- a loaded row has the key, or an operation claims it that some client was asked
pub data IsLoadedOrAsked (shape : Shape) (rows : List Row) (calls : ℕ → List Call) (key : Key) : Type 0 where
  FromRow : (row : Row) (listed : Listed row rows) (is : row_key row ≡ key) → IsLoadedOrAsked shape rows calls key
  FromOp : (nth : ℕ) (op : Op) (within : nth < shape.workers) (listed : Listed op (ops_asked (calls nth)))
      (claims : key_claimed op ≡ Some key) → IsLoadedOrAsked shape rows calls key

-- each key that a position bears is such a key of its table
abbrev pub ClaimedOk : Shape → List Row → Store → (ℕ → List Call) → Type 0
ClaimedOk shape rows store calls = (table key position : ℕ) → position < capacity_of shape table
    → Bears shape (memory shape store.words) table key position → IsLoadedOrAsked shape rows calls (key_at table key)
