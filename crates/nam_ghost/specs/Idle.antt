-- A client that runs no commit: it holds nothing, and changes no chain. And a client at a point: what its verb does.
use Rattle.std.specs.Prelude.{Option, Some, ℕ, ◌+◌, ◌≡◌}
use Rattle.nam_catalog.specs.declared.shape.Shape.{Shape}
use Rattle.nam_layout.specs.Address.{IsField}
use Rattle.nam_layout.specs.declared.field.Field.{Field}
use Rattle.nam_protocol.specs.declared.client.Answer.{Answer}
use Rattle.nam_protocol.specs.declared.client.CallPoint.{CallPoint}
use Rattle.nam_protocol.specs.declared.client.CallPoint.TheVariants.{InTxn}
use Rattle.nam_protocol.specs.declared.client.ClientState.{ClientState}
use Rattle.nam_protocol.specs.declared.client.Open.{Open}
use Rattle.nam_protocol.specs.declared.txn.TxnPoint.TheVariants.{Committing}
use Rattle.nam_store.specs.Changed.{Changed, OthersStay, written_of}
use Rattle.nam_store.specs.Kinds.{MayWrite}
use Rattle.nam_store.specs.Store.{next_verb}
use Rattle.nam_verbs.specs.VerbAt.{left_at, target}
use Rattle.nam_verbs.specs.declared.now.Now.{Now}
use Rattle.nam_verbs.specs.declared.now.Now.TheVariants.{At}

abbrev pub IsIdle : Option (Now CallPoint Answer) → Type 0
IsIdle (Some (At (InTxn (Committing at)))) = ⊥
IsIdle _ = Unit {0}

-- two clients: the second one runs no commit, and is the same worker's
abbrev pub Idles : ClientState → ClientState → Type 0
Idles client after = IsIdle after.call × (after.worker ≡ client.worker)

-- what the verb of the nth client does at a point
pub record Verb (shape : Shape) (m now : Field → ℕ) (nth : ℕ) (before : ClientState) (place : CallPoint) : Type 0 where
  pub changed : Changed shape m now (target (next_verb shape before)) (left_at m (next_verb shape before))
  pub leaves : OthersStay shape m now (written_of shape before)
  pub kinds : (field : Field) → IsField shape field → (MayWrite (nth + 1) place field → ⊥) → now field ≡ m field

-- a client with this transaction, at this point
abbrev pub at_place : ClientState → Option Open → CallPoint → ClientState
at_place client opened place = record client { call = Some (At place); txn = opened }
