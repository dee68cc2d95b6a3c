-- What an operation comes to that looks for its key and reads there: the value that its transaction's snapshot sees.
use Rattle.nam_calls.specs.Memory.{memory}
use Rattle.nam_calls.specs.Words.{capacity_of}
use Rattle.nam_calls.specs.declared.reading.ReadPoint.{ReadPoint}
use Rattle.nam_catalog.specs.declared.shape.Shape.{Shape}
use Rattle.nam_ghost.specs.Ghost.{Ghost}
use Rattle.nam_ghost.specs.Keys.{Bears}
use Rattle.nam_ghost.specs.Law.{WordsOk}
use Rattle.nam_ghost.specs.Wanted.{IsNewest}
use Rattle.nam_layout.specs.Rows.{row_of}
use Rattle.nam_layout.specs.declared.field.Field.TheVariants.{Horizon}
use Rattle.nam_protocol.specs.Txn.{Stepped, at, on_value, over}
use Rattle.nam_protocol.specs.TxnCalls.{txn_after}
use Rattle.nam_protocol.specs.declared.client.CallPoint.TheVariants.{InTxn}
use Rattle.nam_protocol.specs.declared.client.ClientState.{ClientState}
use Rattle.nam_protocol.specs.declared.client.Open.{Open}
use Rattle.nam_protocol.specs.declared.txn.TxnAnswer.TheVariants.{TooOld}
use Rattle.nam_protocol.specs.declared.txn.TxnPoint.{TxnPoint}
use Rattle.nam_protocol.specs.declared.txn.TxnPoint.TheVariants.{Finding, Reading}
use Rattle.nam_protocol.specs.declared.txn.TxnState.{TxnState}
use Rattle.nam_store.specs.Store.{Store, client_at, found_word}
use Rattle.nam_verbs.specs.declared.now.Now.TheVariants.{At}
use Rattle.si_model.specs.Evaluation.{op_key}
use Rattle.si_model.specs.declared.op.Op.{Op}
use Rattle.si_model.specs.declared.row.Key.{Key}
use Rattle.std.specs.Prelude.{List, None, Option, Some, slice_index, ℕ, ◌-◌, ◌<◌, ◌≡◌}

module _ (shape : Shape) (store : Store) (ghost : Ghost) where
  -- The snapshot sees this value of a key: that of the newest version that it sees at the position that bears the key;
  -- or none, where no position bears it.
  pub data Sees (seen : List ℕ) (key : Key) : Option (List ℕ) → Type 0 where
    AtPosition : (position : ℕ) (value : Option (List ℕ))
        → (bears : Bears shape (memory shape store.words) key.table key.key position)
        → (newest : IsNewest seen (ghost.chains (row_of shape.tables key.table position)) value) → Sees seen key value
    Nowhere : (none : (position : ℕ) → position < capacity_of shape key.table
        → (Bears shape (memory shape store.words) key.table key.key position) → ⊥) → Sees seen key None

  -- An operation goes on looking for its key, or reading; or the value that the snapshot sees decides; or a horizon
  -- entry is above the snapshot's, which ends the transaction. It is never astray.
  pub data Goes (state : TxnState) (op : Op) : Stepped → Type 0 where
    Looks : (passed : ℕ) → Goes state op (at state (Finding op passed))
    Reads : (position : ℕ) (point : ReadPoint) → Goes state op (at state (Reading op position point))
    Decides : (value : Option (List ℕ)) → (sees : Sees state.seen (op_key op) value)
        → Goes state op (on_value shape state op value)
    IsTooOld : (worker entry horizon : ℕ) → (entry_is : entry ≡ slice_index state.seen (worker - 1))
        → (horizon_is : horizon ≡ memory shape store.words (Horizon worker)) → (above : entry < horizon)
        → Goes state op (over state (TooOld worker entry horizon))

-- the point is of an operation that looks for its key, or reads there
abbrev pub IsOf : Op → TxnPoint → Type 0
IsOf op (Finding o passed) = o ≡ op
IsOf op (Reading o position point) = o ≡ op
IsOf op _ = ⊥

abbrev pub AnswersLaw : Type 0
AnswersLaw = (shape : Shape) (store : Store) (ghost : Ghost) → WordsOk shape store ghost → (nth : ℕ)
    (client : ClientState) → client_at store nth ≡ Some client → (attempt : Open) → client.txn ≡ Some attempt
    → (point : TxnPoint) → client.call ≡ Some (At (InTxn point)) → (op : Op) → IsOf op point
    → Goes shape store ghost attempt.state op (txn_after shape attempt.state point (found_word shape store client))
