-- Which field the verb of a client's point may change: none where the call only reads there.
use Rattle.std.specs.Prelude.{None, Option, Some, slice_index}
use Rattle.nam_verbs.specs.VerbAt.{target}
use Rattle.nam_catalog.specs.declared.shape.Shape.{Shape}
use Rattle.nam_layout.specs.declared.field.Field.TheVariants.{Entry}
use Rattle.nam_layout.specs.declared.field.Field.{Field}
use Rattle.nam_layout.specs.Place.{cells_by, cells_of, place_of}
use Rattle.nam_calls.specs.Intent.{state_field, count_field}
use Rattle.nam_calls.specs.Lock.{header_field, nth_place}
use Rattle.nam_calls.specs.Writes.{claim_key_writes, collect_writes, copy_writes, install_writes, lock_writes}
use Rattle.nam_calls.specs.Writes.{move_writes}
use Rattle.nam_protocol.specs.declared.client.CallPoint.TheVariants.{Collecting, InTxn, Moving}
use Rattle.nam_protocol.specs.declared.client.CallPoint.{CallPoint}
use Rattle.nam_protocol.specs.declared.client.ClientState.{ClientState}
use Rattle.nam_protocol.specs.declared.client.Open.{Open}
use Rattle.nam_protocol.specs.declared.txn.CommitPoint.TheVariants.{Checking, Copying, Freeing, Installing, Locking}
use Rattle.nam_protocol.specs.declared.txn.CommitPoint.TheVariants.{Publishing, Returning, Saving}
use Rattle.nam_protocol.specs.declared.txn.CommitPoint.TheVariants.{Listing, Counting, Deciding, Clearing, Ending}
use Rattle.nam_protocol.specs.declared.txn.CommitPoint.{CommitPoint}
use Rattle.nam_protocol.specs.declared.txn.TxnPoint.TheVariants.{Finding, Reading, Claiming, Committing}
use Rattle.nam_protocol.specs.declared.txn.TxnPoint.{TxnPoint}
use Rattle.nam_protocol.specs.declared.txn.TxnState.{TxnState}
use Rattle.nam_protocol.specs.Commit.{places, record_place, list_verb}
use Rattle.nam_protocol.specs.Operations.{op_path}

abbrev pub commit_writes : TxnState → CommitPoint → Option Field
commit_writes state (Listing at) = Some (target (list_verb state at))
commit_writes state (Locking at) = lock_writes (places state) state.held at
commit_writes state (Checking at) = None
commit_writes state (Returning given full) = Some (header_field (nth_place (places state) given))
commit_writes state (Counting nth) = Some (count_field state.worker nth)
commit_writes state Deciding = Some (state_field state.worker)
commit_writes state (Saving nth got) = None
commit_writes state (Copying nth old at) = copy_writes (record_place state nth) (slice_index state.counts nth) at
commit_writes state (Installing nth at) = install_writes (record_place state nth) at
commit_writes state Publishing = Some (Entry state.worker)
commit_writes state (Freeing nth) = Some (header_field (nth_place (places state) nth))
commit_writes state (Clearing refusal) = Some (state_field state.worker)
commit_writes state Ending = Some (state_field state.worker)

module _ (shape : Shape) where
  abbrev pub txn_writes : TxnState → TxnPoint → Option Field
  txn_writes state (Finding op passed) = None
  txn_writes state (Reading op position at) = None
  txn_writes state (Claiming op at) = claim_key_writes (op_path shape op) at
  txn_writes state (Committing at) = commit_writes state at

  abbrev pub open_writes : Option Open → TxnPoint → Option Field
  open_writes None at = None
  open_writes (Some attempt) at = txn_writes attempt.state at

  abbrev pub call_writes : ClientState → CallPoint → Option Field
  call_writes client (InTxn at) = open_writes client.txn at
  call_writes client (Moving table key position at) =
      let place = place_of shape table position in move_writes place (cells_by shape place) at
  call_writes client (Collecting bucket prefix seen at) = collect_writes (cells_of shape bucket) at
  call_writes client _ = None
