-- A point's verb may change the field that the table names, and no other.
use Rattle.std.specs.Prelude.{slice_index}
use Rattle.std.proofs.Common.{None, Option, Some, length, refl, ℕ, ◌≡◌}
use Rattle.si_model.specs.Evaluation.{op_key}
use Rattle.nam_catalog.specs.declared.shape.Shape.{Shape}
use Rattle.nam_layout.specs.Place.{cells_by, cells_of, place_of}
use Rattle.nam_calls.specs.Reading.{sight_of}
use Rattle.nam_calls.specs.Writes.{written_by}
use Rattle.nam_calls.proofs.WritesLemmas.{claim_key_written, collect_written, copy_written, install_written}
use Rattle.nam_calls.proofs.WritesLemmas.{lock_written, move_written, read_reads, slot_reads, snap_reads}
use Rattle.nam_protocol.specs.declared.client.CallPoint.TheVariants.{Beginning, Collecting, InTxn, Moving, Scanning}
use Rattle.nam_protocol.specs.declared.client.CallPoint.TheVariants.{Seeking, Snapping}
use Rattle.nam_protocol.specs.declared.client.CallPoint.{CallPoint}
use Rattle.nam_protocol.specs.declared.client.ClientState.{ClientState}
use Rattle.nam_protocol.specs.declared.client.Open.{Open}
use Rattle.nam_protocol.specs.declared.scan.ScanPoint.TheVariants.{ScanKey, ScanRead}
use Rattle.nam_protocol.specs.declared.scan.ScanPoint.{ScanPoint}
use Rattle.nam_protocol.specs.declared.txn.CommitPoint.TheVariants.{Checking, Copying, Freeing, Installing, Locking}
use Rattle.nam_protocol.specs.declared.txn.CommitPoint.TheVariants.{Publishing, Returning, Saving}
use Rattle.nam_protocol.specs.declared.txn.CommitPoint.TheVariants.{Listing, Counting, Deciding, Clearing, Ending}
use Rattle.nam_protocol.specs.declared.txn.ListPoint.TheVariants.{ListRow, ListKind, ListData, ListNumber, ListState}
use Rattle.nam_protocol.specs.declared.txn.CommitPoint.{CommitPoint}
use Rattle.nam_protocol.specs.declared.txn.TxnPoint.TheVariants.{Finding, Reading, Claiming, Committing}
use Rattle.nam_protocol.specs.declared.txn.TxnPoint.{TxnPoint}
use Rattle.nam_protocol.specs.declared.txn.TxnState.{TxnState}
use Rattle.nam_protocol.specs.CallWrites.{call_writes, commit_writes, open_writes, txn_writes}
use Rattle.nam_protocol.specs.Client.{call_verb, open_verb}
use Rattle.nam_protocol.specs.Commit.{commit_verb, new_header, own_stamp, places, record_place, value_at}
use Rattle.nam_protocol.specs.Operations.{op_path}
use Rattle.nam_protocol.specs.Scan.{scan_verb}
use Rattle.nam_protocol.specs.TxnCalls.{txn_verb}

pub commit_written : (state : TxnState) (at : CommitPoint) → written_by (commit_verb state at) ≡ commit_writes state at
commit_written state (Listing (ListRow nth)) = refl
commit_written state (Listing (ListKind nth)) = refl
commit_written state (Listing (ListData nth word)) = refl
commit_written state (Listing ListNumber) = refl
commit_written state (Listing ListState) = refl
commit_written state (Locking at) = lock_written state.worker (places state) state.held at
commit_written state (Checking at) = slot_reads (record_place state (length state.counts)) at
commit_written state (Returning given full) = refl
commit_written state (Counting nth) = refl
commit_written state Deciding = refl
commit_written state (Saving nth got) = refl
commit_written state (Copying nth old at) =
    copy_written (record_place state nth) (slice_index state.counts nth) (slice_index state.held nth) old
    (own_stamp state) at
commit_written state (Installing nth at) =
    install_written (record_place state nth) (value_at state nth) (slice_index state.counts nth)
    (new_header state nth) at
commit_written state Publishing = refl
commit_written state (Freeing nth) = refl
commit_written state (Clearing refusal) = refl
commit_written state Ending = refl

module _ (shape : Shape) where
  pub txn_written : (state : TxnState) (at : TxnPoint)
      → written_by (txn_verb shape state at) ≡ txn_writes shape state at
  txn_written state (Finding op passed) = refl
  txn_written state (Reading op position at) = read_reads (sight_of shape (op_key op).table position) at
  txn_written state (Claiming op at) = claim_key_written (op_path shape op) at
  txn_written state (Committing at) = commit_written state at

  pub scan_reads : (table : ℕ) (at : ScanPoint) → written_by (scan_verb shape table at) ≡ None
  scan_reads table (ScanKey position) = refl
  scan_reads table (ScanRead position key at) = read_reads (sight_of shape table position) at

  open_written : (opened : Option Open) (at : TxnPoint)
      → written_by (open_verb shape opened at) ≡ open_writes shape opened at
  open_written None at = refl
  open_written (Some attempt) at = txn_written attempt.state at

  pub call_written : (client : ClientState) (place : CallPoint)
      → written_by (call_verb shape client place) ≡ call_writes shape client place
  call_written client (Beginning txn nth at) = snap_reads at
  call_written client (InTxn at) = open_written client.txn at
  call_written client (Scanning table low high at) = scan_reads table at
  call_written client (Seeking table key passed) = refl
  call_written client (Moving table key position at) =
      let place = place_of shape table position in move_written place (cells_by shape place) at
  call_written client (Snapping bucket at) = snap_reads at
  call_written client (Collecting bucket prefix seen at) = collect_written (cells_of shape bucket) seen at
