-- Which steps of a commit write the vector: the publication alone.
use Rattle.std.proofs.Common.{List, ap, arith, ℕ, ◌+◌, ◌≡◌}
use Rattle.std.specs.Prelude.{slice_index}
use Rattle.nam_calls.specs.Writes.{copy_writes, install_writes, lock_writes}
use Rattle.nam_calls.specs.declared.lock.LockPoint.{LockPoint}
use Rattle.nam_calls.specs.declared.lock.LockPoint.TheVariants.{GiveBack, Peek, Seize}
use Rattle.nam_calls.specs.declared.record.InstallPoint.{InstallPoint}
use Rattle.nam_calls.specs.declared.record.InstallPoint.TheVariants.{InstallCount, InstallHead, InstallWord}
use Rattle.nam_calls.specs.declared.ring.CopyPoint.{CopyPoint}
use Rattle.nam_calls.specs.declared.ring.CopyPoint.TheVariants.{CopyEnding, CopyHead, CopyMark, CopyWord}
use Rattle.nam_layout.specs.declared.field.Field.{Field}
use Rattle.nam_layout.specs.declared.field.Field.TheVariants.{Entry}
use Rattle.nam_layout.specs.declared.field.Place.{Place}
use Rattle.nam_protocol.specs.CallWrites.{commit_writes}
use Rattle.nam_protocol.specs.Commit.{list_verb, places, record_place}
use Rattle.nam_protocol.specs.declared.txn.CommitPoint.{CommitPoint}
use Rattle.nam_protocol.specs.declared.txn.CommitPoint.TheVariants.{Copying, Installing, Listing, Locking, Publishing}
use Rattle.nam_protocol.specs.declared.txn.ListPoint.{ListPoint}
use Rattle.nam_protocol.specs.declared.txn.ListPoint.TheVariants.{ListData, ListKind, ListNumber, ListRow, ListState}
use Rattle.nam_protocol.specs.declared.txn.TxnState.{TxnState}
use Rattle.nam_store.proofs.KindsLemmas.{AllWritten}
use Rattle.nam_verbs.specs.VerbAt.{target}

abbrev pub IsPublishing : CommitPoint → Type 0
IsPublishing Publishing = Unit {0}
IsPublishing _ = ⊥

-- no word of the vector
abbrev pub IsNoEntry : Field → Type 0
IsNoEntry (Entry worker) = ⊥
IsNoEntry _ = Unit {0}

-- entries of one address are one worker's
pub entry_one : (a b : ℕ) → Entry (a + 1) ≡ Entry (b + 1) → a ≡ b
entry_one a b same = let one = ap worker_in same in omega arith
  where
    worker_in : Field → ℕ
    worker_in (Entry worker) = worker
    worker_in _ = 0

list_no_entry : (state : TxnState) (at : ListPoint) → IsNoEntry (target (list_verb state at))
list_no_entry state (ListRow nth) = tt
list_no_entry state (ListKind nth) = tt
list_no_entry state (ListData nth word) = tt
list_no_entry state ListNumber = tt
list_no_entry state ListState = tt

lock_no_entry : (places : List Place) (held : List ℕ) (at : LockPoint)
    → AllWritten IsNoEntry (lock_writes places held at)
lock_no_entry places held Peek = tt
lock_no_entry places held (Seize header) = tt
lock_no_entry places held (GiveBack given found) = tt

copy_no_entry : (place : Place) (count : ℕ) (at : CopyPoint) → AllWritten IsNoEntry (copy_writes place count at)
copy_no_entry place count CopyMark = tt
copy_no_entry place count CopyEnding = tt
copy_no_entry place count (CopyWord nth) = tt
copy_no_entry place count CopyHead = tt

install_no_entry : (place : Place) (at : InstallPoint) → AllWritten IsNoEntry (install_writes place at)
install_no_entry place (InstallWord nth) = tt
install_no_entry place InstallCount = tt
install_no_entry place InstallHead = tt

pub commit_no_entry : (state : TxnState) (at : CommitPoint) → (IsPublishing at → ⊥)
    → AllWritten IsNoEntry (commit_writes state at)
commit_no_entry state (Listing at) other = list_no_entry state at
commit_no_entry state (Locking at) other = lock_no_entry (places state) state.held at
commit_no_entry state (Copying nth old at) other =
    copy_no_entry (record_place state nth) (slice_index state.counts nth) at
commit_no_entry state (Installing nth at) other = install_no_entry (record_place state nth) at
commit_no_entry state Publishing other = absurd (other tt)
commit_no_entry state _ other = tt
