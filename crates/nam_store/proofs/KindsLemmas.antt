-- A client's verb changes no field but of its call's kind.
use Rattle.std.proofs.Common.{List, None, Option, Some, subst, sym, ℕ, ◌≡◌}
use Rattle.std.proofs.lemmas.Option.{none-some}
use Rattle.std.specs.Prelude.{slice_index}
use Rattle.nam_verbs.specs.declared.now.Now.{Now}
use Rattle.nam_verbs.specs.declared.now.Now.TheVariants.{At}
use Rattle.nam_verbs.specs.VerbAt.{target}
use Rattle.nam_catalog.specs.declared.shape.Shape.{Shape}
use Rattle.nam_layout.specs.declared.field.Cells.{Cells}
use Rattle.nam_layout.specs.declared.field.Field.{Field}
use Rattle.nam_layout.specs.declared.field.Place.{Place}
use Rattle.nam_layout.specs.Place.{cells_by, cells_of, place_of}
use Rattle.nam_calls.specs.declared.horizon.CollectPoint.{CollectPoint}
use Rattle.nam_calls.specs.declared.horizon.CollectPoint.TheVariants.{CollectEnding, CollectFree, CollectTag}
use Rattle.nam_calls.specs.declared.horizon.CollectPoint.TheVariants.{HorizonLook, HorizonRaise}
use Rattle.nam_calls.specs.declared.index.ClaimKeyPoint.{ClaimKeyPoint}
use Rattle.nam_calls.specs.declared.index.ClaimKeyPoint.TheVariants.{KeyLook, KeyTake}
use Rattle.nam_calls.specs.declared.index.Path.{Path}
use Rattle.nam_calls.specs.declared.lock.LockPoint.{LockPoint}
use Rattle.nam_calls.specs.declared.lock.LockPoint.TheVariants.{GiveBack, Peek, Seize}
use Rattle.nam_calls.specs.declared.mover.MovePoint.{MovePoint}
use Rattle.nam_calls.specs.declared.mover.MovePoint.TheVariants.{MoveAgain, MoveBack, MoveClaim, MoveCount, MoveEnding}
use Rattle.nam_calls.specs.declared.mover.MovePoint.TheVariants.{MoveFill, MoveFlag, MoveFull, MoveHead, MoveWords}
use Rattle.nam_calls.specs.declared.overflow.ClaimPoint.TheVariants.{ClaimLook, ClaimTake}
use Rattle.nam_calls.specs.declared.overflow.FillPoint.TheVariants.{FillBegin, FillEnding, FillOwner, FillWord}
use Rattle.nam_calls.specs.declared.record.InstallPoint.{InstallPoint}
use Rattle.nam_calls.specs.declared.record.InstallPoint.TheVariants.{InstallCount, InstallHead, InstallWord}
use Rattle.nam_calls.specs.declared.ring.CopyPoint.{CopyPoint}
use Rattle.nam_calls.specs.declared.ring.CopyPoint.TheVariants.{CopyEnding, CopyHead, CopyMark, CopyWord}
use Rattle.nam_calls.specs.Writes.{claim_key_writes, collect_writes, copy_writes, install_writes, lock_writes}
use Rattle.nam_calls.specs.Writes.{move_writes}
use Rattle.nam_protocol.specs.declared.client.Answer.{Answer}
use Rattle.nam_protocol.specs.declared.client.CallPoint.{CallPoint}
use Rattle.nam_protocol.specs.declared.client.CallPoint.TheVariants.{Beginning, Collecting, InTxn, Moving, Scanning}
use Rattle.nam_protocol.specs.declared.client.CallPoint.TheVariants.{Seeking, Snapping}
use Rattle.nam_protocol.specs.declared.client.ClientState.{ClientState}
use Rattle.nam_protocol.specs.declared.client.Open.{Open}
use Rattle.nam_protocol.specs.declared.scan.ScanPoint.TheVariants.{ScanKey, ScanRead}
use Rattle.nam_protocol.specs.declared.txn.CommitPoint.{CommitPoint}
use Rattle.nam_protocol.specs.declared.txn.CommitPoint.TheVariants.{Checking, Clearing, Copying, Counting, Deciding}
use Rattle.nam_protocol.specs.declared.txn.CommitPoint.TheVariants.{Ending, Freeing, Installing, Listing, Locking}
use Rattle.nam_protocol.specs.declared.txn.CommitPoint.TheVariants.{Publishing, Returning, Saving}
use Rattle.nam_protocol.specs.declared.txn.ListPoint.{ListPoint}
use Rattle.nam_protocol.specs.declared.txn.ListPoint.TheVariants.{ListData, ListKind, ListNumber, ListRow, ListState}
use Rattle.nam_protocol.specs.declared.txn.TxnPoint.{TxnPoint}
use Rattle.nam_protocol.specs.declared.txn.TxnPoint.TheVariants.{Claiming, Committing, Finding, Reading}
use Rattle.nam_protocol.specs.declared.txn.TxnState.{TxnState}
use Rattle.nam_protocol.specs.CallWrites.{call_writes, commit_writes, open_writes}
use Rattle.nam_protocol.specs.Commit.{list_verb, places, record_place}
use Rattle.nam_protocol.specs.Operations.{op_path}
use Rattle.nam_protocol.specs.Own.{OwnOpen}
use Rattle.nam_protocol.specs.Plain.{IsAside}
use Rattle.nam_protocol.specs.Reader.{Reader, reader_at}
use Rattle.nam_protocol.specs.Sorts.{IsKeyPlace}
use Rattle.nam_store.specs.Changed.{written_at, written_of}
use Rattle.nam_store.specs.Kinds.{IsCollectField, IsCommitField, IsKeyField, IsMoveField, MayWrite, MayWriteAt, Writes}

-- the field that may be changed, if there is one, is so
abbrev pub AllWritten : (Field → Type 0) → Option Field → Type 0
AllWritten Is None = Unit {0}
AllWritten Is (Some field) = Is field

-- 1. Each call by itself

key_written : (path : Path) (at : ClaimKeyPoint) → AllWritten IsKeyField (claim_key_writes path at)
key_written path (KeyLook passed) = tt
key_written path (KeyTake passed) = tt

module _ (worker : ℕ) where
  abbrev Own : Option Field → Type 0
  Own = AllWritten (IsCommitField worker)

  lock_written : (places : List Place) (held : List ℕ) (at : LockPoint) → Own (lock_writes places held at)
  lock_written places held Peek = tt
  lock_written places held (Seize header) = tt
  lock_written places held (GiveBack given found) = tt

  copy_written : (place : Place) (count : ℕ) (at : CopyPoint) → Own (copy_writes place count at)
  copy_written place count CopyMark = tt
  copy_written place count CopyEnding = tt
  copy_written place count (CopyWord nth) = tt
  copy_written place count CopyHead = tt

  install_written : (place : Place) (at : InstallPoint) → Own (install_writes place at)
  install_written place (InstallWord nth) = tt
  install_written place InstallCount = tt
  install_written place InstallHead = tt

  list_written : (state : TxnState) (at : ListPoint) → state.worker ≡ worker
      → IsCommitField worker (target (list_verb state at))
  list_written state (ListRow nth) own = own
  list_written state (ListKind nth) own = own
  list_written state (ListData nth word) own = own
  list_written state ListNumber own = own
  list_written state ListState own = own

  commit_written : (state : TxnState) (at : CommitPoint) → state.worker ≡ worker → Own (commit_writes state at)
  commit_written state (Listing at) own = list_written state at own
  commit_written state (Locking at) own = lock_written (places state) state.held at
  commit_written state (Checking at) own = tt
  commit_written state (Returning given full) own = tt
  commit_written state (Counting nth) own = own
  commit_written state Deciding own = own
  commit_written state (Saving nth got) own = tt
  commit_written state (Copying nth old at) own =
      copy_written (record_place state nth) (slice_index state.counts nth) at
  commit_written state (Installing nth at) own = install_written (record_place state nth) at
  commit_written state Publishing own = own
  commit_written state (Freeing nth) own = tt
  commit_written state (Clearing refusal) own = own
  commit_written state Ending own = own

move_written : (place : Place) (cells : Cells) (at : MovePoint) → AllWritten IsMoveField (move_writes place cells at)
move_written place cells MoveCount = tt
move_written place cells (MoveHead slot) = tt
move_written place cells (MoveEnding slot header) = tt
move_written place cells (MoveClaim slot header ending (ClaimLook cell)) = tt
move_written place cells (MoveClaim slot header ending (ClaimTake cell tag)) = tt
move_written place cells (MoveWords slot header ending cell tag got) = tt
move_written place cells (MoveFill slot header cell tag version FillOwner) = tt
move_written place cells (MoveFill slot header cell tag version FillBegin) = tt
move_written place cells (MoveFill slot header cell tag version FillEnding) = tt
move_written place cells (MoveFill slot header cell tag version (FillWord nth)) = tt
move_written place cells (MoveAgain slot header cell tag) = tt
move_written place cells (MoveFull slot header cell tag) = tt
move_written place cells (MoveFlag slot header) = tt
move_written place cells (MoveBack header cell tag) = tt

collect_written : (cells : Cells) (at : CollectPoint) → AllWritten IsCollectField (collect_writes cells at)
collect_written cells (HorizonLook known) = tt
collect_written cells (HorizonRaise known found) = tt
collect_written cells (CollectTag known cell) = tt
collect_written cells (CollectEnding known cell tag) = tt
collect_written cells (CollectFree known cell tag) = tt

-- 2. A client

module _ (shape : Shape) (worker : ℕ) where
  open_written : (opened : Option Open) (last : ℕ) (snaps : List (List ℕ)) (at : TxnPoint)
      → OwnOpen worker last snaps opened → AllWritten (MayWrite worker (InTxn at)) (open_writes shape opened at)
  open_written None last snaps at own = tt
  open_written (Some attempt) last snaps (Finding op passed) own = tt
  open_written (Some attempt) last snaps (Reading op position at) own = tt
  open_written (Some attempt) last snaps (Claiming op at) own = key_written (op_path shape op) at
  open_written (Some attempt) last snaps (Committing at) own = commit_written worker attempt.state at own.worker_is

  pub call_may_write : (client : ClientState) (place : CallPoint)
      → OwnOpen worker client.last client.log.snaps client.txn
      → AllWritten (MayWrite worker place) (call_writes shape client place)
  call_may_write client (Beginning txn nth at) own = tt
  call_may_write client (InTxn at) own = open_written client.txn client.last client.log.snaps at own
  call_may_write client (Scanning table low high at) own = tt
  call_may_write client (Seeking table key passed) own = tt
  call_may_write client (Moving table key position at) own =
      let place = place_of shape table position in move_written place (cells_by shape place) at
  call_may_write client (Snapping bucket at) own = tt
  call_may_write client (Collecting bucket prefix seen at) own = collect_written (cells_of shape bucket) at

  -- the field that a client may change is one for its kind of call
  pub written_may : (client : ClientState) (place : CallPoint) → client.call ≡ Some (At place)
      → OwnOpen worker client.last client.log.snaps client.txn
      → AllWritten (Writes worker client) (written_of shape client)
  written_may client place at own =
      subst (λ (call : Option (Now CallPoint Answer)).
      AllWritten (MayWriteAt worker call) (written_at shape client call)) (sym at) (call_may_write client place own)

-- 3. By the sorts of steps

-- where a key is looked at or claimed no other field is written
pub finds_write : (worker : ℕ) (place : CallPoint) (field : Field) → IsKeyPlace place → MayWrite worker place field
    → IsKeyField field
finds_write worker (InTxn (Claiming op at)) field is may = may
finds_write worker (InTxn (Finding op passed)) field is may = absurd may
finds_write worker (Scanning table low high (ScanKey position)) field is may = absurd may
finds_write worker (Seeking table key passed) field is may = absurd may
finds_write worker place field is may = absurd is

-- a reader writes nothing
pub reads_write : (shape : Shape) (worker : ℕ) (opened : Option Open) (place : CallPoint) (reader : Reader)
    (field : Field)
    → reader_at shape opened place ≡ Some reader → MayWrite worker place field → ⊥
reads_write shape worker (Some attempt) (InTxn (Reading op position at)) reader field is may = may
reads_write shape worker (Some attempt) (Scanning table low high (ScanRead position key at)) reader field is may = may
reads_write shape worker opened place reader field is may = none-some reader is

-- neither takes a snapshot, nor belongs to a commit
pub finds_aside : (place : CallPoint) → IsKeyPlace place → IsAside (Some (At place))
finds_aside (InTxn (Claiming op at)) is = tt
finds_aside (InTxn (Finding op passed)) is = tt
finds_aside (Scanning table low high (ScanKey position)) is = tt
finds_aside (Seeking table key passed) is = tt
finds_aside place is = absurd is

pub reads_aside : (shape : Shape) (opened : Option Open) (place : CallPoint) (reader : Reader)
    → reader_at shape opened place ≡ Some reader → IsAside (Some (At place))
reads_aside shape (Some attempt) (InTxn (Reading op position at)) reader is = tt
reads_aside shape (Some attempt) (Scanning table low high (ScanRead position key at)) reader is = tt
reads_aside shape opened place reader is = absurd (none-some reader is)
