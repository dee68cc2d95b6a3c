-- What each verb makes of what is known: chains, rings, cells and publications after a point of a call, by the word
-- that its verb found.
use Rattle.nam_calls.specs.declared.horizon.CollectPoint.{CollectPoint}
use Rattle.nam_calls.specs.declared.horizon.CollectPoint.TheVariants.{CollectFree}
use Rattle.nam_calls.specs.declared.lock.LockPoint.{LockPoint}
use Rattle.nam_calls.specs.declared.lock.LockPoint.TheVariants.{GiveBack, Peek, Seize}
use Rattle.nam_calls.specs.declared.mover.MovePoint.{MovePoint}
use Rattle.nam_calls.specs.declared.mover.MovePoint.TheVariants.{MoveBack, MoveClaim, MoveFlag, MoveFull}
use Rattle.nam_calls.specs.declared.overflow.ClaimPoint.TheVariants.{ClaimTake}
use Rattle.nam_calls.specs.declared.record.InstallPoint.{InstallPoint}
use Rattle.nam_calls.specs.declared.record.InstallPoint.TheVariants.{InstallCount, InstallHead, InstallWord}
use Rattle.nam_calls.specs.declared.ring.CopyPoint.{CopyPoint}
use Rattle.nam_calls.specs.declared.ring.CopyPoint.TheVariants.{CopyEnding, CopyHead, CopyMark, CopyWord}
use Rattle.nam_catalog.specs.declared.form.Form.{Form}
use Rattle.nam_catalog.specs.declared.shape.Shape.{Shape}
use Rattle.nam_ghost.specs.Cells.{CellMap, ClaimedBy, FreeCell, Stores, put_cell}
use Rattle.nam_ghost.specs.Holders.{record_row}
use Rattle.nam_ghost.specs.Publications.{Publication, publication_of}
use Rattle.nam_ghost.specs.Slots.{Ring, copy_ended, flagged, marked, with_copy}
use Rattle.nam_ghost.specs.Versions.{Chain, Version, number_by, versions}
use Rattle.nam_header.specs.Stamp.{stamp_in}
use Rattle.nam_header.specs.Tag.{has_next}
use Rattle.nam_layout.specs.Place.{bucket_of, slot_of}
use Rattle.nam_layout.specs.Rows.{row_of}
use Rattle.nam_protocol.specs.Commit.{own_stamp, record_place, value_at}
use Rattle.nam_protocol.specs.declared.client.CallPoint.{CallPoint}
use Rattle.nam_protocol.specs.declared.client.CallPoint.TheVariants.{Collecting, InTxn, Moving}
use Rattle.nam_protocol.specs.declared.client.Open.{Open}
use Rattle.nam_protocol.specs.declared.txn.CommitPoint.{CommitPoint}
use Rattle.nam_protocol.specs.declared.txn.CommitPoint.TheVariants.{Copying, Freeing, Installing, Locking, Publishing}
use Rattle.nam_protocol.specs.declared.txn.CommitPoint.TheVariants.{Returning}
use Rattle.nam_protocol.specs.declared.txn.TxnPoint.TheVariants.{Committing}
use Rattle.nam_protocol.specs.declared.txn.TxnState.{TxnState}
use Rattle.nam_store.specs.Everyone.{put}
use Rattle.si_model.specs.declared.log.Stamp.{Stamp}
use Rattle.std.specs.Prelude.{List, Option, Some, [], false, if◌then◌else◌, length, slice_index, true, ℕ, ◌++◌, ◌==◌}
use Rattle.std.specs.Prelude.{◌∷◌}

-- 1. Chains: the lock is taken by the exchange that succeeds; it is given up by the write of a header

abbrev pub locked_for : ℕ → Chain → Chain
locked_for worker chain = record chain { holder = worker }

abbrev pub given_back : Chain → Chain
given_back chain = record chain { holder = 0 }

abbrev pub new_version : TxnState → ℕ → Version
new_version state nth = record { stamp = own_stamp state; value = value_at state nth; seen = state.seen }

abbrev pub renewed : Version → Chain → Chain
renewed version chain =
    record { old = versions chain; now = version; holder = 0; dirty = false; counted = false }

-- the chain of a commit's record is changed so
abbrev pub at_record : TxnState → ℕ → (ℕ → Chain) → (Chain → Chain) → ℕ → Chain
at_record state nth chains change = put chains (record_row state nth) (change (chains (record_row state nth)))

abbrev pub lock_chains : TxnState → LockPoint → ℕ → (ℕ → Chain) → ℕ → Chain
lock_chains state Peek found chains = chains
lock_chains state (Seize header) found chains =
    if found == header then at_record state (length state.held) chains (locked_for state.worker) else chains
lock_chains state (GiveBack given word) found chains = at_record state given chains given_back

abbrev pub install_chains : TxnState → ℕ → InstallPoint → (ℕ → Chain) → ℕ → Chain
install_chains state nth (InstallWord word) chains =
    at_record state nth chains (λ chain. record chain { dirty = true })
install_chains state nth InstallCount chains = at_record state nth chains (λ chain. record chain { counted = true })
install_chains state nth InstallHead chains = at_record state nth chains (renewed (new_version state nth))

abbrev pub commit_chains : TxnState → CommitPoint → ℕ → (ℕ → Chain) → ℕ → Chain
commit_chains state (Locking at) found chains = lock_chains state at found chains
commit_chains state (Returning given full) found chains = at_record state given chains given_back
commit_chains state (Installing nth at) found chains = install_chains state nth at chains
commit_chains state (Freeing nth) found chains = at_record state nth chains given_back
commit_chains state _ found chains = chains

-- 2. Rings: a copy is there with its header, and no longer of the current version once the next one is

abbrev pub at_ring : ℕ → (ℕ → Ring) → (Ring → Ring) → ℕ → Ring
at_ring row rings change = put rings row (change (rings row))

-- the slot of a written record, by the number that was found
abbrev pub record_slot : TxnState → ℕ → ℕ
record_slot state nth = slot_of (record_place state nth) (slice_index state.counts nth)

abbrev pub copy_rings : TxnState → ℕ → CopyPoint → (ℕ → Chain) → (ℕ → Ring) → ℕ → Ring
copy_rings state nth CopyMark chains rings =
    at_ring (record_row state nth) rings (marked (record_slot state nth))
copy_rings state nth CopyEnding chains rings = rings
copy_rings state nth (CopyWord word) chains rings = rings
copy_rings state nth CopyHead chains rings = at_ring (record_row state nth) rings
    (with_copy (chains (record_row state nth)) (own_stamp state) (record_slot state nth))

abbrev pub commit_rings : TxnState → CommitPoint → (ℕ → Chain) → (ℕ → Ring) → ℕ → Ring
commit_rings state (Copying nth old at) chains rings = copy_rings state nth at chains rings
commit_rings state (Installing nth InstallHead) chains rings = at_ring (record_row state nth) rings copy_ended
commit_rings state _ chains rings = rings

-- a mover's exchange of the slot's header, where it succeeds
abbrev pub move_rings : ℕ → MovePoint → ℕ → (ℕ → Ring) → ℕ → Ring
move_rings row (MoveFlag slot header) found rings =
    if found == header then at_ring row rings (flagged slot) else rings
move_rings row _ found rings = rings

-- 3. Cells: claimed by the exchange that succeeds; full, or free again, by the mover's last write; freed by the
-- collector's exchange that succeeds. A tag of the last generation has no next one, and stays: the cell is written for
-- good, by nobody.

-- the number of the version whose header was read
abbrev pub header_number : Form → Chain → ℕ → ℕ
header_number form chain header = number_by (versions chain) (stamp_in form header)

module _ (shape : Shape) where
  abbrev pub move_cells : ℕ → ℕ → MovePoint → ℕ → (ℕ → Chain) → CellMap → CellMap
  move_cells worker row (MoveClaim slot header ending (ClaimTake cell tag)) found chains cells =
      if found == tag then put_cell cells (bucket_of shape row) cell (ClaimedBy worker) else cells
  move_cells worker row (MoveFull slot header cell tag) found chains cells =
      put_cell cells (bucket_of shape row) cell (Stores row (header_number shape.form (chains row) header))
  move_cells worker row (MoveBack header cell tag) found chains cells =
      if has_next tag then put_cell cells (bucket_of shape row) cell FreeCell else cells
  move_cells worker row _ found chains cells = cells

  abbrev pub collect_cells : ℕ → CollectPoint → ℕ → CellMap → CellMap
  collect_cells bucket (CollectFree known cell tag) found cells =
      if found == tag then put_cell cells bucket cell FreeCell else cells
  collect_cells bucket _ found cells = cells

-- 4. A client's point

abbrev pub chains_after : Option Open → CallPoint → ℕ → (ℕ → Chain) → ℕ → Chain
chains_after (Some attempt) (InTxn (Committing at)) found chains = commit_chains attempt.state at found chains
chains_after opened place found chains = chains

abbrev pub rings_after : Shape → Option Open → CallPoint → ℕ → (ℕ → Chain) → (ℕ → Ring) → ℕ → Ring
rings_after shape (Some attempt) (InTxn (Committing at)) found chains rings =
    commit_rings attempt.state at chains rings
rings_after shape opened (Moving table key position at) found chains rings =
    move_rings (row_of shape.tables table position) at found rings
rings_after shape opened place found chains rings = rings

abbrev pub cells_after : Shape → ℕ → CallPoint → ℕ → (ℕ → Chain) → CellMap → CellMap
cells_after shape worker (Moving table key position at) found chains cells =
    move_cells shape worker (row_of shape.tables table position) at found chains cells
cells_after shape worker (Collecting bucket prefix seen at) found chains cells =
    collect_cells shape bucket at found cells
cells_after shape worker place found chains cells = cells

-- the nth client's publications
abbrev pub published_after : ℕ → Option Open → CallPoint → (ℕ → List Publication) → ℕ → List Publication
published_after nth (Some attempt) (InTxn (Committing Publishing)) published =
    put published nth (published nth ++ publication_of attempt.state ∷ [])
published_after nth opened place published = published

-- the stamps of publications, in the order of time
abbrev pub order_after : Option Open → CallPoint → List Stamp → List Stamp
order_after (Some attempt) (InTxn (Committing Publishing)) order = order ++ own_stamp attempt.state ∷ []
order_after opened place order = order
