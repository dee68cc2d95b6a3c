-- What each step goes by, whatever the shape is; and where its verb's field stands.
use Rattle.std.specs.Prelude.{◌≡◌, ℕ, ◌+◌, ◌-◌, ◌<◌, ◌≤◌, length, List}
use Rattle.nam_verbs.specs.declared.now.Now.{Now}
use Rattle.nam_verbs.specs.declared.now.Now.TheVariants.{At, Over}
use Rattle.nam_catalog.specs.declared.bounds.TheConstants.{MOST_WORDS, INTENT_WORDS}
use Rattle.nam_header.specs.Stamp.{FitsStamp}
use Rattle.nam_layout.specs.declared.field.Field.{Field}
use Rattle.nam_layout.specs.declared.field.Field.TheVariants.{Intent, Entry}
use Rattle.nam_layout.specs.declared.field.Place.{Place}
use Rattle.nam_layout.specs.Place.{position_address}
use Rattle.nam_layout.specs.PlaceFits.{FitsPlace}
use Rattle.nam_calls.specs.declared.lock.LockPoint.{LockPoint}
use Rattle.nam_calls.specs.declared.lock.LockPoint.TheVariants.{Peek, Seize, GiveBack}
use Rattle.nam_calls.specs.Fits.{HasWidth, LockFits, WordsFit, WordsEnd, CopyFits, InstallFits}
use Rattle.nam_protocol.specs.declared.txn.TxnState.{TxnState}
use Rattle.nam_protocol.specs.declared.txn.TxnAnswer.{TxnAnswer}
use Rattle.nam_protocol.specs.declared.txn.ListPoint.{ListPoint}
use Rattle.nam_protocol.specs.declared.txn.ListPoint.TheVariants.{ListRow, ListKind, ListData, ListNumber, ListState}
use Rattle.nam_protocol.specs.declared.txn.CommitPoint.{CommitPoint}
use Rattle.nam_protocol.specs.declared.txn.CommitPoint.TheVariants.{Locking, Checking, Returning, Saving, Copying}
use Rattle.nam_protocol.specs.declared.txn.CommitPoint.TheVariants.{Installing, Publishing, Freeing}
use Rattle.nam_protocol.specs.declared.txn.CommitPoint.TheVariants.{Listing, Counting, Deciding, Clearing, Ending}
use Rattle.nam_protocol.specs.Commit.{record_place, value_at, own_stamp}

-- 1. At each step

-- there is a written record, the written ones are the first, and the next number is a word
pub record CommonStands (state : TxnState) : Type 0 where
  pub some : 1 ≤ length state.writes
  pub written : length state.writes ≤ length state.records
  pub few : length state.records ≤ 16
  pub worker_least : 1 ≤ state.worker
  pub worker_most : state.worker ≤ 16
  pub number : state.last < 35184372088831

-- 2. At a record, and at a written one

pub record RecordStands (state : TxnState) (nth : ℕ) : Type 0 where
  pub within : nth < length state.records
  pub place : FitsPlace (record_place state nth)

pub record WrittenStands (state : TxnState) (nth : ℕ) : Type 0 where
  pub written : nth < length state.writes
  pub within : nth < length state.records
  pub place : FitsPlace (record_place state nth)
  pub stamp : FitsStamp (record_place state nth).form (own_stamp state)
  pub value : HasWidth (record_place state nth).width (value_at state nth)

-- at all records
abbrev pub AllPlaced : TxnState → Type 0
AllPlaced state = (nth : ℕ) → nth < length state.records → FitsPlace (record_place state nth)

-- 3. At a point

-- the headers of all locks and the numbers of all written records are known
abbrev pub AllKnown : TxnState → Type 0
AllKnown state = (length state.held ≡ length state.records) × (length state.counts ≡ length state.writes)

abbrev pub ListStands : TxnState → ListPoint → Type 0
ListStands state (ListRow nth) = RecordStands state nth
ListStands state (ListKind nth) = RecordStands state nth
ListStands state (ListData nth word) = WrittenStands state nth × (word < (record_place state nth).width)
ListStands state ListNumber = Unit {0}
ListStands state ListState = Unit {0}

abbrev pub PointStands : TxnState → CommitPoint → Type 0
PointStands state (Listing at) = (length state.held ≡ 0) × ListStands state at
PointStands state (Locking at) = LockFits (length state.records) state.held at
PointStands state (Checking at) =
    (length state.counts < length state.writes) × RecordStands state (length state.counts)
PointStands state (Returning given full) =
    (length state.held ≡ length state.records) × (given < length state.records)
PointStands state (Counting nth) = (length state.counts ≡ length state.writes) × (nth < length state.writes)
PointStands state Deciding = Unit {0}
PointStands state (Saving nth got) = WrittenStands state nth × WordsFit (record_place state nth) got
PointStands state (Copying nth old at) =
    AllKnown state × WrittenStands state nth × WordsEnd (record_place state nth) old
    × CopyFits (record_place state nth) at
PointStands state (Installing nth at) =
    AllKnown state × WrittenStands state nth × InstallFits (record_place state nth) at
PointStands state Publishing = Unit {0}
PointStands state (Freeing nth) = (length state.held ≡ length state.records) × (nth < length state.records)
PointStands state (Clearing refusal) = Unit {0}
PointStands state Ending = Unit {0}

abbrev pub NowStands : TxnState → Now CommitPoint TxnAnswer → Type 0
NowStands state (At at) = CommonStands state × PointStands state at
NowStands state (Over end) = Unit {0}

-- where the commit is not over
abbrev pub NowPlaced : TxnState → Now CommitPoint TxnAnswer → Type 0
NowPlaced state (At at) = AllPlaced state
NowPlaced state (Over end) = Unit {0}

-- 4. Where the field of its verb stands

-- a word of the intent that begins there
abbrev pub intent_address : ℕ → Field → ℕ
intent_address intent_at (Intent worker nth) = intent_at + nth
intent_address intent_at _ = 0

-- the worker's own entry
abbrev pub entry_address : Field → ℕ
entry_address (Entry worker) = worker - 1
entry_address _ = 0

-- the record that a locking is at
abbrev pub lock_place : TxnState → LockPoint → Place
lock_place state Peek = record_place state (length state.held)
lock_place state (Seize header) = record_place state (length state.held)
lock_place state (GiveBack given found) = record_place state given

abbrev pub point_address : TxnState → ℕ → CommitPoint → Field → ℕ
point_address state intent_at (Listing at) = intent_address intent_at
point_address state intent_at (Locking at) = position_address (lock_place state at)
point_address state intent_at (Checking at) = position_address (record_place state (length state.counts))
point_address state intent_at (Returning given full) = position_address (record_place state given)
point_address state intent_at (Counting nth) = intent_address intent_at
point_address state intent_at Deciding = intent_address intent_at
point_address state intent_at (Saving nth got) = position_address (record_place state nth)
point_address state intent_at (Copying nth old at) = position_address (record_place state nth)
point_address state intent_at (Installing nth at) = position_address (record_place state nth)
point_address state intent_at Publishing = entry_address
point_address state intent_at (Freeing nth) = position_address (record_place state nth)
point_address state intent_at (Clearing refusal) = intent_address intent_at
point_address state intent_at Ending = intent_address intent_at

-- the words of the intent have addresses
abbrev pub IntentStands : ℕ → Type 0
IntentStands intent_at = intent_at + INTENT_WORDS ≤ MOST_WORDS
