-- What a client has kept of the call that runs, since it began: what was read, locked, gathered, and found in the way.
use Rattle.std.specs.Prelude.{◌≡◌, ◌≢◌, ◌⊎◌, ℕ, ◌<◌, ◌≤◌, Bool, true, false, List, [], ◌∷◌, ◌++◌, length, Option, Some}
use Rattle.std.specs.Prelude.{None}
use Rattle.std.specs.List.{AllByRecursion}
use Rattle.si_model.specs.declared.op.Op.{Op}
use Rattle.si_model.specs.declared.log.Lock.{Lock}
use Rattle.si_model.specs.Evaluation.{passes, found}
use Rattle.nam_verbs.specs.declared.now.Now.{Now}
use Rattle.nam_verbs.specs.declared.now.Now.TheVariants.{At}
use Rattle.nam_header.specs.Stamp.{is_locked, is_moved, sees}
use Rattle.nam_calls.specs.declared.lock.LockPoint.TheVariants.{Seize, GiveBack}
use Rattle.nam_protocol.specs.declared.scan.ScanPoint.{ScanPoint}
use Rattle.nam_protocol.specs.declared.scan.ScanPoint.TheVariants.{ScanKey, ScanRead}
use Rattle.nam_protocol.specs.declared.txn.TxnState.{TxnState}
use Rattle.nam_protocol.specs.declared.txn.TxnPoint.{TxnPoint}
use Rattle.nam_protocol.specs.declared.txn.TxnPoint.TheVariants.{Claiming, Committing}
use Rattle.nam_protocol.specs.declared.txn.CommitPoint.{CommitPoint}
use Rattle.nam_protocol.specs.declared.txn.CommitPoint.TheVariants.{Locking, Returning, Clearing}
use Rattle.nam_protocol.specs.declared.txn.Refusal.{Refusal}
use Rattle.nam_protocol.specs.declared.txn.Refusal.TheVariants as refusal
use Rattle.nam_protocol.specs.declared.client.Answer.{Answer}
use Rattle.nam_protocol.specs.declared.client.CallPoint.{CallPoint}
use Rattle.nam_protocol.specs.declared.client.CallPoint.TheVariants.{InTxn, Scanning, Collecting}
use Rattle.nam_protocol.specs.declared.client.Open.{Open}
use Rattle.nam_protocol.specs.declared.client.Scanned.{Scanned}
use Rattle.nam_protocol.specs.declared.client.ClientState.{ClientState}
use Rattle.nam_protocol.specs.Operations.{holding, value_in}
use Rattle.nam_protocol.specs.Commit.{lock_at, record_place}
use Rattle.nam_protocol.specs.Scan.{position_of}
use Rattle.nam_protocol.specs.Log.{prefix_of}
use Rattle.nam_protocol.specs.Telling.{items_of, locks_from}

-- 1. An operation that claims, and a commit

-- the operation passes on what was read, and that is what it reads
pub record IsDecided (state : TxnState) (op : Op) : Type 0 where
  pub passes : passes op (holding (value_in state.read)) ≡ true
  pub read : items_of state.read ≡ found op (holding (value_in state.read))

-- the word found at the record whose lock is next is locked or not seen, or is another than the header to be exchanged
abbrev pub IsInTheWay : TxnState → ℕ → Type 0
IsInTheWay state word =
    let form = (record_place state (length state.held)).form in
    (is_locked form word ≡ true)
    ⊎ ((sees form state.seen word ≡ false) ⊎ ((header : ℕ) × (sees form state.seen header ≡ true) × (word ≢ header)))

-- the lock is of a written record, whose slot has a version that was not moved
pub record IsFullAt (state : TxnState) (full : Lock) : Type 0 where
  pub nth : ℕ
  pub head : ℕ
  pub within : nth < length state.writes
  pub lock : full ≡ lock_at state nth head
  pub not_moved : is_moved (record_place state nth).form head ≡ false

-- the word found in the way of the next lock is locked or isn't
pub record IsMissed (state : TxnState) (word : ℕ) (lock : Lock) (locked : Bool) : Type 0 where
  pub within : length state.held < length state.records
  pub lock_is : lock ≡ lock_at state (length state.held) word
  pub locked_is : is_locked (record_place state (length state.held)).form word ≡ locked
  pub way : IsInTheWay state word

-- why a commit is refused
abbrev pub IsRefused : TxnState → Refusal → Type 0
IsRefused state (refusal.Locked lock) = (word : ℕ) × IsMissed state word lock true
IsRefused state (refusal.Newer lock) = (word : ℕ) × IsMissed state word lock false
IsRefused state (refusal.Full lock) = IsFullAt state lock

abbrev pub CommitCarries : TxnState → CommitPoint → Type 0
CommitCarries state (Locking (Seize header)) =
    sees (record_place state (length state.held)).form state.seen header ≡ true
CommitCarries state (Locking (GiveBack given word)) = IsInTheWay state word
CommitCarries state (Returning given full) = IsFullAt state full
CommitCarries state (Clearing refusal) = IsRefused state refusal
CommitCarries state _ = Unit {0}

abbrev pub PointCarries : TxnState → TxnPoint → Type 0
PointCarries state (Claiming op at) = IsDecided state op
PointCarries state (Committing at) = CommitCarries state at
PointCarries state _ = Unit {0}

-- 2. The open transaction: its number is its client's, and of the locks that the log lists the last are its own

-- it has taken the locks of the headers that it holds
pub record Took (locks : List Lock) (attempt : Open) : Type 0 where
  pub earlier : List Lock
  pub listed : locks ≡ earlier ++ locks_from attempt.state 0 attempt.state.held
  pub number : attempt.locks ≡ length attempt.state.held

-- only a commit holds headers
abbrev pub HeldIn : Option (Now CallPoint Answer) → List ℕ → Type 0
HeldIn (Some (At (InTxn (Committing at)))) held = Unit {0}
HeldIn _ held = held ≡ []

abbrev pub NowCarries : TxnState → Option (Now CallPoint Answer) → Type 0
NowCarries state (Some (At (InTxn at))) = PointCarries state at
NowCarries state _ = Unit {0}

pub record AttemptCarries (last : ℕ) (locks : List Lock) (call : Option (Now CallPoint Answer)) (attempt : Open)
    : Type 0 where
  pub last_is : attempt.state.last ≡ last
  pub took : Took locks attempt
  pub held : HeldIn call attempt.state.held
  pub point : NowCarries attempt.state call

abbrev pub OpenCarries : ℕ → List Lock → Option (Now CallPoint Answer) → Option Open → Type 0
OpenCarries last locks call None = Unit {0}
OpenCarries last locks call (Some attempt) = AttemptCarries last locks call attempt

-- 3. A scan, which has gathered no more rows than it has left positions, and a collection

abbrev pub IsBetween : ℕ → ℕ → ℕ → Type 0
IsBetween low high key = (low ≤ key) × (key ≤ high)

-- the key of a position that is read
abbrev pub KeyBetween : ℕ → ℕ → ScanPoint → Type 0
KeyBetween low high (ScanKey position) = Unit {0}
KeyBetween low high (ScanRead position key at) = IsBetween low high key

abbrev pub AreBetween : ℕ → ℕ → List Scanned → Type 0
AreBetween low high rows = AllByRecursion (λ row. IsBetween low high row.key) rows

abbrev pub ScanCarries : List Scanned → Option (Now CallPoint Answer) → Type 0
ScanCarries rows (Some (At (Scanning table low high at))) =
    AreBetween low high rows × KeyBetween low high at × (length rows ≤ position_of at)
ScanCarries rows _ = Unit {0}

-- the collection's snapshot is the last that was listed
abbrev pub CollectCarries : ℕ → List (List ℕ) → Option (Now CallPoint Answer) → Type 0
CollectCarries start snaps (Some (At (Collecting bucket prefix seen at))) =
    (prefix ≡ prefix_of start seen) × ((earlier : List (List ℕ)) × (snaps ≡ earlier ++ seen ∷ []))
CollectCarries start snaps _ = Unit {0}

-- 4. A client

pub record Carries (client : ClientState) : Type 0 where
  pub opened : OpenCarries client.last client.log.locks client.call client.txn
  pub scanned : ScanCarries client.scanned client.call
  pub collected : CollectCarries client.start client.log.snaps client.call
