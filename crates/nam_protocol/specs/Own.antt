-- What holds of a client by itself, whatever the words are.
use Rattle.std.specs.Prelude.{IsNone, IsSome, List, None, Option, Some, false, is_some, length, true, ℕ, ◌≡◌}
use Rattle.si_model.specs.Lists.{Listed}
use Rattle.nam_verbs.specs.declared.now.Now.{Now}
use Rattle.nam_verbs.specs.declared.now.Now.TheVariants.{At}
use Rattle.nam_catalog.specs.declared.shape.Shape.{Shape}
use Rattle.nam_header.specs.Stamp.{is_locked, sees}
use Rattle.nam_calls.specs.declared.lock.LockPoint.TheVariants.{Seize}
use Rattle.nam_calls.specs.declared.record.InstallPoint.TheVariants.{InstallWord}
use Rattle.nam_protocol.specs.declared.client.Answer.{Answer}
use Rattle.nam_protocol.specs.declared.client.Call.{Call}
use Rattle.nam_protocol.specs.declared.client.CallPoint.{CallPoint}
use Rattle.nam_protocol.specs.declared.client.CallPoint.TheVariants.{InTxn, Scanning}
use Rattle.nam_protocol.specs.declared.client.ClientState.{ClientState}
use Rattle.nam_protocol.specs.declared.client.Open.{Open}
use Rattle.nam_protocol.specs.declared.txn.CommitPoint.{CommitPoint}
use Rattle.nam_protocol.specs.declared.txn.CommitPoint.TheVariants.{Installing, Locking}
use Rattle.nam_protocol.specs.declared.txn.TxnAnswer.{TxnAnswer}
use Rattle.nam_protocol.specs.declared.txn.TxnPoint.{TxnPoint}
use Rattle.nam_protocol.specs.declared.txn.TxnPoint.TheVariants.{Committing}
use Rattle.nam_protocol.specs.declared.txn.TxnState.{TxnState}
use Rattle.nam_protocol.specs.ClientFits.{CallFits}
use Rattle.nam_protocol.specs.Commit.{record_place, value_at}

-- 1. Its own: whose it is, and its open transaction

-- the transaction is its client's, on a snapshot that the client lists
pub record OwnsOpen (worker last : ℕ) (snaps : List (List ℕ)) (attempt : Open) : Type 0 where
  pub worker_is : attempt.state.worker ≡ worker
  pub last_is : attempt.state.last ≡ last
  pub listed : Listed attempt.state.seen snaps

abbrev pub OwnOpen : ℕ → ℕ → List (List ℕ) → Option Open → Type 0
OwnOpen worker last snaps None = Unit {0}
OwnOpen worker last snaps (Some attempt) = OwnsOpen worker last snaps attempt

-- the client of this worker
pub record OwnOk (shape : Shape) (worker : ℕ) (client : ClientState) : Type 0 where
  pub worker_is : client.worker ≡ worker
  pub start_is : client.start ≡ shape.start
  pub opened : OwnOpen client.worker client.last client.log.snaps client.txn

-- 2. Its stage: what the point of its commit says

-- the header to be exchanged is unlocked, and its stamp seen; words are written of a value
abbrev pub StageAt : TxnState → CommitPoint → Type 0
StageAt state (Locking (Seize header)) =
    let form = (record_place state (length state.held)).form in
    (is_locked form header ≡ false) × (sees form state.seen header ≡ true)
StageAt state (Installing nth (InstallWord word)) = is_some (value_at state nth) ≡ true
StageAt state _ = Unit {0}

abbrev pub StageNow : TxnState → Now TxnPoint TxnAnswer → Type 0
StageNow state (At (Committing at)) = StageAt state at
StageNow state _ = Unit {0}

abbrev pub StageIn : Option (Now CallPoint Answer) → Option Open → Type 0
StageIn (Some (At (InTxn (Committing at)))) (Some attempt) = StageAt attempt.state at
StageIn _ _ = Unit {0}

abbrev pub StageClient : ClientState → Type 0
StageClient client = StageIn client.call client.txn

-- 3. A transaction is open exactly for its calls

-- where a call runs
abbrev pub IsOpenAt : Option Open → CallPoint → Type 0
IsOpenAt opened (InTxn at) = IsSome opened
IsOpenAt opened (Scanning table low high at) = IsSome opened
IsOpenAt opened _ = IsNone opened

abbrev pub IsOpenNow : Option Open → Option (Now CallPoint Answer) → Type 0
IsOpenNow opened (Some (At place)) = IsOpenAt opened place
IsOpenNow opened _ = Unit {0}

abbrev pub OpenClient : ClientState → Type 0
OpenClient client = IsOpenNow client.txn client.call

-- no call runs
abbrev pub Rests : Option (Now CallPoint Answer) → Type 0
Rests (Some (At place)) = ⊥
Rests _ = Unit {0}

-- nothing that was read is at hand
abbrev pub IsUnread : Option Open → Type 0
IsUnread None = Unit {0}
IsUnread (Some attempt) = attempt.state.read ≡ None

-- so it is, but while a call of the transaction runs
abbrev pub UnreadIn : Option (Now CallPoint Answer) → Option Open → Type 0
UnreadIn (Some (At (InTxn at))) opened = Unit {0}
UnreadIn _ opened = IsUnread opened

abbrev pub UnreadClient : ClientState → Type 0
UnreadClient client = UnreadIn client.call client.txn

-- it may be asked: none of its calls runs
pub record MayAsk (shape : Shape) (client : ClientState) (asked : Call) : Type 0 where
  pub runs : client.cut ≡ false
  pub rests : Rests client.call
  pub fits : CallFits shape client.txn asked
