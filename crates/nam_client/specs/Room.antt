-- The room that a client has in its log: for the calls that it may still be asked, and for what it owes.
use Rattle.std.specs.Prelude.{◌≡◌, Bool, true, ℕ, ◌+◌, ◌^◌, ◌≤◌, ◌<◌, min}
use Rattle.std.specs.Prelude.{max, if◌then◌else◌, List, length, Option, Some, None, IsNone, IsSome}
use Rattle.nam_verbs.specs.declared.now.Now.{Now}
use Rattle.nam_verbs.specs.declared.now.Now.TheVariants.{At, Over}
use Rattle.nam_verbs.specs.Now.{end_now}
use Rattle.nam_catalog.specs.declared.bounds.TheConstants.{MOST_CAPACITY}
use Rattle.nam_vector.specs.declared.snap.SnapEnd.TheVariants.{Done}
use Rattle.nam_index.specs.Path.{FitsPath}
use Rattle.nam_protocol.specs.declared.txn.TxnPoint.{TxnPoint}
use Rattle.nam_protocol.specs.declared.txn.TxnPoint.TheVariants.{Committing}
use Rattle.nam_protocol.specs.declared.txn.TxnAnswer.{TxnAnswer}
use Rattle.nam_protocol.specs.declared.txn.TxnAnswer.TheVariants.{Declined, NoSpace}
use Rattle.nam_protocol.specs.declared.txn.TxnState.{TxnState}
use Rattle.nam_protocol.specs.declared.client.Answer.{Answer}
use Rattle.nam_protocol.specs.declared.client.CallPoint.{CallPoint}
use Rattle.nam_protocol.specs.declared.client.CallPoint.TheVariants.{Beginning, InTxn, Scanning, Seeking, Moving}
use Rattle.nam_protocol.specs.declared.client.CallPoint.TheVariants.{Snapping, Collecting}
use Rattle.nam_protocol.specs.declared.client.Open.{Open}
use Rattle.nam_protocol.specs.AttemptLaw.{has_passed}
use Rattle.nam_protocol.specs.Own.{OpenClient}
use Rattle.nam_protocol.specs.SessionFits.{is_running}
use Rattle.nam_protocol.specs.Telling.{items_of}
use Rattle.nam_scan.specs.Scan.{Scanning as ScanValue}
use Rattle.nam_txn.specs.Txn.{Rests}
use Rattle.nam_protocol.specs.declared.txn.TxnPoint.{TxnPoint}
use Rattle.nam_client.specs.declared.registers.Registers.{Registers}
use Rattle.nam_client.specs.declared.registers.Spare.{Spare}
use Rattle.nam_client.specs.declared.registers.Step.{Step}
use Rattle.nam_client.specs.declared.registers.Step.TheVariants as step
use Rattle.nam_client.specs.Registers.{call_of, client_of, open_of, seen_in}
use Rattle.nam_client.specs.Gathered.{Gathers}

-- 1. What is owed by a call that runs

abbrev pub by_point : (CallPoint → ℕ) → Option (Now CallPoint Answer) → ℕ
by_point owes (Some (At at)) = owes at
by_point owes _ = 0

-- an event, with its answer or as it is cut
abbrev pub owed_event : Bool → Option (Now CallPoint Answer) → ℕ
owed_event is_open call = if is_open then 1 else by_point (λ at. 1) call

-- a snapshot
abbrev pub snap_of_point : CallPoint → ℕ
snap_of_point (Beginning txn nth at) = 1
snap_of_point (Snapping bucket at) = 1
snap_of_point _ = 0

-- the reads of an operation, and of a scan of so many positions
abbrev pub positions : Option ScanValue → ℕ
positions None = 0
positions (Some scan) = scan.range.capacity

abbrev pub reads_of_point : Option ScanValue → CallPoint → ℕ
reads_of_point scan (InTxn (Committing at)) = 0
reads_of_point scan (InTxn at) = 1
reads_of_point scan (Scanning table low high at) = positions scan
reads_of_point scan _ = 0

-- 2. What is counted of the open transaction: it claims no more keys, and lists no more reads, than it has asked
-- operations, those of the call that runs included; and the locks are those that a commit has taken, and none else

abbrev pub taken_in : TxnState → Option (Now CallPoint Answer) → ℕ
taken_in state (Some (At (InTxn (Committing at)))) = length state.held
taken_in state _ = 0

pub record Counts (attempt : Open) (owed : ℕ) (call : Option (Now CallPoint Answer)) : Type 0 where
  pub ops : attempt.ops ≤ attempt.ops_so_far
  pub word : attempt.ops_so_far < 2 ^ 32
  pub claims : length attempt.state.claims + owed ≤ attempt.ops_so_far
  pub reads : attempt.reads + owed ≤ attempt.ops_so_far
  pub locks : attempt.locks ≡ taken_in attempt.state call
  pub held : length attempt.state.held ≡ attempt.locks
  pub written : length attempt.state.writes ≤ attempt.ops_so_far

-- 3. An answer of the transaction is listed: there is room for it, and for all that may follow

-- the transaction's call was answered so
abbrev pub HasAnswered : Registers → TxnAnswer → Type 0
HasAnswered a end = a.txn.call ≡ Some (Over end)

-- is what the call has read listed with this answer
abbrev pub lists_read : TxnAnswer → Bool
lists_read (NoSpace table) = true
lists_read Declined = true
lists_read end = has_passed end

-- what its call has read
abbrev pub reads_at_hand : Registers → ℕ
reads_at_hand a = length (items_of a.txn.state.read)

-- where it is listed
pub record CanRead (a : Registers) : Type 0 where
  pub room : a.spare.ops + reads_at_hand a ≤ a.log.room.reads
  pub so_far : a.attempt.reads + reads_at_hand a ≤ a.attempt.ops_so_far

pub record CanList (a : Registers) : Type 0 where
  pub is_open : a.is_open ≡ true
  pub in_txn : a.step ≡ step.InTxn
  pub events : a.spare.attempts + a.spare.tidies + 1 + a.closing ≤ a.log.room.events
  pub closes : a.closing ≡ 2
  pub reads : a.spare.ops ≤ a.log.room.reads
  pub locks : a.spare.ops + a.attempt.ops_so_far ≤ a.log.room.locks + a.attempt.locks
  pub writes : a.spare.ops + a.attempt.ops_so_far ≤ a.log.room.writes
  pub snaps : a.spare.attempts + a.spare.tidies ≤ a.log.room.snaps
  pub scanned : min (a.spare.ops + positions a.scan) MOST_CAPACITY ≤ length a.scanned.items + a.scanned.room
  pub ops : a.attempt.ops ≤ a.attempt.ops_so_far
  pub word : a.attempt.ops_so_far < 2 ^ 32
  pub claims : length a.txn.state.claims ≤ a.attempt.ops_so_far
  pub written : length a.txn.state.writes ≤ a.attempt.ops_so_far
  pub reading : (end : TxnAnswer) → HasAnswered a end → lists_read end ≡ true → CanRead a
  pub held : length a.txn.state.held ≡ a.attempt.locks
  pub few : a.attempt.locks ≤ a.attempt.ops_so_far
  pub passes : (end : TxnAnswer) → HasAnswered a end → has_passed end ≡ true → a.attempt.locks ≡ 0

-- 4. The room

abbrev pub owed_reads : Registers → ℕ
owed_reads a = by_point (reads_of_point a.scan) (call_of a.step a)

-- an open transaction may still lock and write a key for each operation that it has asked
abbrev pub owed_keys : Registers → ℕ
owed_keys a = if a.is_open then a.attempt.ops_so_far else 0

pub record HasRoom (a : Registers) : Type 0 where
  pub events : a.spare.attempts + a.spare.tidies + owed_event a.is_open (call_of a.step a) + a.closing
      ≤ a.log.room.events
  pub closes : 0 < a.spare.attempts + a.spare.tidies + owed_event a.is_open (call_of a.step a) → a.closing ≡ 2
  pub reads : a.spare.ops + owed_reads a ≤ a.log.room.reads
  pub locks : a.spare.ops + owed_keys a ≤ a.log.room.locks + (if a.is_open then a.attempt.locks else 0)
  pub writes : a.spare.ops + owed_keys a ≤ a.log.room.writes
  pub snaps : a.spare.attempts + a.spare.tidies + by_point snap_of_point (call_of a.step a) ≤ a.log.room.snaps
  pub scanned : min (a.spare.ops + positions a.scan) MOST_CAPACITY ≤ length a.scanned.items + a.scanned.room
  pub counts : a.is_open ≡ true → Counts (open_of a) (owed_reads a) (call_of a.step a)

-- 5. What holds of the registers whatever the shape is: they have room, and a transaction is open exactly for its calls

-- a scan that is at hand while it runs stands at a point
abbrev pub ScanStands : Option ScanValue → Type 0
ScanStands None = ⊥
ScanStands (Some scan) = IsNone (end_now scan.state)

-- what the step has at hand: a scan that stands with its rows, a path with its position, the snapshot of a collection
abbrev pub StepHolds : Step → Registers → Type 0
StepHolds step.Scanning a = ScanStands a.scan × Gathers a.scanned.items a.scan
StepHolds (step.Seeking table key passed) a = FitsPath a.path × (passed < a.path.capacity) × (a.to_follow < 2 ^ 32)
StepHolds (step.Snapping bucket) a = a.to_follow < 2 ^ 32
StepHolds (step.Collecting bucket prefix) a =
    (a.snapper.state ≡ Over (Done (seen_in a.snapper.state))) × (a.snapper.workers ≡ a.collector.workers)
StepHolds _ a = Unit {0}

-- a call of the transaction runs only in its step
abbrev pub TxnRests : Step → Option (Now TxnPoint TxnAnswer) → Type 0
TxnRests step.InTxn call = Unit {0}
TxnRests _ call = Rests call

pub record Holds (a : Registers) : Type 0 where
  pub room : HasRoom a
  pub opened : OpenClient (client_of a)
  pub at : StepHolds a.step a
  pub calm : a.is_open ≡ true → TxnRests a.step a.txn.call
  pub finishes : IsSome a.finish → (a.is_cut ≡ true) × (is_running (call_of a.step a) ≡ true)

-- at least as many calls
abbrev pub greater_spare : Spare → Spare → Spare
greater_spare a b = record {
  attempts = max a.attempts b.attempts;
  ops = max a.ops b.ops;
  tidies = max a.tidies b.tidies;
}
