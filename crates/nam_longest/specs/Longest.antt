-- How many verbs a call of a client takes at the very most, whatever words it finds, and how many are to come at each
-- of its points.
use Rattle.std.specs.Prelude.{ℕ, ◌+◌, ◌-◌, ◌*◌, max, if◌then◌else◌, Option, Some, None}
use Rattle.si_model.specs.Evaluation.{op_key}
use Rattle.nam_verbs.specs.declared.now.Now.{Now}
use Rattle.nam_verbs.specs.declared.now.Now.TheVariants.{At}
use Rattle.nam_catalog.specs.declared.shape.Shape.{Shape}
use Rattle.nam_calls.specs.declared.reading.Sight.{Sight}
use Rattle.nam_calls.specs.declared.reading.ReadPoint.{ReadPoint}
use Rattle.nam_calls.specs.declared.reading.ReadPoint.TheVariants.{ReadHorizon}
use Rattle.nam_calls.specs.Words.{capacity_of}
use Rattle.nam_calls.specs.Index.{find_left}
use Rattle.nam_calls.specs.Reading.{sight_of, read_left, read_most}
use Rattle.nam_protocol.specs.declared.txn.TxnState.{TxnState}
use Rattle.nam_protocol.specs.declared.txn.TxnCall.{TxnCall}
use Rattle.nam_protocol.specs.declared.txn.TxnCall.TheVariants.{Get, Put, Add, Del, Need, Guard, Commit}
use Rattle.nam_protocol.specs.declared.txn.TxnPoint.{TxnPoint}
use Rattle.nam_protocol.specs.declared.txn.TxnPoint.TheVariants.{Finding, Reading, Committing}
use Rattle.nam_protocol.specs.declared.scan.ScanPoint.{ScanPoint}
use Rattle.nam_protocol.specs.declared.scan.ScanPoint.TheVariants.{ScanKey, ScanRead}
use Rattle.nam_protocol.specs.declared.client.Answer.{Answer}
use Rattle.nam_protocol.specs.declared.client.Call.{Call}
use Rattle.nam_protocol.specs.declared.client.Call.TheVariants.{Begin, Txn, Scan, Tidy, Collect}
use Rattle.nam_protocol.specs.declared.client.CallPoint.{CallPoint}
use Rattle.nam_protocol.specs.declared.client.CallPoint.TheVariants.{InTxn, Scanning}
use Rattle.nam_protocol.specs.declared.client.Open.{Open}
use Rattle.nam_protocol.specs.declared.client.ClientState.{ClientState}
use Rattle.nam_protocol.specs.Operations.{op_path}
use Rattle.nam_protocol.specs.Bound.{claim_most, txn_left, find_bound, claim_bound, tidy_bound, collect_bound}
use Rattle.nam_protocol.specs.Left.{call_left}
use Rattle.nam_longest.specs.Deletions.{commit_longest, commit_to_come}

-- what is to come of a read at the very most, where so many verbs follow a value that it finds: it looks at the
-- horizon's entries only where it has found none
abbrev pub read_to_come : Sight → ℕ → ReadPoint → ℕ
read_to_come sight after (ReadHorizon worker) = read_left sight (ReadHorizon worker)
read_to_come sight after at = read_left (record sight { workers = max after sight.workers }) at

module _ (shape : Shape) where
  -- 1. Calls

  -- a whole read takes one fewer than its figure; one that finds a value looks at no entry of the horizon
  abbrev pub value_longest : ℕ → ℕ
  value_longest table = read_most shape table - 1 - shape.workers

  -- a get and a need: the key's position is the last one, and the read there looks at everything
  abbrev pub get_longest : ℕ → ℕ
  get_longest table = find_bound shape table - 1

  -- a guard and an add: a read that looks at everything ends the attempt, and one that finds a value claims the key
  abbrev pub guard_longest : ℕ → ℕ
  guard_longest table =
      capacity_of shape table + value_longest table + max (claim_bound shape table) shape.workers

  -- so many positions of a scan, each with its key word and a read: each read but the last finds a value, and the last
  -- one looks at everything
  abbrev pub positions_longest : ℕ → ℕ → ℕ
  positions_longest table positions = positions * (1 + value_longest table) + shape.workers

  abbrev pub scan_longest : ℕ → ℕ
  scan_longest table = positions_longest table (capacity_of shape table)

  abbrev pub open_commit_longest : Option Open → ℕ
  open_commit_longest None = 0
  open_commit_longest (Some attempt) = commit_longest shape attempt.state

  -- a put and a deletion may take as many as their bound
  abbrev pub txn_call_longest : Option Open → TxnCall → ℕ
  txn_call_longest opened (Get t k) = get_longest t
  txn_call_longest opened (Put t k v) = claim_bound shape t
  txn_call_longest opened (Add t k f up by) = guard_longest t
  txn_call_longest opened (Del t k) = claim_bound shape t
  txn_call_longest opened (Need t k f least) = get_longest t
  txn_call_longest opened (Guard t k) = guard_longest t
  txn_call_longest opened Commit = open_commit_longest opened

  -- and so may a snapshot, a tidying and a collection
  abbrev pub call_longest : ClientState → Call → ℕ
  call_longest client (Begin txn nth) = 2 * shape.workers
  call_longest client (Txn call) = txn_call_longest client.txn call
  call_longest client (Scan table low high) = scan_longest table
  call_longest client (Tidy table key) = tidy_bound shape table
  call_longest client (Collect bucket) = collect_bound shape

  -- 2. Points

  abbrev pub txn_to_come : TxnState → TxnPoint → ℕ
  txn_to_come state (Finding op passed) =
      find_left (op_path shape op) passed + (value_longest (op_key op).table + max (claim_most shape op) shape.workers)
  txn_to_come state (Reading op position at) =
      read_to_come (sight_of shape (op_key op).table position) (claim_most shape op) at
  txn_to_come state (Committing at) = commit_to_come state at
  txn_to_come state place = txn_left shape state place

  abbrev pub scan_to_come : ℕ → ScanPoint → ℕ
  scan_to_come table (ScanKey position) = positions_longest table (capacity_of shape table - position)
  scan_to_come table (ScanRead position key at) =
      read_to_come (sight_of shape table position) (positions_longest table (capacity_of shape table - position - 1)) at

  abbrev pub open_to_come : Option Open → TxnPoint → ℕ
  open_to_come None at = 0
  open_to_come (Some attempt) at = txn_to_come attempt.state at

  abbrev pub call_to_come : ClientState → CallPoint → ℕ
  call_to_come client (InTxn at) = open_to_come client.txn at
  call_to_come client (Scanning table low high at) = scan_to_come table at
  call_to_come client place = call_left shape client place

  abbrev pub to_come_of : ClientState → Option (Now CallPoint Answer) → ℕ
  to_come_of client (Some (At place)) = call_to_come client place
  to_come_of client _ = 0

  -- a client that is cut off takes no verb
  abbrev pub client_to_come : ClientState → ℕ
  client_to_come client = if client.cut then 0 else to_come_of client client.call
