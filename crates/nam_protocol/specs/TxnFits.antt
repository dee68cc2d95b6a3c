-- What holds of a transaction and of the points of its calls, and of a scan.
use Rattle.std.specs.Prelude.{◌≡◌, ℕ, ◌+◌, ◌-◌, ◌*◌, ◌<◌, ◌≤◌, ◌||◌, Bool, true, false, if◌then◌else◌, List, [], ◌∷◌}
use Rattle.std.specs.Prelude.{length, map}
use Rattle.std.specs.List.{AllByRecursion, IsDistinct}
use Rattle.si_model.specs.declared.row.Key.{Key}
use Rattle.si_model.specs.declared.row.Item.{Item}
use Rattle.si_model.specs.declared.op.Op.{Op}
use Rattle.si_model.specs.Rows.{same_key, has_key, item_key, writes_key}
use Rattle.si_model.specs.Evaluation.{OpFits, unwritten, op_key}
use Rattle.si_model.specs.EvaluationLaws.{IsWide, is_scan}
use Rattle.si_model.specs.Operations.{op_claims}
use Rattle.si_model.specs.declared.op.Op.TheVariants as op
use Rattle.nam_verbs.specs.declared.now.Now.{Now}
use Rattle.nam_verbs.specs.declared.now.Now.TheVariants.{At, Over}
use Rattle.nam_verbs.specs.Falls.{Falls}
use Rattle.nam_catalog.specs.declared.bounds.TheConstants.{MOST_KEYS}
use Rattle.nam_catalog.specs.declared.form.Form.{Form}
use Rattle.nam_catalog.specs.declared.shape.Shape.{Shape}
use Rattle.nam_catalog.specs.Greatest.{greatest_number}
use Rattle.nam_catalog.specs.Tables.{widths_of}
use Rattle.nam_layout.specs.RowLaw.{IsPosition}
use Rattle.nam_layout.specs.Place.{place_of}
use Rattle.nam_calls.specs.Holds.{IsWord}
use Rattle.nam_calls.specs.Words.{width_of, capacity_of, key_word}
use Rattle.nam_calls.specs.Reading.{sight_of, read_begin}
use Rattle.nam_calls.specs.Fits.{HasWidth, IsOf, IsTableOf, FindFits, ClaimKeyFits, ReadFits, WordsFit, WordsEnd}
use Rattle.nam_calls.specs.Fits.{CopyFits, InstallFits, LockFits}
use Rattle.nam_protocol.specs.declared.scan.ScanPoint.{ScanPoint}
use Rattle.nam_protocol.specs.declared.scan.ScanPoint.TheVariants.{ScanKey, ScanRead}
use Rattle.nam_protocol.specs.declared.scan.ScanAnswer.{ScanAnswer}
use Rattle.nam_protocol.specs.declared.txn.Record.{Record}
use Rattle.nam_protocol.specs.declared.txn.TxnState.{TxnState}
use Rattle.nam_protocol.specs.declared.txn.TxnCall.{TxnCall}
use Rattle.nam_protocol.specs.declared.txn.TxnCall.TheVariants.{Get, Put, Add, Del, Need, Guard, Commit}
use Rattle.nam_protocol.specs.declared.txn.TxnAnswer.{TxnAnswer}
use Rattle.nam_protocol.specs.declared.txn.TxnAnswer.TheVariants.{Committed}
use Rattle.nam_protocol.specs.declared.txn.TxnPoint.{TxnPoint}
use Rattle.nam_protocol.specs.declared.txn.TxnPoint.TheVariants.{Finding, Reading, Claiming, Committing}
use Rattle.nam_protocol.specs.declared.txn.ListPoint.{ListPoint}
use Rattle.nam_protocol.specs.declared.txn.ListPoint.TheVariants.{ListRow, ListKind, ListData, ListNumber, ListState}
use Rattle.nam_protocol.specs.declared.txn.CommitPoint.{CommitPoint}
use Rattle.nam_protocol.specs.declared.txn.CommitPoint.TheVariants.{Locking, Checking, Returning, Saving, Copying}
use Rattle.nam_protocol.specs.declared.txn.CommitPoint.TheVariants.{Installing, Publishing, Freeing}
use Rattle.nam_protocol.specs.declared.txn.CommitPoint.TheVariants.{Listing, Counting, Deciding, Clearing, Ending}
use Rattle.nam_protocol.specs.Txn.{Stepped}
use Rattle.nam_protocol.specs.Operations.{value_in}
use Rattle.nam_protocol.specs.Commit.{records_of, record_place, tells_intent}
use Rattle.nam_protocol.specs.Scan.{positions_left, scan_left}
use Rattle.nam_protocol.specs.Bound.{txn_left, op_bound, writes_bound, intent_bound}
use Rattle.nam_protocol.specs.declared.scan.ScanAnswer.TheVariants as scan

-- a call begins at a point that fits, with at most n verbs to come, or takes none
abbrev pub Begins : {P E : Type 0} → (P → Type 0) → (E → Type 0) → (P → ℕ) → ℕ → Now P E → Type 0
Begins Fits Ends left n (At place) = Fits place × (left place ≤ n)
Begins Fits Ends left n (Over end) = Ends end

-- is the key one of those that were claimed
abbrev pub is_claimed : List Record → Key → Bool
is_claimed [] key = false
is_claimed (c ∷ cs) key = if same_key c.key key then true else is_claimed cs key

-- is the key one of those that are written or guarded
abbrev pub is_used : List Item → List Key → Key → Bool
is_used writes guards key = writes_key writes key || has_key guards key

-- A key that the operation writes or guards is claimed already, or fewer than 16 keys are claimed. What counts towards
-- the 16 are the keys that the transaction writes or guards, each once: just these are claimed. A get and a need claim
-- nothing.
abbrev pub HasRoom : List Record → Op → Type 0
HasRoom claims op = op_claims op ≡ true → is_claimed claims (op_key op) ≡ false → length claims < MOST_KEYS

-- a commit's number is one of the form
abbrev pub AnswerFits : Form → TxnAnswer → Type 0
AnswerFits form (Committed number) = number ≤ greatest_number form
AnswerFits form _ = Unit {0}

module _ (shape : Shape) where
  -- a key of one of the tables, whose word is below 2^64: it is at most 2^64 - 2
  abbrev pub IsKeyOf : Key → Type 0
  IsKeyOf key = IsTableOf shape key.table × IsWord (key_word key.key)

  -- the record's place is a position of its key's table, and the key's word is below 2^64
  abbrev pub IsPlaced : Record → Type 0
  IsPlaced r =
      (position : ℕ) × IsPosition shape.tables r.key.table position × (r.place ≡ place_of shape r.key.table position)
      × IsWord (key_word r.key.key)

  -- 1. What a transaction has at hand: the keys that it writes or guards are claimed, and no others, at most 16 in all;
  -- each of them once, with a position; each value has its table's width; the worker's last number is one of the form;
  -- and its snapshot has an entry for each worker

  pub record KeysFit (worker last : ℕ) (seen : List ℕ) (claims : List Record) (writes : List Item)
      (guards : List Key) : Type 0 where
    pub worker_is : IsOf shape.workers worker
    pub last_is : last ≤ greatest_number shape.form
    pub seen_is : length seen ≡ shape.workers
    pub few : length claims ≤ MOST_KEYS
    pub placed : AllByRecursion (IsPlaced) claims
    pub claimed_once : IsDistinct same_key (map (λ (r : Record). r.key) claims)
    pub written_once : IsDistinct same_key (map item_key writes)
    pub guarded_once : IsDistinct same_key guards
    pub written : AllByRecursion (λ item. is_claimed claims (item_key item) ≡ true) writes
    pub guarded : AllByRecursion (λ key. is_claimed claims key ≡ true) guards
    pub used : AllByRecursion (λ (r : Record). is_used writes guards r.key ≡ true) claims
    pub wide : AllByRecursion (IsWide (widths_of shape.tables)) writes

  abbrev pub StateFits : TxnState → Type 0
  StateFits state = KeysFit state.worker state.last state.seen state.claims state.writes state.guards

  -- 2. Points of a commit

  abbrev pub ListFits : TxnState → ListPoint → Type 0
  ListFits state (ListRow nth) = nth < length state.records
  ListFits state (ListKind nth) = nth < length state.records
  ListFits state (ListData nth word) = (nth < length state.writes) × (word < (record_place state nth).width)
  ListFits state ListNumber = Unit {0}
  ListFits state ListState = Unit {0}

  abbrev pub CommitPointFits : TxnState → CommitPoint → Type 0
  CommitPointFits state (Listing at) =
      (length state.held ≡ 0) × (length state.counts ≡ 0) × ListFits state at × (tells_intent state ≡ true)
  CommitPointFits state (Locking at) = LockFits (length state.records) state.held at × (length state.counts ≡ 0)
  CommitPointFits state (Checking at) =
      (length state.held ≡ length state.records) × (length state.counts < length state.writes)
  CommitPointFits state (Returning given full) =
      (length state.held ≡ length state.records) × (given < length state.records)
      × (length state.counts < length state.writes)
  CommitPointFits state (Counting nth) =
      (length state.held ≡ length state.records) × (length state.counts ≡ length state.writes)
      × (nth < length state.writes) × (tells_intent state ≡ true)
  CommitPointFits state Deciding =
      (length state.held ≡ length state.records) × (length state.counts ≡ length state.writes)
      × (tells_intent state ≡ true)
  CommitPointFits state (Saving nth got) =
      (length state.held ≡ length state.records) × (length state.counts ≡ length state.writes)
      × (nth < length state.writes)
      × WordsFit (record_place state nth) got
  CommitPointFits state (Copying nth old at) =
      (length state.held ≡ length state.records) × (length state.counts ≡ length state.writes)
      × (nth < length state.writes)
      × WordsEnd (record_place state nth) old × CopyFits (record_place state nth) at
  CommitPointFits state (Installing nth at) =
      (length state.held ≡ length state.records) × (length state.counts ≡ length state.writes)
      × (nth < length state.writes)
      × InstallFits (record_place state nth) at
  CommitPointFits state Publishing =
      (length state.held ≡ length state.records) × (length state.counts ≡ length state.writes)
  CommitPointFits state (Freeing nth) =
      (length state.held ≡ length state.records) × (length state.counts ≡ length state.writes)
      × (length state.writes ≤ nth) × (nth < length state.records)
  CommitPointFits state (Clearing refusal) =
      (length state.held ≤ length state.records) × (length state.counts ≤ length state.writes)
      × (tells_intent state ≡ true)
  CommitPointFits state Ending =
      (length state.held ≡ length state.records) × (length state.counts ≡ length state.writes)
      × (tells_intent state ≡ true)

  -- the records of the commit are those of its keys, of which at least one is written, and a number of the form is left
  -- for it
  abbrev pub CommitFits : TxnState → CommitPoint → Type 0
  CommitFits state at =
      (state.records ≡ records_of state) × (1 ≤ length state.writes) × CommitPointFits state at
      × (state.last < greatest_number shape.form)

  -- 3. Points of a transaction

  -- an operation on one key, of the tables' widths, where these keys are claimed
  abbrev pub OpStands : List Record → Op → Type 0
  OpStands claims op =
      OpFits (widths_of shape.tables) op × (is_scan op ≡ false) × IsWord (key_word (op_key op).key)
      × HasRoom claims op

  -- only an operation that writes or guards its key claims a position
  abbrev pub TxnPointFits : TxnState → TxnPoint → Type 0
  TxnPointFits state (Finding op passed) =
      OpStands state.claims op × FindFits (capacity_of shape (op_key op).table) passed
  TxnPointFits state (Reading op position at) =
      OpStands state.claims op × (position < capacity_of shape (op_key op).table)
      × ReadFits (sight_of shape (op_key op).table position) at
  TxnPointFits state (Claiming op at) =
      OpStands state.claims op × ClaimKeyFits (capacity_of shape (op_key op).table) at
      × HasWidth (width_of shape (op_key op).table) (value_in state.read) × (op_claims op ≡ true)
  TxnPointFits state (Committing at) = CommitFits state at

  -- a transaction has stepped: what it has at hand fits, and its call goes on with fewer verbs to come or was answered
  abbrev pub TxnFalls : ℕ → Stepped → Type 0
  TxnFalls n step =
      StateFits step.state
      × Falls (TxnPointFits step.state) (AnswerFits shape.form) (txn_left shape step.state) n step.call

  abbrev pub TxnBegins : ℕ → Stepped → Type 0
  TxnBegins n step =
      StateFits step.state
      × Begins (TxnPointFits step.state) (AnswerFits shape.form) (txn_left shape step.state) n step.call

  -- 4. Calls of a transaction, and how many verbs they take at the most

  abbrev pub TxnCallFits : TxnState → TxnCall → Type 0
  TxnCallFits state (Get t k) = OpStands state.claims (op.Get t k)
  TxnCallFits state (Put t k v) = OpStands state.claims (op.Put t k v)
  TxnCallFits state (Add t k f up by) = OpStands state.claims (op.Add t k f up by)
  TxnCallFits state (Del t k) = OpStands state.claims (op.Del t k)
  TxnCallFits state (Need t k f least) = OpStands state.claims (op.Need t k f least)
  TxnCallFits state (Guard t k) = OpStands state.claims (op.Guard t k)
  TxnCallFits state Commit = Unit {0}

  -- the written keys, the keys that are guarded only, the worker's entry, and the intent
  abbrev pub commit_bound : TxnState → ℕ
  commit_bound state =
      writes_bound shape (map item_key state.writes) + 3 * length (unwritten state.writes state.guards) + 1
      + intent_bound shape (map item_key state.writes) (length (unwritten state.writes state.guards))

  abbrev pub txn_call_bound : TxnState → TxnCall → ℕ
  txn_call_bound state (Get t k) = op_bound shape (op.Get t k)
  txn_call_bound state (Put t k v) = op_bound shape (op.Put t k v)
  txn_call_bound state (Add t k f up by) = op_bound shape (op.Add t k f up by)
  txn_call_bound state (Del t k) = op_bound shape (op.Del t k)
  txn_call_bound state (Need t k f least) = op_bound shape (op.Need t k f least)
  txn_call_bound state (Guard t k) = op_bound shape (op.Guard t k)
  txn_call_bound state Commit = commit_bound state

  -- 5. A scan

  abbrev pub ScanFits : ℕ → ScanPoint → Type 0
  ScanFits table (ScanKey position) = position < capacity_of shape table
  ScanFits table (ScanRead position key at) =
      (position < capacity_of shape table) × ReadFits (sight_of shape table position) at

  abbrev pub ScanEnds : ℕ → ScanAnswer → Type 0
  ScanEnds table (scan.Row item) = HasWidth (width_of shape table) item.value
  ScanEnds table (scan.TooOld worker entry horizon) = IsOf shape.workers worker
  ScanEnds table _ = Unit {0}

  -- what follows a key or a row at this position: the read there, and the positions after it
  abbrev pub after_scan : ℕ → ℕ → ScanAnswer → ℕ
  after_scan table position (scan.Key key) = scan_left shape table (ScanRead position key read_begin)
  after_scan table position (scan.Row item) = positions_left shape table (capacity_of shape table - position - 1)
  after_scan table position _ = 0
