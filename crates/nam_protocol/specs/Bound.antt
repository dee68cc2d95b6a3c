-- How many verbs a transaction takes at the most: of each call to come, and of a whole attempt.
use Rattle.std.specs.Prelude.{ℕ, zero, suc, ◌+◌, ◌-◌, ◌*◌, if◌then◌else◌, List, [], ◌∷◌, length, drop, take}
use Rattle.si_model.specs.declared.row.Key.{Key}
use Rattle.si_model.specs.declared.op.Op.{Op}
use Rattle.si_model.specs.declared.op.Op.TheVariants.{Get, Put, Add, Del, Need, Guard, Scan}
use Rattle.si_model.specs.Evaluation.{written_keys, guard_keys, op_key}
use Rattle.si_model.specs.Operations.{op_claims}
use Rattle.nam_catalog.specs.declared.shape.Shape.{Shape}
use Rattle.nam_layout.specs.declared.field.Place.{Place}
use Rattle.nam_calls.specs.Words.{width_of, capacity_of}
use Rattle.nam_calls.specs.Index.{find_left, claim_key_left}
use Rattle.nam_calls.specs.Record.{words_left, install_left}
use Rattle.nam_calls.specs.Ring.{slot_left, copy_left}
use Rattle.nam_calls.specs.Lock.{lock_begin, lock_left, unlock_left}
use Rattle.nam_calls.specs.Reading.{sight_of, read_left, read_most}
use Rattle.nam_protocol.specs.declared.txn.TxnState.{TxnState}
use Rattle.nam_protocol.specs.declared.txn.ListPoint.{ListPoint}
use Rattle.nam_protocol.specs.declared.txn.ListPoint.TheVariants.{ListRow, ListKind, ListData, ListNumber, ListState}
use Rattle.nam_protocol.specs.declared.txn.CommitPoint.{CommitPoint}
use Rattle.nam_protocol.specs.declared.txn.CommitPoint.TheVariants.{Locking, Checking, Returning, Saving, Copying}
use Rattle.nam_protocol.specs.declared.txn.CommitPoint.TheVariants.{Installing, Publishing, Freeing}
use Rattle.nam_protocol.specs.declared.txn.CommitPoint.TheVariants.{Listing, Counting, Deciding, Clearing, Ending}
use Rattle.nam_protocol.specs.declared.txn.TxnPoint.{TxnPoint}
use Rattle.nam_protocol.specs.declared.txn.TxnPoint.TheVariants.{Finding, Reading, Claiming, Committing}
use Rattle.nam_protocol.specs.Operations.{op_path}
use Rattle.nam_protocol.specs.Commit.{places, record_place, has_intents, tells_intent}

-- 1. What is to come of a commit

-- the copies and installs of these records
abbrev pub installs_most : List Place → ℕ
installs_most [] = 0
installs_most (place ∷ rest) = 3 * place.width + 5 + installs_most rest

-- the worker's entry, and the guards
abbrev pub publish_most : TxnState → ℕ
publish_most state = 1 + (length state.records - length state.writes)

-- the places of the written records from the nth on
abbrev pub written_from : TxnState → ℕ → List Place
written_from state nth = drop nth (take (length state.writes) (places state))

-- what follows the slots' checks, from the nth written record on
abbrev pub rest_from : TxnState → ℕ → ℕ
rest_from state nth = installs_most (written_from state nth) + publish_most state

-- what the commit writes to an intent, where it tells one
abbrev pub of_intent : TxnState → ℕ → ℕ
of_intent state n = if tells_intent state then n else 0

-- the rows, the kinds and the data of these records, of which so many are written
abbrev pub listed_most : ℕ → List Place → ℕ
listed_most written [] = 0
listed_most zero (place ∷ rest) = 2 + listed_most zero rest
listed_most (suc written) (place ∷ rest) = place.width + 2 + listed_most written rest

-- the records from the nth on
abbrev pub listed_from : TxnState → ℕ → ℕ
listed_from state nth = listed_most (length state.writes - nth) (drop nth (places state))

-- the number and the state follow the records
abbrev pub list_left : TxnState → ListPoint → ℕ
list_left state (ListRow nth) = listed_from state nth + 2
list_left state (ListKind nth) = listed_from state nth + 1
list_left state (ListData nth word) = (record_place state nth).width - word + listed_from state (nth + 1) + 2
list_left state ListNumber = 2
list_left state ListState = 1

-- what follows the locks and what follows the slots, but for the clearing of the intent
abbrev pub after_checks : TxnState → ℕ
after_checks state = of_intent state (length state.writes + 1) + rest_from state 0

abbrev pub after_locks : TxnState → ℕ
after_locks state = 2 * length state.writes + after_checks state

abbrev pub clear_left : TxnState → ℕ
clear_left state = of_intent state 1

abbrev pub commit_left : TxnState → CommitPoint → ℕ
commit_left state (Listing at) =
    list_left state at + lock_left (places state) (after_locks state) state.held lock_begin + clear_left state
commit_left state (Locking at) = lock_left (places state) (after_locks state) state.held at + clear_left state
commit_left state (Checking at) =
    slot_left at + (2 * (length state.writes - length state.counts - 1) + after_checks state) + clear_left state
commit_left state (Returning given full) = unlock_left (places state) given + clear_left state
commit_left state (Counting nth) = length state.writes - nth + 1 + rest_from state 0 + clear_left state
commit_left state Deciding = 1 + rest_from state 0 + clear_left state
commit_left state (Saving nth got) =
    words_left (record_place state nth) got + (2 * (record_place state nth).width + 5) + rest_from state (nth + 1)
    + clear_left state
commit_left state (Copying nth old at) =
    copy_left (record_place state nth) at + ((record_place state nth).width + 2) + rest_from state (nth + 1)
    + clear_left state
commit_left state (Installing nth at) =
    install_left (record_place state nth) at + rest_from state (nth + 1) + clear_left state
commit_left state Publishing = publish_most state + clear_left state
commit_left state (Freeing nth) = unlock_left (places state) nth + clear_left state
commit_left state (Clearing refusal) = 1
commit_left state Ending = 1

module _ (shape : Shape) where
  -- 2. What is to come of an operation

  abbrev pub claim_most : Op → ℕ
  claim_most op = if op_claims op then 2 * capacity_of shape (op_key op).table else 0

  abbrev pub txn_left : TxnState → TxnPoint → ℕ
  txn_left state (Finding op passed) =
      find_left (op_path shape op) passed + (read_most shape (op_key op).table + claim_most op)
  txn_left state (Reading op position at) = read_left (sight_of shape (op_key op).table position) at + claim_most op
  txn_left state (Claiming op at) = claim_key_left (op_path shape op) at
  txn_left state (Committing at) = commit_left state at

  -- 3. A whole attempt of these operations

  -- a read with its search in the index, a claim of a position, and a scan of a whole table
  abbrev pub find_bound : ℕ → ℕ
  find_bound table = capacity_of shape table + read_most shape table

  abbrev pub claim_bound : ℕ → ℕ
  claim_bound table = 2 * capacity_of shape table

  abbrev pub scan_bound : ℕ → ℕ
  scan_bound table = capacity_of shape table * (1 + read_most shape table)

  abbrev pub op_bound : Op → ℕ
  op_bound (Get t k) = find_bound t
  op_bound (Put t k v) = claim_bound t
  op_bound (Add t k f up by) = find_bound t + claim_bound t
  op_bound (Del t k) = claim_bound t
  op_bound (Need t k f least) = find_bound t
  op_bound (Guard t k) = find_bound t + claim_bound t
  op_bound (Scan t low high) = scan_bound t

  abbrev pub ops_bound : List Op → ℕ
  ops_bound [] = 0
  ops_bound (op ∷ ops) = op_bound op + ops_bound ops

  abbrev pub writes_bound : List Key → ℕ
  writes_bound [] = 0
  writes_bound (key ∷ keys) = 3 * width_of shape key.table + 9 + writes_bound keys

  -- what is written to an intent: of each written key row, kind, data and count
  abbrev pub values_bound : List Key → ℕ
  values_bound [] = 0
  values_bound (key ∷ keys) = width_of shape key.table + 3 + values_bound keys

  -- of each guarded key row and kind, the number, and three times the state
  abbrev pub intent_bound : List Key → ℕ → ℕ
  intent_bound written guarded =
      if has_intents shape.form then values_bound written + 2 * guarded + 4 else 0

  -- the snapshot, the operations, the written keys, the guarded keys, the worker's entry, and the intent
  abbrev pub verb_bound : List Op → ℕ
  verb_bound ops =
      2 * shape.workers + ops_bound ops + writes_bound (written_keys ops) + 3 * length (guard_keys ops) + 1
      + intent_bound (written_keys ops) (length (guard_keys ops))

  -- 4. A tidying, and a collection

  abbrev pub tidy_bound : ℕ → ℕ
  tidy_bound table = capacity_of shape table + 3 + 2 * shape.cells + 2 * width_of shape table + 6

  abbrev pub collect_bound : ℕ
  collect_bound = 4 * shape.workers + 3 * shape.cells
