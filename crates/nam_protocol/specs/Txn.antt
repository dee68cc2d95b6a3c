-- The operations of a transaction as calls: find, read, decide, claim.
use Rattle.std.specs.Prelude.{ℕ, not, if◌then◌else◌, List, [], ◌∷◌, Option, None}
use Rattle.si_model.specs.declared.op.Op.{Op}
use Rattle.si_model.specs.Rows.{same_key, writes_key}
use Rattle.si_model.specs.Evaluation.{passes, writes_after, guards_after, op_key}
use Rattle.si_model.specs.Operations.{op_reads, op_claims}
use Rattle.nam_verbs.specs.declared.now.Now.{Now}
use Rattle.nam_verbs.specs.declared.now.Now.TheVariants.{At, Over}
use Rattle.nam_catalog.specs.declared.shape.Shape.{Shape}
use Rattle.nam_catalog.specs.Tables.{widths_of}
use Rattle.nam_layout.specs.Place.{place_of}
use Rattle.nam_calls.specs.declared.index.FindEnd.{FindEnd}
use Rattle.nam_calls.specs.declared.index.ClaimKeyPoint.{ClaimKeyPoint}
use Rattle.nam_calls.specs.declared.index.ClaimKeyEnd.{ClaimKeyEnd}
use Rattle.nam_calls.specs.declared.reading.ReadPoint.{ReadPoint}
use Rattle.nam_calls.specs.declared.reading.ReadingEnd.{ReadingEnd}
use Rattle.nam_calls.specs.Index.{find_begin, claim_key_begin}
use Rattle.nam_calls.specs.Reading.{read_begin}
use Rattle.nam_calls.specs.declared.index.FindEnd.TheVariants as found_key
use Rattle.nam_calls.specs.declared.index.ClaimKeyEnd.TheVariants as claimed_key
use Rattle.nam_calls.specs.declared.reading.ReadingEnd.TheVariants as read_end
use Rattle.nam_protocol.specs.declared.txn.Record.{Record}
use Rattle.nam_protocol.specs.declared.txn.TxnState.{TxnState}
use Rattle.nam_protocol.specs.declared.txn.TxnPoint.{TxnPoint}
use Rattle.nam_protocol.specs.declared.txn.TxnPoint.TheVariants.{Finding, Reading, Claiming}
use Rattle.nam_protocol.specs.declared.txn.TxnAnswer.{TxnAnswer}
use Rattle.nam_protocol.specs.declared.txn.TxnAnswer.TheVariants.{TooOld, NoSpace, Declined, Astray}
use Rattle.nam_protocol.specs.Operations.{holding, own_value, read_of, value_in, answer_of}

-- a transaction, and where its call stands or how it was over
pub record Stepped : Type 0 where
  pub state : TxnState
  pub call : Now TxnPoint TxnAnswer

-- a new transaction
abbrev pub new_txn : ℕ → ℕ → List ℕ → TxnState
new_txn worker last seen = record {
  worker = worker;
  last = last;
  seen = seen;
  writes = [];
  guards = [];
  claims = [];
  read = None;
  records = [];
  held = [];
  counts = [];
}

abbrev pub at : TxnState → TxnPoint → Stepped
at state place = record { state = state; call = At place }

abbrev pub over : TxnState → TxnAnswer → Stepped
over state answer = record { state = state; call = Over answer }

-- the claimed keys with one more, each once
abbrev pub with_claim : List Record → Record → List Record
with_claim [] r = r ∷ []
with_claim (c ∷ cs) r = if same_key c.key r.key then c ∷ cs else c ∷ with_claim cs r

module _ (shape : Shape) where
  -- the write set and the guards after an operation that found this value
  abbrev pub with_op : TxnState → Op → Option (List ℕ) → TxnState
  with_op state op value = record state {
    writes = writes_after (widths_of shape.tables) op (holding value) state.writes;
    guards = guards_after op state.guards;
  }

  -- 1. An operation is asked

  -- a key of the write set takes no verb
  abbrev pub with_own : TxnState → Op → Option (List ℕ) → Stepped
  with_own state op value =
      if not (passes op (holding value)) then over state Declined
      else over (with_op state op value) (answer_of op value)

  abbrev pub ask_op : TxnState → Op → Stepped
  ask_op state op =
      if writes_key state.writes (op_key op)
      then (let own = own_value state.writes (op_key op) in with_own (record state { read = read_of op own }) op own)
      else if op_reads op then at (record state { read = None }) (Finding op find_begin)
      else at (record state { read = None }) (Claiming op claim_key_begin)

  -- 2. The value is known: a decline stands before any claim

  abbrev pub on_decision : TxnState → Op → Option (List ℕ) → Stepped
  on_decision state op value =
      if not (passes op (holding value)) then over state Declined
      else if op_claims op then at state (Claiming op claim_key_begin)
      else over state (answer_of op value)

  abbrev pub on_value : TxnState → Op → Option (List ℕ) → Stepped
  on_value state op value = on_decision (record state { read = read_of op value }) op value

  abbrev pub on_find : TxnState → Op → Now ℕ FindEnd → Stepped
  on_find state op (At passed) = at state (Finding op passed)
  on_find state op (Over (found_key.At position)) = at state (Reading op position read_begin)
  on_find state op (Over found_key.Absent) = on_value state op None

  abbrev pub on_read : TxnState → Op → ℕ → Now ReadPoint ReadingEnd → Stepped
  on_read state op position (At place) = at state (Reading op position place)
  on_read state op position (Over (read_end.Got value)) = on_value state op value
  on_read state op position (Over (read_end.Passed worker entry horizon)) = over state (TooOld worker entry horizon)
  on_read state op position (Over read_end.Astray) = over state Astray

  -- 3. The key has its position

  abbrev pub record_of : Op → ℕ → Record
  record_of op position = record { key = op_key op; place = place_of shape (op_key op).table position }

  -- the operation on the value that it read
  abbrev pub after_claim : TxnState → Op → ℕ → TxnState
  after_claim state op position =
      with_op (record state { claims = with_claim state.claims (record_of op position) }) op (value_in state.read)

  abbrev pub on_claim : TxnState → Op → Now ClaimKeyPoint ClaimKeyEnd → Stepped
  on_claim state op (At place) = at state (Claiming op place)
  on_claim state op (Over claimed_key.NoSpace) = over state (NoSpace (op_key op).table)
  on_claim state op (Over (claimed_key.At position)) =
      over (after_claim state op position) (answer_of op (value_in state.read))
