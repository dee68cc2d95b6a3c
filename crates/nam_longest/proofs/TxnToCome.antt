-- The verbs to come at the very most fall in each call of a transaction, and how many a call begins with.
use Rattle.std.proofs.Common.{◌≡◌, ℕ, ◌+◌, ◌*◌, ◌<◌, ◌≤◌, List, ap, arith, Bool, true, not, Option, None}
use Rattle.std.specs.Prelude.{if◌then◌else◌, max}
use Rattle.si_model.specs.declared.op.Op.{Op}
use Rattle.si_model.specs.Rows.{writes_key}
use Rattle.si_model.specs.Evaluation.{passes, op_key}
use Rattle.si_model.specs.Operations.{op_reads, op_claims}
use Rattle.nam_verbs.specs.declared.now.Now.{Now}
use Rattle.nam_verbs.specs.declared.now.Now.TheVariants.{At, Over}
use Rattle.nam_verbs.proofs.TestLemmas.{by_test}
use Rattle.nam_verbs.specs.Falls.{FallsTo, nothing, Any}
use Rattle.nam_catalog.specs.declared.shape.Shape.{Shape}
use Rattle.nam_catalog.specs.Fits.{FitsLimits}
use Rattle.nam_calls.specs.declared.index.FindEnd.{FindEnd}
use Rattle.nam_calls.specs.declared.reading.ReadPoint.{ReadPoint}
use Rattle.nam_calls.specs.declared.reading.ReadingEnd.{ReadingEnd}
use Rattle.nam_calls.specs.Words.{capacity_of}
use Rattle.nam_calls.specs.Index.{find_begin, claim_key_begin}
use Rattle.nam_calls.specs.Reading.{sight_of}
use Rattle.nam_calls.specs.Fits.{IsTableOf}
use Rattle.nam_calls.proofs.FallsTests.{either}
use Rattle.nam_calls.proofs.FallsMachines.{FindFalls}
use Rattle.nam_calls.proofs.FallsTables.{has_capacity, sight_fits}
use Rattle.nam_calls.specs.declared.index.FindEnd.TheVariants as found_key
use Rattle.nam_calls.specs.declared.reading.ReadingEnd.TheVariants as read_end
use Rattle.nam_protocol.specs.declared.txn.TxnState.{TxnState}
use Rattle.nam_protocol.specs.declared.txn.TxnPoint.{TxnPoint}
use Rattle.nam_protocol.specs.declared.txn.TxnPoint.TheVariants.{Finding, Reading, Claiming, Committing}
use Rattle.nam_protocol.specs.declared.txn.TxnAnswer.{TxnAnswer}
use Rattle.nam_protocol.specs.declared.txn.TxnAnswer.TheVariants.{Declined}
use Rattle.nam_protocol.specs.Operations.{holding, own_value, read_of, answer_of, op_path}
use Rattle.nam_protocol.specs.Txn.{Stepped, at, over, with_op, with_own, ask_op, on_value, on_find, on_read}
use Rattle.nam_protocol.specs.Bound.{claim_most, txn_left}
use Rattle.nam_protocol.specs.TxnFits.{AnswerFits, TxnPointFits, TxnFalls}
use Rattle.nam_longest.specs.Longest.{value_longest, txn_to_come}
use Rattle.nam_longest.proofs.ReadToCome.{ReadLowers, read_within, read_begins}

module _ (shape : Shape) where
  -- a transaction has stepped: fewer verbs are to come than n
  abbrev pub TxnLowers : ℕ → Stepped → Type 0
  TxnLowers n step = FallsTo Any Any (txn_to_come shape step.state) nothing n step.call

  claims_take : (op : Op) → op_claims op ≡ true → claim_most shape op ≡ 2 * capacity_of shape (op_key op).table
  claims_take op e = ap (λ (b : Bool). if b then 2 * capacity_of shape (op_key op).table else 0) e

  -- no more than the verbs to come
  pub txn_within : (state : TxnState) (place : TxnPoint) → txn_to_come shape state place ≤ txn_left shape state place
  txn_within state (Finding op passed) = omega arith
  txn_within state (Reading op position at) =
      read_within (sight_of shape (op_key op).table position) (claim_most shape op) (claim_most shape op)
      (omega arith) at
  txn_within state (Claiming op at) = omega arith
  txn_within state (Committing at) = omega arith

module _ (shape : Shape) (limits : FitsLimits shape) where
  module _ (state : TxnState) (op : Op) (is : IsTableOf shape (op_key op).table) where
    abbrev table : ℕ
    table = (op_key op).table

    least : 1 ≤ capacity_of shape table
    least = has_capacity shape limits table is

    valued_lowers : (n : ℕ) (value : Option (List ℕ)) → claim_most shape op < n
        → TxnLowers shape n (on_value shape state op value)
    valued_lowers n value l =
        let state' = record state { read = read_of op value } in
        either (TxnLowers shape n) (not (passes op (holding value))) (over state' Declined)
        (if op_claims op then at state' (Claiming op claim_key_begin) else over state' (answer_of op value))
        (tt, omega arith)
        (by_test (TxnLowers shape n) (op_claims op) (at state' (Claiming op claim_key_begin))
        (over state' (answer_of op value))
        (λ e. let m = claims_take shape op e in let c = least in (tt, omega arith))
        (λ e. (tt, omega arith)))

    pub on_find_lowers : (n : ℕ) (now : Now ℕ FindEnd) → FindFalls (op_path shape op) n now
        → TxnLowers shape (n + (value_longest shape table + max (claim_most shape op) shape.workers))
        (on_find shape state op now)
    on_find_lowers n (At passed) h = (tt, let m = h.1 in omega arith)
    on_find_lowers n (Over (found_key.At position)) h =
        let b = read_begins shape limits table position (claim_most shape op) is h.0 in
        (tt, let m = h.1 in omega arith)
    on_find_lowers n (Over found_key.Absent) h = valued_lowers _ None (let m = h.1 in omega arith)

    pub on_read_lowers : (position n : ℕ) (now : Now ReadPoint ReadingEnd) (l : position < capacity_of shape table)
        → ReadLowers (sight_of shape table position) (sight_fits shape limits table position is l)
        (claim_most shape op) n now
        → TxnLowers shape n (on_read shape state op position now)
    on_read_lowers position n (At place) l h = (tt, h.1)
    on_read_lowers position n (Over (read_end.Got value)) l h = valued_lowers n value h.1
    on_read_lowers position n (Over (read_end.Passed worker entry horizon)) l h = (tt, h.1)
    on_read_lowers position n (Over read_end.Astray) l h = (tt, h.1)

  -- a claim or a commit has stepped: fewer verbs are left, and no more are to come
  pub stepped_lowers : (n : ℕ) (step : Stepped) → TxnFalls shape n step → TxnLowers shape n step
  stepped_lowers n step h =
      lowered step.state n step.call h.1
    where
      lowered : (state : TxnState) (n : ℕ) (now : Now TxnPoint TxnAnswer)
          → FallsTo (TxnPointFits shape state) (AnswerFits shape.form) (txn_left shape state) nothing n now
          → FallsTo Any Any (txn_to_come shape state) nothing n now
      lowered state n (At place) h = (tt, let m = h.1 in let w = txn_within shape state place in omega arith)
      lowered state n (Over answer) h = (tt, h.1)

  -- An operation that reads is asked: it takes no verb where its key is one of the write set
  pub read_asked : (state : TxnState) (op : Op) → op_reads op ≡ true
      → TxnLowers shape
      (capacity_of shape (op_key op).table
      + (value_longest shape (op_key op).table + max (claim_most shape op) shape.workers) + 1)
      (ask_op shape state op)
  read_asked state op reads =
      let own = own_value state.writes (op_key op) in
      let state' = record state { read = None } in
      let mine = record state { read = read_of op own } in
      let finding = at state' (Finding op find_begin) in
      let claiming = at state' (Claiming op claim_key_begin) in
      let n = capacity_of shape (op_key op).table
      + (value_longest shape (op_key op).table + max (claim_most shape op) shape.workers) + 1 in
      either (TxnLowers shape n) (writes_key state.writes (op_key op)) (with_own shape mine op own)
      (if op_reads op then finding else claiming)
      (either (TxnLowers shape n) (not (passes op (holding own))) (over mine Declined)
      (over (with_op shape mine op own) (answer_of op own)) (tt, omega arith) (tt, omega arith))
      (rw reads (tt, omega arith))
