-- The calls of a transaction: what is asked, the verb that stands, and what follows a found word.
use Rattle.std.specs.Prelude.{ℕ, List, []}
use Rattle.si_model.specs.declared.op.Op.TheVariants as op
use Rattle.si_model.specs.Evaluation.{op_key}
use Rattle.nam_verbs.specs.declared.now.Now.{Now}
use Rattle.nam_verbs.specs.declared.now.Now.TheVariants.{At, Over}
use Rattle.nam_verbs.specs.VerbAt.{VerbAt}
use Rattle.nam_catalog.specs.declared.shape.Shape.{Shape}
use Rattle.nam_layout.specs.declared.field.Field.{Field}
use Rattle.nam_calls.specs.Index.{find_verb, find_after, claim_key_verb, claim_key_after}
use Rattle.nam_calls.specs.Reading.{sight_of, read_verb, read_after}
use Rattle.nam_protocol.specs.declared.txn.TxnCall.{TxnCall}
use Rattle.nam_protocol.specs.declared.txn.TxnCall.TheVariants.{Get, Put, Add, Del, Need, Guard, Commit}
use Rattle.nam_protocol.specs.declared.txn.TxnState.{TxnState}
use Rattle.nam_protocol.specs.declared.txn.TxnPoint.{TxnPoint}
use Rattle.nam_protocol.specs.declared.txn.TxnPoint.TheVariants.{Finding, Reading, Claiming, Committing}
use Rattle.nam_protocol.specs.declared.txn.TxnAnswer.{TxnAnswer}
use Rattle.nam_protocol.specs.Operations.{op_path}
use Rattle.nam_protocol.specs.Txn.{Stepped, ask_op, on_find, on_read, on_claim}
use Rattle.nam_protocol.specs.Commit.{ask_commit, commit_verb, commit_after}

module _ (shape : Shape) where
  abbrev pub txn_ask : TxnState → TxnCall → Stepped
  txn_ask state (Get t k) = ask_op shape state (op.Get t k)
  txn_ask state (Put t k v) = ask_op shape state (op.Put t k v)
  txn_ask state (Add t k f up by) = ask_op shape state (op.Add t k f up by)
  txn_ask state (Del t k) = ask_op shape state (op.Del t k)
  txn_ask state (Need t k f least) = ask_op shape state (op.Need t k f least)
  txn_ask state (Guard t k) = ask_op shape state (op.Guard t k)
  txn_ask state Commit = ask_commit shape state

  abbrev pub txn_verb : TxnState → TxnPoint → VerbAt Field
  txn_verb state (Finding op passed) = find_verb (op_path shape op) passed
  txn_verb state (Reading op position at) = read_verb (sight_of shape (op_key op).table position) at
  txn_verb state (Claiming op at) = claim_key_verb (op_path shape op) at
  txn_verb state (Committing at) = commit_verb state at

  abbrev pub txn_after : TxnState → TxnPoint → ℕ → Stepped
  txn_after state (Finding op passed) found =
      on_find shape state op (find_after (op_path shape op) passed found)
  txn_after state (Reading op position at) found =
      on_read shape state op position (read_after (sight_of shape (op_key op).table position) state.seen at found)
  txn_after state (Claiming op at) found =
      on_claim shape state op (claim_key_after (op_path shape op) at found)
  txn_after state (Committing at) found = commit_after state at found

-- the headers of the locks that the transaction has taken so far
abbrev pub taken_at : TxnState → TxnPoint → List ℕ
taken_at state (Committing at) = state.held
taken_at state _ = []

abbrev pub taken_now : TxnState → Now TxnPoint TxnAnswer → List ℕ
taken_now state (At place) = taken_at state place
taken_now state (Over answer) = state.held
