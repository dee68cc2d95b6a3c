-- The bound on verbs of an attempt is the sum of those of its calls.
use Rattle.std.specs.Prelude.{◌≡◌, ℕ, ◌+◌, ◌*◌, Bool, true, false, List, [], ◌∷◌, ◌++◌, map}
use Rattle.si_model.specs.declared.row.Key.{Key}
use Rattle.si_model.specs.declared.row.Item.{Item}
use Rattle.si_model.specs.declared.op.Op.{Op}
use Rattle.si_model.specs.Rows.{item_key}
use Rattle.si_model.specs.Evaluation.{key_guarded, keys_from, written_keys}
use Rattle.nam_verbs.specs.declared.now.Now.{Now}
use Rattle.nam_verbs.specs.declared.now.Now.TheVariants.{At, Over}
use Rattle.nam_catalog.specs.declared.shape.Shape.{Shape}
use Rattle.nam_protocol.specs.declared.txn.TxnState.{TxnState}
use Rattle.nam_protocol.specs.declared.txn.TxnPoint.{TxnPoint}
use Rattle.nam_protocol.specs.declared.txn.TxnPoint.TheVariants.{Finding, Reading, Claiming, Committing}
use Rattle.nam_protocol.specs.declared.txn.TxnAnswer.{TxnAnswer}
use Rattle.nam_protocol.specs.declared.txn.TxnAnswer.TheVariants.{Value, Written, Added, Met}
use Rattle.nam_protocol.specs.Txn.{Stepped, new_txn, ask_op}
use Rattle.nam_protocol.specs.TxnCalls.{txn_after}
use Rattle.nam_protocol.specs.Bound.{ops_bound, verb_bound}
use Rattle.nam_protocol.specs.TxnFits.{commit_bound}

-- the written and the guarded keys are those of these operations
pub record KeysAsked (writes : List Item) (guards : List Key) (ops : List Op) : Type 0 where
  pub written : map item_key writes ≡ written_keys ops
  pub guarded : guards ≡ keys_from key_guarded [] ops

abbrev pub HasAsked : TxnState → List Op → Type 0
HasAsked state ops = KeysAsked state.writes state.guards ops

-- did the operation pass
abbrev pub has_passed : TxnAnswer → Bool
has_passed (Value value) = true
has_passed Written = true
has_passed (Added n) = true
has_passed Met = true
has_passed _ = false

-- an operation that passed is one of those that were asked
abbrev pub AnswerAsks : TxnState → List Op → Op → Bool → Type 0
AnswerAsks state ops op true = HasAsked state (ops ++ op ∷ [])
AnswerAsks state ops op false = HasAsked state ops

abbrev pub NowAsks : TxnState → List Op → Op → Now TxnPoint TxnAnswer → Type 0
NowAsks state ops op (At place) = HasAsked state ops
NowAsks state ops op (Over answer) = AnswerAsks state ops op (has_passed answer)

abbrev pub Asks : List Op → Op → Stepped → Type 0
Asks ops op step = NowAsks step.state ops op step.call

-- the point is one of this operation's
abbrev pub IsOfOp : Op → TxnPoint → Type 0
IsOfOp op (Finding o passed) = o ≡ op
IsOfOp op (Reading o position at) = o ≡ op
IsOfOp op (Claiming o at) = o ≡ op
IsOfOp op (Committing at) = ⊥

-- a new transaction has asked nothing
abbrev pub NewAskedLaw : Type 0
NewAskedLaw = (worker last : ℕ) (seen : List ℕ) → HasAsked (new_txn worker last seen) []

abbrev pub AskLaw : Type 0
AskLaw = (shape : Shape) (state : TxnState) (ops : List Op) (op : Op) → HasAsked state ops
    → Asks ops op (ask_op shape state op)

abbrev pub TakeLaw : Type 0
TakeLaw = (shape : Shape) (state : TxnState) (ops : List Op) (op : Op) (place : TxnPoint) (found : ℕ)
    → HasAsked state ops → IsOfOp op place
    → Asks ops op (txn_after shape state place found)

-- the snapshot, the operations, and the commit after them
abbrev pub AttemptLaw : Type 0
AttemptLaw = (shape : Shape) (state : TxnState) (ops : List Op) → HasAsked state ops
    → 2 * shape.workers + ops_bound shape ops + commit_bound shape state ≡ verb_bound shape ops
