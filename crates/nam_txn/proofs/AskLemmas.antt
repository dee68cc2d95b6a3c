-- A call that is an operation.
use Rattle.std.proofs.Common.{◌≡◌, subst, Some, None, refl}
use Rattle.si_model.specs.declared.op.Op.{Op}
use Rattle.si_model.specs.declared.op.Op.TheVariants as op
use Rattle.nam_catalog.specs.declared.shape.Shape.{Shape}
use Rattle.nam_protocol.specs.declared.txn.TxnCall.{TxnCall}
use Rattle.nam_protocol.specs.declared.txn.TxnCall.TheVariants.{Get, Put, Add, Del, Need, Guard, Commit}
use Rattle.nam_protocol.specs.declared.txn.TxnState.{TxnState}
use Rattle.nam_protocol.specs.Txn.{ask_op}
use Rattle.nam_protocol.specs.TxnCalls.{txn_ask}
use Rattle.nam_protocol.specs.TxnFits.{OpStands, TxnCallFits}
use Rattle.nam_txn.specs.Txn.{asked_op}

module _ (shape : Shape) (state : TxnState) where
  pub record AsksOp (call : TxnCall) (o : Op) : Type 0 where
    pub asks : txn_ask shape state call ≡ ask_op shape state o
    pub stands : TxnCallFits shape state call → OpStands shape state.claims o

  asks_so : (call : TxnCall) (o p : Op) → txn_ask shape state call ≡ ask_op shape state o
      → (TxnCallFits shape state call → OpStands shape state.claims o) → Some o ≡ Some p → AsksOp call p
  asks_so call o p asks stands is =
      let same : o ≡ p = cc in subst (AsksOp call) same record { asks = asks; stands = stands }

  pub asks_op : (call : TxnCall) (o : Op) → asked_op call ≡ Some o → AsksOp call o
  asks_op (Get t k) o is = asks_so (Get t k) (op.Get t k) o refl (λ fits. fits) is
  asks_op (Put t k v) o is = asks_so (Put t k v) (op.Put t k v) o refl (λ fits. fits) is
  asks_op (Add t k f up by) o is = asks_so (Add t k f up by) (op.Add t k f up by) o refl (λ fits. fits) is
  asks_op (Del t k) o is = asks_so (Del t k) (op.Del t k) o refl (λ fits. fits) is
  asks_op (Need t k f least) o is = asks_so (Need t k f least) (op.Need t k f least) o refl (λ fits. fits) is
  asks_op (Guard t k) o is = asks_so (Guard t k) (op.Guard t k) o refl (λ fits. fits) is
  asks_op Commit o is = absurd cc

  pub asks_commit : (call : TxnCall) → asked_op call ≡ None → call ≡ Commit
  asks_commit (Get t k) is = absurd cc
  asks_commit (Put t k v) is = absurd cc
  asks_commit (Add t k f up by) is = absurd cc
  asks_commit (Del t k) is = absurd cc
  asks_commit (Need t k f least) is = absurd cc
  asks_commit (Guard t k) is = absurd cc
  asks_commit Commit is = refl
