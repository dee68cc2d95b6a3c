-- Only a commit holds locks: after each call that is asked, and after each word.
use Rattle.std.proofs.Common.{◌≡◌, ℕ, [], sym, subst, inl, inr, None}
use Rattle.si_model.specs.declared.op.Op.{Op}
use Rattle.si_model.specs.declared.op.Op.TheVariants as op
use Rattle.si_model.specs.Evaluation.{op_key}
use Rattle.nam_verbs.specs.declared.now.Now.TheVariants.{At, Over}
use Rattle.nam_catalog.specs.declared.shape.Shape.{Shape}
use Rattle.nam_protocol.specs.declared.txn.TxnCall.{TxnCall}
use Rattle.nam_protocol.specs.declared.txn.TxnCall.TheVariants.{Get, Put, Add, Del, Need, Guard, Commit}
use Rattle.nam_protocol.specs.declared.txn.TxnState.{TxnState}
use Rattle.nam_protocol.specs.declared.txn.TxnPoint.{TxnPoint}
use Rattle.nam_protocol.specs.declared.txn.TxnPoint.TheVariants.{Finding, Reading, Claiming, Committing}
use Rattle.nam_protocol.specs.declared.txn.TxnAnswer.{TxnAnswer}
use Rattle.nam_protocol.specs.declared.txn.TxnAnswer.TheVariants as answer
use Rattle.nam_protocol.specs.Operations.{own_value, answer_of}
use Rattle.nam_protocol.specs.Txn.{Stepped, ask_op, with_op, after_claim}
use Rattle.nam_protocol.specs.TxnCalls.{txn_ask, txn_after}
use Rattle.nam_protocol.specs.declared.txn.CommitPoint.{CommitPoint}
use Rattle.nam_protocol.specs.declared.txn.CommitPoint.TheVariants.{Locking, Checking, Returning, Saving, Copying}
use Rattle.nam_protocol.specs.declared.txn.CommitPoint.TheVariants.{Installing, Publishing, Freeing}
use Rattle.nam_protocol.specs.declared.txn.CommitPoint.TheVariants.{Listing, Counting, Deciding, Clearing, Ending}
use Rattle.nam_protocol.specs.declared.txn.Refusal.TheVariants as refusal
use Rattle.nam_protocol.proofs.GoesCommit.{EndsAs, commit_goes, ask_commit_goes}
use Rattle.nam_protocol.proofs.GoesTxn.{knowing, ask_goes, finding_goes, reading_goes, claiming_goes}
use Rattle.nam_txn.specs.Txn.{HeldFits}

abbrev HeldStep : Stepped → Type 0
HeldStep s = HeldFits s.state s.call

held_any : (state : TxnState) (end : TxnAnswer) → state.held ≡ [] → HeldFits state (Over end)
held_any state (answer.Value value) none = none
held_any state answer.Written none = none
held_any state (answer.Added number) none = none
held_any state answer.Met none = none
held_any state (answer.Committed number) none = tt
held_any state answer.ReadOnly none = none
held_any state (answer.TooOld worker entry horizon) none = none
held_any state (answer.NoSpace table) none = none
held_any state answer.Declined none = none
held_any state answer.Spent none = none
held_any state (answer.Locked lock) none = tt
held_any state (answer.Newer lock) none = tt
held_any state (answer.Full lock) none = tt
held_any state answer.Astray none = none

-- a commit that is over tells of its locks
held_end : (state : TxnState) (place : CommitPoint) (end : TxnAnswer) → EndsAs HeldStep state place end
    → HeldFits state (Over end)
held_end state (Listing at) end ends = absurd ends
held_end state (Locking at) end (lock, inl is) = subst (λ e. HeldFits state (Over e)) (sym is) tt
held_end state (Locking at) end (lock, inr is) = subst (λ e. HeldFits state (Over e)) (sym is) tt
held_end state (Checking at) end ends = absurd ends
held_end state (Returning given full) end is = subst (λ e. HeldFits state (Over e)) (sym is) tt
held_end state (Counting nth) end ends = absurd ends
held_end state Deciding end ends = absurd ends
held_end state (Saving nth got) end ends = absurd ends
held_end state (Copying nth old at) end ends = absurd ends
held_end state (Installing nth at) end ends = absurd ends
held_end state Publishing end is = subst (λ e. HeldFits state (Over e)) (sym is) tt
held_end state (Freeing nth) end is = subst (λ e. HeldFits state (Over e)) (sym is) tt
held_end state (Clearing (refusal.Locked lock)) end is = subst (λ e. HeldFits state (Over e)) (sym is) tt
held_end state (Clearing (refusal.Newer lock)) end is = subst (λ e. HeldFits state (Over e)) (sym is) tt
held_end state (Clearing (refusal.Full lock)) end is = subst (λ e. HeldFits state (Over e)) (sym is) tt
held_end state Ending end is = subst (λ e. HeldFits state (Over e)) (sym is) tt

module _ (shape : Shape) where
  held_asked_op : (state : TxnState) (o : Op) → state.held ≡ [] → HeldStep (ask_op shape state o)
  held_asked_op state o none =
      let own = own_value state.writes (op_key o) in
      ask_goes shape HeldStep o state (λ e f. none)
      (λ e f. held_any (with_op shape (knowing state o own) o own) (answer_of o own) none) (λ e f. none) (λ e f. none)

  pub held_after : (state : TxnState) (at : TxnPoint) (found : ℕ) → HeldFits state (At at)
      → HeldStep (txn_after shape state at found)
  held_after state (Finding o passed) found none =
      finding_goes shape HeldStep o state passed found (λ next e. none) (λ position e. none) (λ e f. none)
      (λ e end silent. held_any (knowing state o None) end none)
  held_after state (Reading o position place) found none =
      reading_goes shape HeldStep o state position place found (λ next e. none) (λ value e f. none)
      (λ value e end silent. held_any (knowing state o value) end none) (λ worker entry horizon e. none) (λ e. none)
  held_after state (Claiming o place) found none =
      claiming_goes shape HeldStep o state place found (λ next e. none) (λ e. none)
      (λ position e end silent is. held_any (after_claim shape state o position) end none)
  held_after state (Committing place) found held =
      commit_goes HeldStep state place found (λ next goes. tt) (λ header next is goes. tt)
      (λ at count next is goes. tt) (λ end ends. held_end state place end ends)

  pub held_asked : (state : TxnState) (call : TxnCall) → state.held ≡ [] → HeldStep (txn_ask shape state call)
  held_asked state (Get t k) none = held_asked_op state (op.Get t k) none
  held_asked state (Put t k v) none = held_asked_op state (op.Put t k v) none
  held_asked state (Add t k f up by) none = held_asked_op state (op.Add t k f up by) none
  held_asked state (Del t k) none = held_asked_op state (op.Del t k) none
  held_asked state (Need t k f least) none = held_asked_op state (op.Need t k f least) none
  held_asked state (Guard t k) none = held_asked_op state (op.Guard t k) none
  held_asked state Commit none =
      ask_commit_goes HeldStep state shape (λ e. none) (λ e f. none) (λ e f g. tt) (λ e f g. tt)
