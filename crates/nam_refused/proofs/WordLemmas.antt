-- What is said of a client's commit by its point, after a word that it takes and a call that it is asked: by the sorts
-- of steps, whatever is said.
use Rattle.std.proofs.Common.{None, Option, Some, ap, length, refl, subst, ℕ, ◌≡◌}
use Rattle.nam_calls.specs.declared.lock.LockPoint.TheVariants.{Peek}
use Rattle.nam_catalog.specs.declared.shape.Shape.{Shape}
use Rattle.nam_ghost.proofs.IdleLemmas.{aside_idle, begins_idle, snaps_idle}
use Rattle.nam_ghost.specs.Idle.{IsIdle}
use Rattle.nam_protocol.proofs.GoesCommit.{ask_commit_goes}
use Rattle.nam_protocol.specs.Commit.{ask_commit, commit_after, committing, list_begin}
use Rattle.nam_protocol.specs.Sorts.{AskOf, AsksBegin, AsksCollect, AsksCommit, AsksPlain, Begins, Collects, Commits}
use Rattle.nam_protocol.specs.Sorts.{Finds, Moves, Reads, Snaps, StepOf, committing_at}
use Rattle.nam_protocol.specs.Telling.{go, stepped}
use Rattle.nam_protocol.specs.Txn.{Stepped}
use Rattle.nam_protocol.specs.declared.client.Answer.{Answer}
use Rattle.nam_protocol.specs.declared.client.CallPoint.{CallPoint}
use Rattle.nam_protocol.specs.declared.client.CallPoint.TheVariants.{Beginning, InTxn, Snapping}
use Rattle.nam_protocol.specs.declared.client.ClientState.{ClientState}
use Rattle.nam_protocol.specs.declared.client.Open.{Open}
use Rattle.nam_protocol.specs.declared.txn.CommitPoint.{CommitPoint}
use Rattle.nam_protocol.specs.declared.txn.CommitPoint.TheVariants.{Listing, Locking}
use Rattle.nam_protocol.specs.declared.txn.TxnAnswer.{TxnAnswer}
use Rattle.nam_protocol.specs.declared.txn.TxnPoint.{TxnPoint}
use Rattle.nam_protocol.specs.declared.txn.TxnPoint.TheVariants.{Committing}
use Rattle.nam_protocol.specs.declared.txn.TxnState.{TxnState}
use Rattle.nam_refused.specs.Views.{InCall, InNow}
use Rattle.nam_vector.specs.Snap.{snap_after}
use Rattle.nam_verbs.specs.declared.now.Now.{Now}
use Rattle.nam_verbs.specs.declared.now.Now.TheVariants.{At, Over}
use Rattle.nam_protocol.specs.declared.client.Answer.TheVariants as client_answer

module _ (Point : TxnState → CommitPoint → Type 0) where
  -- nothing of a client that runs no commit
  pub idle_ok : (call : Option (Now CallPoint Answer)) (opened : Option Open) → IsIdle call → InCall Point call opened
  idle_ok None opened idle = tt
  idle_ok (Some (Over answer)) opened idle = tt
  idle_ok (Some (At (InTxn (Committing at)))) opened idle = absurd idle
  idle_ok (Some (At (InTxn _))) opened idle = tt
  idle_ok (Some (At _)) opened idle = tt

  -- a commit that has stepped, seen as its client
  pub stepped_ok : (Ends : TxnAnswer → Type 0) (client : ClientState) (attempt : Open) (before : ℕ) (step : Stepped)
      → InNow Point Ends step.state step.call → let after = stepped client attempt before step in
      InCall Point after.call after.txn
  stepped_ok Ends client attempt before step ok = by_call step.state step.call ok
    where
      by_call : (state : TxnState) (call : Now TxnPoint TxnAnswer) → InNow Point Ends state call
          → let after = stepped client attempt before record { state = state; call = call } in
          InCall Point after.call after.txn
      by_call state (At (Committing at)) ok = ok
      by_call state (At _) ok = tt
      by_call state (Over answer) ok = tt

  -- a call is asked
  pub ask_ok : (shape : Shape) → ((state : TxnState) → Point state (Listing list_begin))
      → ((state : TxnState) → Point state (Locking Peek)) → (before after : ClientState) → AskOf shape before after
      → InCall Point after.call after.txn
  ask_ok shape lists locks _ after (AsksPlain client asked plain unread) =
      idle_ok after.call after.txn (aside_idle after.call plain.aside)
  ask_ok shape lists locks _ _ (AsksBegin client txn number) = tt
  ask_ok shape lists locks _ _ (AsksCollect client bucket) = tt
  ask_ok shape lists locks _ _ (AsksCommit client attempt) =
      let state = attempt.state in
      let Any : TxnAnswer → Type 0 = λ answer. Unit {0} in
      stepped_ok Any (record client { txn = Some attempt }) attempt 0 (ask_commit shape state)
      (ask_commit_goes (λ step. InNow Point Any step.state step.call) state shape (λ e. tt) (λ e f. tt)
      (λ e f tells. lists (committing state)) (λ e f untold. locks (committing state)))

  -- a word is taken: all but a commit's is at once clear
  pub word_ok : (shape : Shape) (found : ℕ) (Ends : TxnState → TxnAnswer → Type 0) (before after : ClientState)
      → StepOf shape found before after
      → ((client : ClientState) (attempt : Open) (at : CommitPoint) → before ≡ committing_at client attempt at
      → let step = commit_after attempt.state at found in InNow Point (Ends attempt.state) step.state step.call)
      → InCall Point after.call after.txn
  word_ok shape found Ends _ after (Finds client point is plain anew) commits =
      idle_ok after.call after.txn (aside_idle after.call plain.aside)
  word_ok shape found Ends _ after (Reads client point reader is plain on) commits =
      idle_ok after.call after.txn (aside_idle after.call plain.aside)
  word_ok shape found Ends _ after (Moves client table key position at plain) commits =
      idle_ok after.call after.txn (aside_idle after.call plain.aside)
  word_ok shape found Ends _ after (Collects client bucket prefix seen at plain) commits =
      idle_ok after.call after.txn (aside_idle after.call plain.aside)
  word_ok shape found Ends _ after (Begins client txn number at) commits =
      idle_ok after.call after.txn
      (begins_idle shape (go client (Beginning txn number at)) txn number (snap_after shape.workers at found)).0
  word_ok shape found Ends _ after (Snaps client bucket at) commits =
      idle_ok after.call after.txn
      (snaps_idle shape (go client (Snapping bucket at)) bucket (snap_after shape.workers at found)).0
  word_ok shape found Ends _ _ (Commits client attempt at) commits =
      stepped_ok (Ends attempt.state) (committing_at client attempt at) attempt (length attempt.state.held)
      (commit_after attempt.state at found) (commits client attempt at refl)

-- the answer of a call of a transaction
abbrev answer_in : TxnAnswer → Option (Now CallPoint Answer) → TxnAnswer
answer_in other (Some (Over (client_answer.Txn answer))) = answer
answer_in other _ = other

-- a step that ends with an answer
pub step_ends : (Point : TxnState → CommitPoint → Type 0) (Ends : TxnAnswer → Type 0) (client : ClientState)
    (attempt : Open) (before : ℕ) (step : Stepped) (answer : TxnAnswer) → InNow Point Ends step.state step.call
    → (stepped client attempt before step).call ≡ Some (Over (client_answer.Txn answer)) → Ends answer
step_ends Point Ends client attempt before step answer ok ends = by_call step.state step.call ok ends
  where
    by_call : (state : TxnState) (call : Now TxnPoint TxnAnswer) → InNow Point Ends state call
        → (stepped client attempt before record { state = state; call = call }).call
        ≡ Some (Over (client_answer.Txn answer)) → Ends answer
    by_call state (At place) ok ends = absurd (cc)
    by_call state (Over given) ok ends = subst Ends (ap (answer_in given) ends) ok
