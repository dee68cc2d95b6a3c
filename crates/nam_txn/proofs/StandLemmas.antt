-- A transaction that is one of a store: what its step goes by, and that it is one after each step.
use Rattle.std.proofs.Common.{◌≡◌, ◌≢◌, ℕ, ◌<◌, ◌≤◌, List, [], refl, sym, ap, ◌∙◌, subst, arith}
use Rattle.std.proofs.Common.{Option, Some, None}
use Rattle.std.specs.Prelude.{IsNone}
use Rattle.nam_verbs.specs.declared.now.Now.{Now}
use Rattle.nam_verbs.specs.declared.now.Now.TheVariants.{At, Over}
use Rattle.nam_verbs.specs.Falls.{Falls}
use Rattle.nam_verbs.specs.Now.{left_now, end_now, verb_now}
use Rattle.nam_catalog.specs.declared.shape.Shape.{Shape}
use Rattle.nam_catalog.specs.Fits.{FitsLimits}
use Rattle.nam_protocol.specs.declared.txn.TxnState.{TxnState}
use Rattle.nam_protocol.specs.declared.txn.TxnPoint.{TxnPoint}
use Rattle.nam_protocol.specs.declared.txn.TxnAnswer.{TxnAnswer}
use Rattle.nam_protocol.specs.Txn.{Stepped, new_txn}
use Rattle.nam_protocol.specs.Bound.{txn_left, commit_left}
use Rattle.nam_protocol.specs.TxnFits.{StateFits, TxnPointFits, TxnFalls, TxnBegins, Begins, AnswerFits}
use Rattle.nam_protocol.specs.TxnFits.{TxnCallFits, txn_call_bound}
use Rattle.nam_protocol.specs.declared.txn.CommitPoint.{CommitPoint}
use Rattle.nam_commit.specs.Commits.{Commits, CommitsFit, call_of, commits_after, commits_verb, commits_left}
use Rattle.nam_protocol.specs.declared.txn.TxnCall.{TxnCall}
use Rattle.nam_protocol.specs.TxnCalls.{txn_ask, txn_after}
use Rattle.nam_protocol.specs.Commit.{commit_verb}
use Rattle.nam_protocol.proofs.FallsTxn.{txn_falls}
use Rattle.nam_protocol.proofs.FallsBegins.{txn_begins}
use Rattle.nam_protocol.proofs.KeyLemmas.{none_once}
use Rattle.nam_calls.specs.Memory.{verb_there}
use Rattle.nam_txn.proofs.HeldLemmas.{held_after, held_asked}
use Rattle.nam_txn.specs.Walk.{IsWalk}
use Rattle.nam_txn.specs.Txn.{IsTxnOf, IsAt, Runs, after_of, CanBegin, answer_in, verb_of, CallFits, HeldFits}
use Rattle.nam_txn.specs.Txn.{Stands, StepHolds, StepKeeps, Holds, Keeps}
use Rattle.nam_txn.specs.Txn.{call_at, now_at, hand_of, value_of, stepped_of, left_of, verbs_left}
use Rattle.nam_txn.specs.declared.registers.Registers.{Registers}
use Rattle.nam_txn.specs.declared.step.Step.{Step}
use Rattle.nam_txn.specs.declared.step.Step.TheVariants as step

module _ (shape : Shape) (a : Registers) where
  commit_fits : (now : Now CommitPoint TxnAnswer) → IsNone (end_now now)
      → CallFits shape a.state (hand_of a) (Some (call_of now)) → CommitsFit shape a.state a.committer
  commit_fits (At at) none call = call.1
  commit_fits (Over end) none call = absurd (cc)

  stands_at : (s : Step) → FitsLimits shape → StateFits shape a.state → IsWalk a.walk → StepHolds s a
      → CallFits shape a.state (hand_of a) (call_at s a) → Stands shape s a
  stands_at step.Resting limits fits walk holds call = tt
  stands_at step.Finding limits fits walk holds call =
      record { limits = limits; fits = fits; stands = call.0.0; table = call.1; walk = walk }
  stands_at step.Reading limits fits walk holds call = (
    record { limits = limits; fits = fits; stands = call.0.0; table = call.1.0; walk = walk },
    record {
      position = call.0.1;
      sight = call.1.1;
      state = holds.0;
      fits = call.0.2;
      left = holds.1;
    },
  )
  stands_at step.KeyLook limits fits walk holds call = (
    record { limits = limits; fits = fits; stands = call.0.0; table = call.1; walk = walk },
    record { wide = call.0.2; claims = call.0.3; passes = holds },
  )
  stands_at step.KeyTake limits fits walk holds call = (
    record { limits = limits; fits = fits; stands = call.0.0; table = call.1; walk = walk },
    record { wide = call.0.2; claims = call.0.3; passes = holds },
  )
  stands_at step.Committing limits fits walk holds call = (commit_fits a.committer.state holds.0 call, holds.0)
  stands_at step.Answered limits fits walk holds call = tt

  -- what the step at hand goes by
  pub stands : (s : Step) → a.step ≡ s → Holds a → IsTxnOf shape (value_of a) → Stands shape s a
  stands s is holds of =
      stands_at s of.limits of.fits holds.walk (subst (λ t. StepHolds t a) is holds.at)
      (subst (λ t. CallFits shape a.state (hand_of a) (call_at t a)) is of.call)

  -- the call after a step that falls, or that begins
  module _ (n : ℕ) where
    commit_stepped : (now : Now CommitPoint TxnAnswer) → CommitsFit shape a.state a.committer
        → HeldFits a.state (call_of now)
        → Falls (TxnPointFits shape a.state) (AnswerFits shape.form) (txn_left shape a.state) n (call_of now)
        → CallFits shape a.state (hand_of a) (Some (call_of now))
        × (left_of shape a.state (Some (call_of now)) < n) × (Some (call_of now) ≡ Some (call_of now))
    commit_stepped (At at) fit held falls = ((falls.0, fit, held), falls.1, refl)
    commit_stepped (Over end) fit held falls = ((falls.0, held), falls.1, refl)

    commit_begun : (now : Now CommitPoint TxnAnswer) → CommitsFit shape a.state a.committer
        → HeldFits a.state (call_of now)
        → Begins (TxnPointFits shape a.state) (AnswerFits shape.form) (txn_left shape a.state) n (call_of now)
        → CallFits shape a.state (hand_of a) (Some (call_of now))
        × (left_of shape a.state (Some (call_of now)) ≤ n) × (Some (call_of now) ≡ Some (call_of now))
    commit_begun (At at) fit held begins = ((begins.0, fit, held), begins.1, refl)
    commit_begun (Over end) fit held begins = ((begins, held), omega arith, refl)

    stepped_at : (s : Step) → StepKeeps shape s a → HeldFits a.state (now_at s a)
        → Falls (TxnPointFits shape a.state) (AnswerFits shape.form) (txn_left shape a.state) n (now_at s a)
        → CallFits shape a.state (hand_of a) (call_at s a)
        × (left_of shape a.state (call_at s a) < n) × (call_at s a ≡ Some (now_at s a))
    stepped_at step.Resting keeps held falls = absurd keeps
    stepped_at step.Finding keeps held falls = ((falls.0, keeps, held), falls.1, refl)
    stepped_at step.Reading keeps held falls = ((falls.0, keeps, held), falls.1, refl)
    stepped_at step.KeyLook keeps held falls = ((falls.0, keeps, held), falls.1, refl)
    stepped_at step.KeyTake keeps held falls = ((falls.0, keeps, held), falls.1, refl)
    stepped_at step.Committing keeps held falls = commit_stepped a.committer.state keeps held falls
    stepped_at step.Answered keeps held falls = ((falls.0, held), falls.1, refl)

  begun_at : (n : ℕ) (s : Step) → StepKeeps shape s a → HeldFits a.state (now_at s a)
      → Begins (TxnPointFits shape a.state) (AnswerFits shape.form) (txn_left shape a.state) n (now_at s a)
      → CallFits shape a.state (hand_of a) (call_at s a)
      × (left_of shape a.state (call_at s a) ≤ n) × (call_at s a ≡ Some (now_at s a))
  begun_at n step.Resting keeps held begins = absurd keeps
  begun_at n step.Finding keeps held begins = ((begins.0, keeps, held), begins.1, refl)
  begun_at n step.Reading keeps held begins = ((begins.0, keeps, held), begins.1, refl)
  begun_at n step.KeyLook keeps held begins = ((begins.0, keeps, held), begins.1, refl)
  begun_at n step.KeyTake keeps held begins = ((begins.0, keeps, held), begins.1, refl)
  begun_at n step.Committing keeps held begins = commit_begun n a.committer.state keeps held begins
  begun_at n step.Answered keeps held begins = ((begins, held), omega arith, refl)

  -- it is one of the store after a step that falls
  pub record IsNext (n : ℕ) (s : Stepped) : Type 0 where
    pub of : IsTxnOf shape (value_of a)
    pub falls : verbs_left shape (value_of a) < n
    pub is_at : IsAt (value_of a) s

  pub next_is : (n : ℕ) (s : Stepped) → FitsLimits shape → Keeps shape a → stepped_of a ≡ s → TxnFalls shape n s
      → HeldFits s.state s.call → IsNext n s
  next_is n s limits keeps same falls held =
      let here : TxnFalls shape n (stepped_of a) = subst (TxnFalls shape n) (sym same) falls in
      let hold : HeldFits a.state (now_at a.step a) =
      subst (λ (t : Stepped). HeldFits t.state t.call) (sym same) held in
      let call = stepped_at n a.step keeps.at hold here.1 in
      record {
        of = record { limits = limits; fits = here.0; call = call.0 };
        falls = call.1;
        is_at = record {
          state = ap (λ (t : Stepped). t.state) same;
          call = call.2 ∙ ap (λ (t : Stepped). Some t.call) same;
        };
      }

  -- and once a call was asked
  pub record IsBegun (n : ℕ) (s : Stepped) : Type 0 where
    pub of : IsTxnOf shape (value_of a)
    pub left : verbs_left shape (value_of a) ≤ n
    pub is_at : IsAt (value_of a) s

  pub begun_is : (n : ℕ) (s : Stepped) → FitsLimits shape → Keeps shape a → stepped_of a ≡ s → TxnBegins shape n s
      → HeldFits s.state s.call → IsBegun n s
  begun_is n s limits keeps same begins held =
      let here : TxnBegins shape n (stepped_of a) = subst (TxnBegins shape n) (sym same) begins in
      let hold : HeldFits a.state (now_at a.step a) =
      subst (λ (t : Stepped). HeldFits t.state t.call) (sym same) held in
      let call = begun_at n a.step keeps.at hold here.1 in
      record {
        of = record { limits = limits; fits = here.0; call = call.0 };
        left = call.1;
        is_at = record {
          state = ap (λ (t : Stepped). t.state) same;
          call = call.2 ∙ ap (λ (t : Stepped). Some t.call) same;
        };
      }

-- 2. A word is taken, and a call is asked

module _ (shape : Shape) (a b : Registers) (of : IsTxnOf shape (value_of a)) where
  taken_at : (call : Option (Now TxnPoint TxnAnswer)) (found : ℕ) → CallFits shape a.state (hand_of a) call → Runs call
      → Keeps shape b → stepped_of b ≡ after_of shape a.state call found
      → IsNext shape b (left_of shape a.state call) (after_of shape a.state call found)
  taken_at None found fits runs keeps same = absurd runs
  taken_at (Some (Over answer)) found fits runs keeps same = absurd runs
  taken_at (Some (At at)) found fits runs keeps same =
      next_is shape b (txn_left shape a.state at) (txn_after shape a.state at found) of.limits keeps same
      (txn_falls shape of.limits a.state at found of.fits fits.0) (held_after shape a.state at found fits.2)

  pub taken : (found : ℕ) → Runs (value_of a).call → Keeps shape b
      → stepped_of b ≡ after_of shape a.state (value_of a).call found
      → IsNext shape b (verbs_left shape (value_of a)) (after_of shape a.state (value_of a).call found)
  taken found runs keeps same = taken_at (value_of a).call found of.call runs keeps same

  pub asked : (call : TxnCall) → TxnCallFits shape a.state call → a.state.held ≡ [] → Keeps shape b
      → stepped_of b ≡ txn_ask shape a.state call
      → IsBegun shape b (txn_call_bound shape a.state call) (txn_ask shape a.state call)
  asked call fits none keeps same =
      begun_is shape b (txn_call_bound shape a.state call) (txn_ask shape a.state call) of.limits keeps same
      (txn_begins shape of.limits a.state call of.fits fits) (held_asked shape a.state call none)

-- 3. A new transaction

module _ (shape : Shape) (worker last : ℕ) (seen : List ℕ) (can : CanBegin shape worker last seen) where
  new_fits : StateFits shape (new_txn worker last seen)
  new_fits = record {
    worker_is = can.worker_is;
    last_is = can.last_is;
    seen_is = can.seen_is;
    few = omega arith;
    placed = tt;
    claimed_once = none_once;
    written_once = none_once;
    guarded_once = none_once;
    written = tt;
    guarded = tt;
    used = tt;
    wide = tt;
  }

  pub new_is : (a : Registers) → a.step ≡ step.Resting → a.state ≡ new_txn worker last seen
      → IsTxnOf shape (value_of a)
  new_is a at state = record {
    limits = can.limits;
    fits = subst (StateFits shape) (sym state) new_fits;
    call = subst (λ s. CallFits shape a.state (hand_of a) (call_at s a)) (sym at)
        (ap (λ (s : TxnState). s.held) state, ap (λ (s : TxnState). s.read) state);
  }

-- 4. By the step

module _ (a : Registers) where
  no_answer_now : (now : Now CommitPoint TxnAnswer) → IsNone (end_now now) → answer_in (Some (call_of now)) ≡ None
  no_answer_now (At at) none = refl
  no_answer_now (Over end) none = absurd (cc)

  runs_now : (now : Now CommitPoint TxnAnswer) → IsNone (end_now now) → Runs (Some (call_of now))
  runs_now (At at) none = tt
  runs_now (Over end) none = absurd (cc)

  pub no_answer : (s : Step) → StepHolds s a → s ≢ step.Answered → answer_in (call_at s a) ≡ None
  no_answer step.Resting holds other = refl
  no_answer step.Finding holds other = refl
  no_answer step.Reading holds other = refl
  no_answer step.KeyLook holds other = refl
  no_answer step.KeyTake holds other = refl
  no_answer step.Committing holds other = no_answer_now a.committer.state holds.0
  no_answer step.Answered holds other = absurd (other refl)

  pub runs_at : (s : Step) → StepHolds s a → s ≢ step.Resting → s ≢ step.Answered → Runs (call_at s a)
  runs_at step.Resting holds rests over = absurd (rests refl)
  runs_at step.Finding holds rests over = tt
  runs_at step.Reading holds rests over = tt
  runs_at step.KeyLook holds rests over = tt
  runs_at step.KeyTake holds rests over = tt
  runs_at step.Committing holds rests over = runs_now a.committer.state holds.0
  runs_at step.Answered holds rests over = absurd (over refl)

-- 5. A commit

pub over_now : (now : Now CommitPoint TxnAnswer) (answer : TxnAnswer) → end_now now ≡ Some answer
    → call_of now ≡ Over answer
over_now (At at) answer is = absurd (cc)
over_now (Over end) answer is = let same : end ≡ answer = cc in ap Over same

pub commit_follows : (shape : Shape) (state : TxnState) (now : Now CommitPoint TxnAnswer) (found : ℕ)
    → IsNone (end_now now) → commits_after state now found ≡ after_of shape state (Some (call_of now)) found
commit_follows shape state (At at) found none = refl
commit_follows shape state (Over end) found none = absurd (cc)

pub commit_verb_is : (shape : Shape) (state : TxnState) (a : Commits)
    → commits_verb shape state a ≡ verb_of shape state (Some (call_of a.state))
commit_verb_is shape state a = by_now a.state
  where
    by_now : (now : Now CommitPoint TxnAnswer) → verb_now (λ at. verb_there shape (commit_verb state at)) now
        ≡ verb_of shape state (Some (call_of now))
    by_now (At at) = refl
    by_now (Over end) = refl

pub commit_left_is : (shape : Shape) (state : TxnState) (a : Commits)
    → commits_left state a ≡ left_of shape state (Some (call_of a.state))
commit_left_is shape state a = by_now a.state
  where
    by_now : (now : Now CommitPoint TxnAnswer) → left_now (commit_left state) now
        ≡ left_of shape state (Some (call_of now))
    by_now (At at) = refl
    by_now (Over end) = refl
