-- What fits is kept by each word, and the number of verbs to come falls.
use Rattle.std.proofs.Common.{◌≡◌, ℕ, ◌<◌, ◌≤◌, refl, sym, ap, subst, ◌∙◌, arith}
use Rattle.std.proofs.lemmas.Bool.{false≢true}
use Rattle.std.specs.Prelude.{IsNone, Some, None}
use Rattle.nam_verbs.specs.declared.now.Now.{Now}
use Rattle.nam_verbs.specs.declared.now.Now.TheVariants.{At, Over}
use Rattle.nam_verbs.specs.Now.{FitsNow, left_now, end_now}
use Rattle.nam_verbs.specs.Falls.{Falls}
use Rattle.nam_catalog.specs.declared.form.Form.TheVariants.{Held}
use Rattle.nam_catalog.specs.declared.shape.Shape.{Shape}
use Rattle.nam_catalog.specs.Fits.{FitsLimits}
use Rattle.nam_layout.specs.declared.field.Field.TheVariants.{Intent}
use Rattle.nam_layout.specs.Address.{address}
use Rattle.nam_protocol.specs.declared.txn.TxnState.{TxnState}
use Rattle.nam_protocol.specs.declared.txn.TxnPoint.{TxnPoint}
use Rattle.nam_protocol.specs.declared.txn.TxnPoint.TheVariants.{Committing}
use Rattle.nam_protocol.specs.declared.txn.TxnAnswer.{TxnAnswer}
use Rattle.nam_protocol.specs.declared.txn.TxnCall.TheVariants.{Commit}
use Rattle.nam_protocol.specs.declared.txn.CommitPoint.{CommitPoint}
use Rattle.nam_protocol.specs.Txn.{Stepped}
use Rattle.nam_protocol.specs.Commit.{commit_after, ask_commit}
use Rattle.nam_protocol.specs.Bound.{commit_left, txn_left}
use Rattle.nam_protocol.specs.TxnFits.{StateFits, CommitFits, TxnPointFits, TxnFalls, TxnBegins, AnswerFits}
use Rattle.nam_protocol.specs.TxnFits.{commit_bound}
use Rattle.nam_protocol.proofs.FallsTxn.{txn_falls}
use Rattle.nam_protocol.proofs.FallsBegins.{txn_begins}
use Rattle.nam_protocol.proofs.GoesCommit.{commit_goes, ask_commit_goes}
use Rattle.nam_commit.specs.Commits.{Commits, CommitsFit, CommitsStand, committed, commits_after, commits_left, call_of}

-- 1. The worker stays

worker_after : (state : TxnState) (at : CommitPoint) (found : ℕ)
    → (commit_after state at found).state.worker ≡ state.worker
worker_after state at found =
    commit_goes (λ step. step.state.worker ≡ state.worker) state at found (λ next goes. refl)
    (λ header next is goes. refl) (λ p count next is counted. refl) (λ answer ends. refl)

worker_asked : (shape : Shape) (state : TxnState) → (ask_commit shape state).state.worker ≡ state.worker
worker_asked shape state =
    ask_commit_goes (λ step. step.state.worker ≡ state.worker) state shape (λ e. refl) (λ e f. refl) (λ e f t. refl)
    (λ e f t. refl)

-- 2. A word

module _ (shape : Shape) (limits : FitsLimits shape) where
  falls_now : (next : TxnState) (now : Now CommitPoint TxnAnswer) (n : ℕ)
      → Falls (TxnPointFits shape next) (AnswerFits shape.form) (txn_left shape next) n (call_of now)
      → FitsNow (CommitFits shape next) now × (left_now (commit_left next) now < n)
  falls_now next (At at) n falls = falls
  falls_now next (Over answer) n falls = (tt, falls.1)

  begins_now : (next : TxnState) (now : Now CommitPoint TxnAnswer) (n : ℕ)
      → TxnBegins shape n record { state = next; call = call_of now }
      → FitsNow (CommitFits shape next) now × (left_now (commit_left next) now ≤ n)
  begins_now next (At at) n begins = begins.1
  begins_now next (Over answer) n begins = (tt, omega arith)

  word_kept : (state : TxnState) (now : Now CommitPoint TxnAnswer) (found : ℕ) (next : TxnState)
      (later : Now CommitPoint TxnAnswer)
      → StateFits shape state → FitsNow (CommitFits shape state) now → IsNone (end_now now)
      → record { state = next; call = call_of later } ≡ commits_after state now found
      → StateFits shape next × FitsNow (CommitFits shape next) later × (next.worker ≡ state.worker)
      × (left_now (commit_left next) later < left_now (commit_left state) now)
  word_kept state (At at) found next later fits point stands goes =
      let falls = subst (λ step. TxnFalls shape (commit_left state at) step) (sym goes)
      (txn_falls shape limits state (Committing at) found fits point) in
      let both = falls_now next later (commit_left state at) falls.1 in
      (falls.0, both.0, ap (λ (step : Stepped). step.state.worker) goes ∙ worker_after state at found, both.1)
  word_kept state (Over answer) found next later fits point stands goes = absurd (false≢true (sym stands))

pub kept : (shape : Shape) (state : TxnState) (a : Commits) (found : ℕ) (next : TxnState) (b : Commits)
    → CommitsFit shape state a → IsNone (end_now a.state) → committed next b ≡ commits_after state a.state found
    → b.intent_at ≡ a.intent_at
    → CommitsFit shape next b × (commits_left next b < commits_left state a)
kept shape state a found next b fit stands goes same =
    let k = word_kept shape fit.limits state a.state found next b.state fit.state_fits fit.point stands goes in (
      record {
        limits = fit.limits;
        state_fits = k.0;
        point = k.1;
        intent = λ held. same ∙ fit.intent held ∙ ap (λ w. address shape (Intent w 0)) (sym k.2);
      },
      k.3,
    )

-- some shape is enough
pub falls : (state : TxnState) (a : Commits) (found : ℕ) (next : TxnState) (b : Commits)
    → CommitsStand state a → IsNone (end_now a.state) → committed next b ≡ commits_after state a.state found
    → b.intent_at ≡ a.intent_at → commits_left next b < commits_left state a
falls state a found next b stand stands goes same = (kept stand.0 state a found next b stand.1 stands goes same).1

-- 3. A commit is asked

pub begun : (shape : Shape) (limits : FitsLimits shape) (state next : TxnState) (b : Commits) → StateFits shape state
    → committed next b ≡ ask_commit shape state
    → (shape.form ≡ Held → b.intent_at ≡ address shape (Intent state.worker 0))
    → CommitsFit shape next b × (commits_left next b ≤ commit_bound shape state)
begun shape limits state next b fits asked intent =
    let begins = subst (λ step. TxnBegins shape (commit_bound shape state) step) (sym asked)
    (txn_begins shape limits state Commit fits tt) in
    let worker = ap (λ (step : Stepped). step.state.worker) asked ∙ worker_asked shape state in
    let at = begins_now shape limits next b.state (commit_bound shape state) begins in (
      record {
        limits = limits;
        state_fits = begins.0;
        point = at.0;
        intent = λ held. intent held ∙ ap (λ w. address shape (Intent w 0)) (sym worker);
      },
      at.1,
    )
