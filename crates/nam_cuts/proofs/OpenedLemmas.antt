-- Each worker's session in the opened world is a new one, with the worker's jobs.
use Rattle.std.proofs.Common.{◌≡◌, ℕ, zero, suc, ◌+◌, ◌-◌, ◌<◌, List, [], ◌∷◌, refl, subst, arith, Some}
use Rattle.std.specs.Prelude.{◌==◌, map, slice_get}
use Rattle.std.specs.List.{AllByRecursion}
use Rattle.si_model.specs.declared.op.Policy.{Policy}
use Rattle.nam_catalog.specs.declared.shape.Shape.{Shape}
use Rattle.nam_calls.specs.Fits.{IsOf}
use Rattle.nam_calls.proofs.FallsTests.{either}
use Rattle.nam_protocol.specs.declared.session.Job.{Job}
use Rattle.nam_protocol.specs.Session.{new_session}
use Rattle.nam_protocol.specs.Telling.{new_client}
use Rattle.nam_protocol.specs.World.{new_sessions}
use Rattle.nam_protocol.specs.Schedule.{Owned, all_jobs, jobs_of, numbers_from}
use Rattle.nam_protocol.specs.SessionFits.{JobFits, OpsFit}

module _ (shape : Shape) (policy : Policy) where
  new_at : (of : ℕ → List Job) (first count k : ℕ) → k < count
      → slice_get (new_sessions shape policy first (map of (numbers_from first count))) k
      ≡ Some (new_session shape (new_client (first + k) shape.start) (of (first + k)) policy)
  new_at of first zero k l = absurd (omega (arith, l))
  new_at of first (suc count) zero l =
      let e : first ≡ first + 0 = omega arith in
      subst (λ n. Some (new_session shape (new_client first shape.start) (of first) policy)
      ≡ Some (new_session shape (new_client n shape.start) (of n) policy)) e refl
  new_at of first (suc count) (suc k) l =
      let e : first + 1 + k ≡ first + suc k = omega arith in
      subst (λ n. slice_get (new_sessions shape policy (first + 1) (map of (numbers_from (first + 1) count))) k
      ≡ Some (new_session shape (new_client n shape.start) (of n) policy)) e
      (new_at of (first + 1) count k (omega (arith, l)))

  pub opened_at : (txns : List Owned) (worker : ℕ) → IsOf shape.workers worker
      → slice_get (new_sessions shape policy 1 (all_jobs shape.workers txns)) (worker - 1)
      ≡ Some (new_session shape (new_client worker shape.start) (jobs_of worker 1 txns) policy)
  opened_at txns worker is =
      let e : 1 + (worker - 1) ≡ worker = omega (arith, is.0) in
      subst (λ n. slice_get (new_sessions shape policy 1 (all_jobs shape.workers txns)) (worker - 1)
      ≡ Some (new_session shape (new_client n shape.start) (jobs_of n 1 txns) policy)) e
      (new_at (λ n. jobs_of n 1 txns) 1 shape.workers (worker - 1) (omega (arith, is.0, is.1)))

-- a worker's jobs fit
pub owned_fit : (shape : Shape) (worker txn : ℕ) (txns : List Owned)
    → AllByRecursion (λ (t : Owned). OpsFit shape t.ops) txns
    → AllByRecursion (JobFits shape) (jobs_of worker txn txns)
owned_fit shape worker txn [] fit = tt
owned_fit shape worker txn (t ∷ txns) fit =
    let more = owned_fit shape worker (txn + 1) txns fit.1 in
    either (AllByRecursion (JobFits shape)) (t.worker == worker)
    (record { txn = txn; ops = t.ops } ∷ jobs_of worker (txn + 1) txns)
    (jobs_of worker (txn + 1) txns) (fit.0, more) more
