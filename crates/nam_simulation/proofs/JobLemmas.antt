-- The workers' jobs, transaction by transaction.
use Rattle.std.proofs.Common.{◌≡◌, ℕ, zero, suc, ◌+◌, ◌-◌, ◌<◌, ◌≤◌, List, [], ◌∷◌, ◌++◌, length, map, Bool, true}
use Rattle.std.proofs.Common.{false, get_or, take, drop, refl, ap, sym, ◌∙◌, subst, arith, append-nil}
use Rattle.std.proofs.Math.Seq.{take-suc}
use Rattle.std.proofs.lemmas.List.{take-append-le, take_all, length-take, length-map, get_or-map}
use Rattle.std.proofs.lemmas.Bool.{eq-eqb, ne_eqb}
use Rattle.std.specs.Prelude.{◌==◌, if◌then◌else◌, slice_index_or, slice_set, replicate}
use Rattle.nam_script.specs.declared.script.ScriptTxn.{ScriptTxn}
use Rattle.nam_protocol.specs.declared.session.Job.{Job}
use Rattle.nam_protocol.specs.Schedule.{Owned, numbers_from, jobs_of, all_jobs}
use Rattle.nam_scenario.specs.Scenario.{owned_of}
use Rattle.nam_simulation.specs.Simulation.{with_job}

abbrev job_of : ℕ → Owned → Job
job_of number t = record { txn = number; ops = t.ops }

-- the job of the worker that a transaction is
abbrev own_job : ℕ → ℕ → Owned → List Job
own_job worker number t = if t.worker == worker then job_of number t ∷ [] else []

with_first : (b : Bool) (j : Job) (before after own : List Job) → after ≡ before ++ own
    → (if b then j ∷ after else after) ≡ (if b then j ∷ before else before) ++ own
with_first true j before after own e = ap (λ js. j ∷ js) e
with_first false j before after own e = e

jobs_more : (worker n number : ℕ) (txns : List Owned) (t : Owned) → number ≡ n + length txns
    → jobs_of worker n (txns ++ t ∷ []) ≡ jobs_of worker n txns ++ own_job worker number t
jobs_more worker n number [] t e =
    let same : n ≡ number = omega arith in ap (λ k. own_job worker k t) same
jobs_more worker n number (x ∷ txns) t e =
    with_first (x.worker == worker) (job_of n x) (jobs_of worker (n + 1) txns)
    (jobs_of worker (n + 1) (txns ++ t ∷ [])) (own_job worker number t)
    (jobs_more worker (n + 1) number txns t (omega arith))

module _ (txns : List Owned) (t : Owned) (number : ℕ) (next : number ≡ 1 + length txns) where
  abbrev old : ℕ → List Job
  old worker = jobs_of worker 1 txns

  abbrev new : ℕ → List Job
  new worker = jobs_of worker 1 (txns ++ t ∷ [])

  others : (worker : ℕ) → (t.worker ≡ worker → ⊥) → new worker ≡ old worker
  others worker other =
      jobs_more worker 1 number txns t next
      ∙ ap (λ b. old worker ++ (if b then job_of number t ∷ [] else [])) (ne_eqb t.worker worker other)
      ∙ append-nil (old worker)

  owners : (worker : ℕ) → t.worker ≡ worker → new worker ≡ old worker ++ job_of number t ∷ []
  owners worker own =
      jobs_more worker 1 number txns t next
      ∙ ap (λ b. old worker ++ (if b then job_of number t ∷ [] else [])) (eq-eqb t.worker worker own)

  later : (from count : ℕ) → t.worker < from → map new (numbers_from from count) ≡ map old (numbers_from from count)
  later from zero l = refl
  later from (suc count) l =
      ap (λ js. js ∷ map new (numbers_from (from + 1) count)) (others from (λ e. omega arith))
      ∙ ap (λ rest. old from ∷ rest) (later (from + 1) count (omega arith))

  abbrev put : List (List Job) → ℕ → List (List Job)
  put jobs k = slice_set jobs k (slice_index_or jobs k [] ++ job_of number t ∷ [])

  put_job : (from count k : ℕ) → t.worker ≡ from + k → k < count
      → map new (numbers_from from count) ≡ put (map old (numbers_from from count)) k
  put_job from zero k e l = absurd (omega arith)
  put_job from (suc count) zero e l =
      ap (λ js. js ∷ map new (numbers_from (from + 1) count)) (owners from (omega arith))
      ∙ ap (λ rest. (old from ++ job_of number t ∷ []) ∷ rest) (later (from + 1) count (omega arith))
  put_job from (suc count) (suc k) e l =
      ap (λ js. js ∷ map new (numbers_from (from + 1) count)) (others from (λ same. omega arith))
      ∙ ap (λ rest. old from ∷ rest) (put_job (from + 1) count k (omega arith) (omega arith))

  -- the transaction's worker has one more job
  pub jobs_next : (workers : ℕ) → 1 ≤ t.worker → t.worker ≤ workers
      → all_jobs workers (txns ++ t ∷ []) ≡ put (all_jobs workers txns) (t.worker - 1)
  jobs_next workers first last = put_job 1 workers (t.worker - 1) (omega arith) (omega arith)

-- before the first transaction
numbers_none : (from count : ℕ) → map (λ worker. jobs_of worker 1 []) (numbers_from from count) ≡ replicate count []
numbers_none from zero = refl
numbers_none from (suc count) = ap (λ rest. [] ∷ rest) (numbers_none (from + 1) count)

pub jobs_none : (workers : ℕ) → all_jobs workers [] ≡ replicate workers []
jobs_none workers = numbers_none 1 workers

-- the transactions up to one more
owned_next : (txns : List ScriptTxn) (place : ℕ) (txn : ScriptTxn) → place < length txns
    → txn ≡ get_or txns place txn
    → take (place + 1) (map owned_of txns) ≡ take place (map owned_of txns) ++ owned_of txn ∷ []
owned_next txns place txn within is =
    let owned = map owned_of txns in
    let next : place + 1 ≡ suc place = omega arith in
    ap (λ k. take k owned) next
    ∙ take-suc owned place (owned_of txn) (subst (λ n. place < n) (sym (length-map txns owned_of)) within)
    ∙ ap (λ (t : Owned). take place owned ++ t ∷ [])
    (get_or-map owned_of txns place txn (owned_of txn) within ∙ ap owned_of (sym is))

-- the jobs of the transactions up to one more
pub jobs_step : (workers : ℕ) (txns : List ScriptTxn) (place : ℕ) (txn : ScriptTxn) (before after : List (List Job))
    → place < length txns
    → txn ≡ get_or txns place txn
    → (1 ≤ txn.worker) × (txn.worker ≤ workers)
    → before ≡ all_jobs workers (take place (map owned_of txns))
    → after ≡ with_job before (place + 1) txn
    → after ≡ all_jobs workers (take (place + 1) (map owned_of txns))
jobs_step workers txns place txn before after within is worker before_is after_is =
    let owned = map owned_of txns in
    let long = length-map txns owned_of in
    let short = length-take place owned in
    after_is
    ∙ ap (λ js. with_job js (place + 1) txn) before_is
    ∙ sym (jobs_next (take place owned) (owned_of txn) (place + 1) (omega arith) workers worker.0 worker.1)
    ∙ ap (all_jobs workers) (sym (owned_next txns place txn within is))

-- a slice of a whole vector is written back
pub written_back : (n : ℕ) (new old : List (List Job)) → n ≡ length old → length new ≡ length old
    → take n (new ++ drop (length new) old) ≡ new
written_back n new old many same =
    take-append-le n new (drop (length new) old) (omega arith) ∙ take_all n new (omega arith)
