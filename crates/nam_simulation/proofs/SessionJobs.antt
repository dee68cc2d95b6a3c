-- The jobs of a script's worker are such as its session may have.
use Rattle.std.proofs.Common.{◌≡◌, ◌≤◌, ◌<◌, ◌+◌, ◌*◌, ◌^◌, ℕ, zero, suc, Bool, true, false, List, [], ◌∷◌, length, map}
use Rattle.std.proofs.Common.{refl, ap, ◌∙◌, arith}
use Rattle.std.proofs.lemmas.Nat.{mul-le}
use Rattle.std.proofs.lemmas.List.{length-map}
use Rattle.std.specs.Prelude.{◌==◌, if◌then◌else◌}
use Rattle.std.specs.List.{AllByRecursion}
use Rattle.si_model.specs.declared.op.Op.{Op}
use Rattle.si_model.specs.declared.op.Op.TheVariants.{Get, Put, Add, Del, Need, Guard, Scan}
use Rattle.nam_catalog.specs.declared.shape.Shape.{Shape}
use Rattle.nam_catalog.specs.declared.bounds.TheConstants.{MOST_OPS, MOST_TRIES, MOST_TXNS}
use Rattle.nam_catalog.specs.Tables.{capacities_of}
use Rattle.nam_protocol.specs.declared.session.Job.{Job}
use Rattle.nam_protocol.specs.Left.{jobs_weight, jobs_writes, op_weight, ops_weight, room_for, writes_in}
use Rattle.nam_protocol.specs.Schedule.{Owned, all_jobs, jobs_of, numbers_from}
use Rattle.nam_protocol.specs.SessionFits.{JobFits, OpsFit}
use Rattle.nam_protocol.proofs.JobKeys.{written_few}
use Rattle.nam_script.specs.declared.script.Script.{Script}
use Rattle.nam_script.specs.declared.script.ScriptTxn.{ScriptTxn}
use Rattle.nam_script.specs.Checks.{op_cost, ops_cost, txns_cost}
use Rattle.nam_script.specs.Limits.{IsScript, TxnFits}
use Rattle.nam_scenario.specs.Scenario.{owned_of, scenario_of}
use Rattle.nam_scenario.proofs.ScenarioLemmas.{scripts_fit}
use Rattle.nam_worker.specs.Answering.{IsJob}
use Rattle.nam_worker.specs.Needs.{IsSmall}
use Rattle.nam_simulation.specs.Simulation.{AreJobsOf}

-- 1. A job that is the worker's, or another's

keep : (P : Job → Type 0) (own : Bool) (job : Job) (jobs : List Job) → P job → AllByRecursion P jobs
    → AllByRecursion P (if own then job ∷ jobs else jobs)
keep P true job jobs p all = (p, all)
keep P false job jobs p all = all

-- what is summed over the jobs is no more with the job than with its part
within : (sum : List Job → ℕ) (own : Bool) (job : Job) (jobs : List Job) (n m : ℕ)
    → sum (job ∷ jobs) ≤ n + m → sum jobs ≤ m → sum (if own then job ∷ jobs else jobs) ≤ n + m
within sum true job jobs n m l k = l
within sum false job jobs n m l k = omega arith

-- 2. What an operation costs

module _ (shape : Shape) where
  abbrev cost : List ScriptTxn → ℕ
  cost txns = txns_cost (capacities_of shape.tables) txns

  op_weighs : (op : Op) → op_weight shape op ≡ op_cost (capacities_of shape.tables) op
  op_weighs (Get t k) = refl
  op_weighs (Put t k v) = refl
  op_weighs (Add t k f up by) = refl
  op_weighs (Del t k) = refl
  op_weighs (Need t k f least) = refl
  op_weighs (Guard t k) = refl
  op_weighs (Scan t low high) = refl

  ops_weigh : (ops : List Op) → ops_weight shape ops ≡ ops_cost (capacities_of shape.tables) ops
  ops_weigh [] = refl
  ops_weigh (op ∷ ops) = let e = op_weighs op in let rest = ops_weigh ops in omega arith

  ops_write : (ops : List Op) → writes_in ops ≤ ops_cost (capacities_of shape.tables) ops
  ops_write [] = omega arith
  ops_write (Get t k ∷ ops) = let rest = ops_write ops in omega arith
  ops_write (Put t k v ∷ ops) = let rest = ops_write ops in omega arith
  ops_write (Add t k f up by ∷ ops) = let rest = ops_write ops in omega arith
  ops_write (Del t k ∷ ops) = let rest = ops_write ops in omega arith
  ops_write (Need t k f least ∷ ops) = let rest = ops_write ops in omega arith
  ops_write (Guard t k ∷ ops) = let rest = ops_write ops in omega arith
  ops_write (Scan t low high ∷ ops) = let rest = ops_write ops in omega arith

  -- 3. A worker's jobs, of which the first transaction has this number

  module _ (worker : ℕ) where
    abbrev own : ℕ → List ScriptTxn → List Job
    own n txns = jobs_of worker n (map owned_of txns)

    few : (n : ℕ) (txns : List ScriptTxn) → length (own n txns) ≤ length txns
    few n [] = omega arith
    few n (txn ∷ txns) =
        let rest = few (n + 1) txns in
        let l = within (λ jobs. length jobs) (txn.worker == worker) (record { txn = n; ops = txn.ops })
        (own (n + 1) txns) 1 (length txns) (omega arith) rest in
        omega arith

    weigh : (n : ℕ) (txns : List ScriptTxn) → jobs_weight shape (own n txns) ≤ cost txns
    weigh n [] = omega arith
    weigh n (txn ∷ txns) =
        let rest = weigh (n + 1) txns in
        let here = ops_weigh txn.ops in
        within (jobs_weight shape) (txn.worker == worker) (record { txn = n; ops = txn.ops }) (own (n + 1) txns)
        (ops_cost (capacities_of shape.tables) txn.ops) (cost txns) (omega arith) rest

    write : (n : ℕ) (txns : List ScriptTxn) → jobs_writes (own n txns) ≤ cost txns
    write n [] = omega arith
    write n (txn ∷ txns) =
        let rest = write (n + 1) txns in
        let here = ops_write txn.ops in
        within jobs_writes (txn.worker == worker) (record { txn = n; ops = txn.ops }) (own (n + 1) txns)
        (ops_cost (capacities_of shape.tables) txn.ops) (cost txns) (omega arith) rest

    fit : (n : ℕ) (txns : List ScriptTxn)
        → AllByRecursion (λ (txn : Owned). OpsFit shape txn.ops) (map owned_of txns)
        → AllByRecursion (JobFits shape) (own n txns)
    fit n [] all = tt
    fit n (txn ∷ txns) all =
        keep (JobFits shape) (txn.worker == worker) (record { txn = n; ops = txn.ops }) (own (n + 1) txns) all.0
        (fit (n + 1) txns all.1)

    short : (n : ℕ) (txns : List ScriptTxn) → AllByRecursion (TxnFits shape.workers shape.tables) txns
        → AllByRecursion IsJob (own n txns)
    short n [] all = tt
    short n (txn ∷ txns) all =
        let ops = all.0.ops in
        let few_ops = ops.few in
        keep IsJob (txn.worker == worker) (record { txn = n; ops = txn.ops }) (own (n + 1) txns)
        record { short = omega arith; few = written_few txn.ops ops.claims }
        (short (n + 1) txns all.1)

-- 4. So they are

tidies_small : (tidy : Bool) (n : ℕ) → n < 2 ^ 32 → (if tidy then n else 0) < 2 ^ 32
tidies_small true n l = l
tidies_small false n l = omega arith

module _ (script : Script) (is : IsScript script) where
  small : (jobs : List Job) → length jobs ≤ MOST_TXNS → jobs_weight script.shape jobs ≤ MOST_OPS
      → jobs_writes jobs ≤ MOST_OPS → IsSmall (room_for script.shape script.policy jobs)
  small jobs few weight writes =
      let attempts = mul-le script.policy.tries (length jobs) MOST_TRIES MOST_TXNS is.tries.1 few in
      let ops = mul-le script.policy.tries (jobs_weight script.shape jobs) MOST_TRIES MOST_OPS is.tries.1 weight in
      record {
        attempts = omega arith;
        ops = omega arith;
        tidies =
            tidies_small script.policy.tidy (3 * (jobs_writes jobs + script.policy.tries * length jobs)) (omega arith);
      }

  pub worker_jobs : (worker : ℕ) → AreJobsOf script (jobs_of worker 1 (scenario_of script).txns)
  worker_jobs worker =
      let shape = script.shape in
      let most = is.few in
      let all_cost = is.cost in
      let number = few shape worker 1 script.txns in
      let weight = weigh shape worker 1 script.txns in
      let writes = write shape worker 1 script.txns in
      record {
        fit = fit shape worker 1 script.txns (scripts_fit script is).txns;
        are = record { many = omega arith; each = short shape worker 1 script.txns is.txns };
        small = small (own shape worker 1 script.txns) (omega arith) (omega arith) (omega arith);
      }

  numbered_jobs : (numbers : List ℕ)
      → AllByRecursion (AreJobsOf script) (map (λ worker. jobs_of worker 1 (scenario_of script).txns) numbers)
  numbered_jobs [] = tt
  numbered_jobs (worker ∷ numbers) = (worker_jobs worker, numbered_jobs numbers)

  pub workers_jobs : AllByRecursion (AreJobsOf script) (all_jobs script.shape.workers (scenario_of script).txns)
  workers_jobs = numbered_jobs (numbers_from 1 script.shape.workers)

numbers_long : (from count : ℕ) → length (numbers_from from count) ≡ count
numbers_long from zero = refl
numbers_long from (suc count) = ap suc (numbers_long (from + 1) count)

pub jobs_long : (workers : ℕ) (txns : List Owned) → length (all_jobs workers txns) ≡ workers
jobs_long workers txns =
    length-map (numbers_from 1 workers) (λ worker. jobs_of worker 1 txns) ∙ numbers_long 1 workers
