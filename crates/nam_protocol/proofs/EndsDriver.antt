-- What follows an answer: the driver's next call and all after it take no more verbs than were left, and fewer calls
-- follow without a verb.
use Rattle.std.proofs.Common.{◌≡◌, ℕ, zero, suc, ◌+◌, ◌-◌, ◌*◌, ◌<◌, ◌≤◌, List, [], ◌∷◌, length, drop, take, refl, sym}
use Rattle.std.proofs.Common.{ap, subst, arith, Bool, true, false, not, Option, Some, None}
use Rattle.std.proofs.Math.Nat.{suc-mul}
use Rattle.std.proofs.Math.Numerals.{add-one}
use Rattle.std.specs.Prelude.{◌==◌, ◌||◌, if◌then◌else◌, slice_get, is_some}
use Rattle.std.specs.List.{AllByRecursion}
use Rattle.std.proofs.lemmas.Bool.{false≢true}
use Rattle.std.proofs.lemmas.Bool.Decides.{nat_tests}
use Rattle.std.proofs.lemmas.List.{length-map}
use Rattle.si_model.specs.declared.row.Key.{Key}
use Rattle.si_model.specs.declared.op.Op.{Op}
use Rattle.si_model.specs.declared.op.Op.TheVariants.{Get, Put, Add, Del, Need, Guard, Scan}
use Rattle.si_model.specs.declared.log.Lock.{Lock}
use Rattle.si_model.specs.Rows.{key_at}
use Rattle.si_model.specs.Evaluation.{OpFits, with_guard, op_key, key_written, keys_from, written_keys}
use Rattle.si_model.specs.Answers.{lock_key}
use Rattle.nam_verbs.proofs.TestLemmas.{by_test, by_equal}
use Rattle.nam_catalog.specs.declared.bounds.TheConstants.{MOST_KEYS}
use Rattle.nam_catalog.specs.declared.shape.Table.{Table}
use Rattle.nam_catalog.specs.declared.shape.Shape.{Shape}
use Rattle.nam_catalog.specs.Tables.{widths_of}
use Rattle.nam_calls.specs.Fits.{IsTableOf}
use Rattle.nam_calls.specs.Holds.{IsWord}
use Rattle.nam_calls.specs.Words.{key_word}
use Rattle.nam_calls.proofs.FallsTests.{either}
use Rattle.nam_protocol.specs.declared.txn.TxnAnswer.{TxnAnswer}
use Rattle.nam_protocol.specs.declared.client.Answer.{Answer}
use Rattle.nam_protocol.specs.declared.client.Open.{Open}
use Rattle.nam_protocol.specs.declared.session.Job.{Job}
use Rattle.nam_protocol.specs.declared.session.DriverPoint.{DriverPoint}
use Rattle.nam_protocol.specs.declared.session.DriverPoint.TheVariants.{ToBegin, ToAsk, ToTidy, ToCollect}
use Rattle.nam_protocol.specs.declared.session.DriverState.{DriverState}
use Rattle.nam_protocol.specs.Driver.{key_number, next_job, next_try, retried, tidying, on_full, keys_of_job, on_commit}
use Rattle.nam_protocol.specs.Driver.{on_txn, on_begin, on_ask, on_tidy, place_taken}
use Rattle.nam_protocol.specs.AttemptLaw.{has_passed}
use Rattle.nam_protocol.specs.Bound.{op_bound, ops_bound, tidy_bound, collect_bound}
use Rattle.nam_protocol.specs.Left.{key_bound, keys_bound, commit_bound, try_bound, jobs_bound}
use Rattle.nam_protocol.specs.Left.{after_call_bound, rest_bound}
use Rattle.nam_protocol.specs.TxnFits.{IsKeyOf}
use Rattle.nam_protocol.specs.SessionFits.{OpenAsked, ops_of, JobFits, AreKeysOf, TidiesFit, DriverPointFits}
use Rattle.nam_protocol.specs.SessionFits.{DriverFits}
use Rattle.nam_protocol.proofs.FallsKeys.{all_guarded}
use Rattle.nam_protocol.proofs.RunsClient.{HasPassed, TxnAnswered, AskAnswered, TidyAnswered, IsAnswered}
use Rattle.nam_protocol.proofs.JobKeys.{written_few}
use Rattle.nam_protocol.specs.declared.txn.TxnAnswer.TheVariants as txn_answer
use Rattle.nam_protocol.specs.declared.client.Answer.TheVariants as answer

-- 1. Lists

pub drop_from : {A : Type 0} (xs : List A) (n : ℕ) (x : A) → slice_get xs n ≡ Some x → drop n xs ≡ x ∷ drop (n + 1) xs
drop_from [] n x e = absurd (cc)
drop_from (y ∷ ys) zero x e = ap (λ z. z ∷ ys) (cc)
drop_from (y ∷ ys) (suc n) x e = rw add-one (rw add-one at (drop_from ys n x e))

pub drop_over : {A : Type 0} (xs : List A) (n : ℕ) → slice_get xs n ≡ None → drop n xs ≡ []
drop_over [] zero e = refl
drop_over [] (suc n) e = refl
drop_over (y ∷ ys) zero e = absurd (cc)
drop_over (y ∷ ys) (suc n) e = drop_over ys n e

-- the keys from one of them on
keys_at : (keys : List Key) (n : ℕ) → n < length keys → drop n keys ≡ key_number keys n ∷ drop (n + 1) keys
keys_at [] n l = absurd (omega arith)
keys_at (k ∷ ks) zero l = refl
keys_at (k ∷ ks) (suc n) l = rw add-one (rw add-one at (keys_at ks n (omega arith)))

is_some_within : {A : Type 0} (xs : List A) (n : ℕ) → n < length xs → is_some (slice_get xs n) ≡ true
is_some_within [] n l = absurd (omega arith)
is_some_within (x ∷ xs) zero l = refl
is_some_within (x ∷ xs) (suc n) l = is_some_within xs n (omega arith)

-- 2. Figures

abbrev key_or : Key → Option Key → Key
key_or key None = key
key_or key (Some other) = other

module _ (shape : Shape) where
  -- an operation, or the commit
  abbrev pub ask_most : List Op → Option Op → ℕ
  ask_most ops None = commit_bound shape ops
  ask_most ops (Some op) = op_bound shape op

  -- the call that is asked next
  abbrev pub call_most : List Op → DriverPoint → ℕ
  call_most ops ToBegin = 2 * shape.workers
  call_most ops (ToAsk nth) = ask_most ops (slice_get ops nth)
  call_most ops (ToTidy keys nth again retry) = tidy_bound shape (key_number keys nth).table
  call_most ops (ToCollect bucket keys nth retry) = collect_bound shape

  -- that call, what follows it, and the jobs after this one
  abbrev pub pending : DriverState → List Job → ℕ
  pending driver [] = 0
  pending driver (job ∷ jobs) = call_most job.ops driver.place + rest_bound shape driver (job ∷ jobs)

  -- how many calls may follow without a verb, the next one included
  abbrev pub calls_from : List Op → DriverPoint → ℕ
  calls_from ops ToBegin = 1
  calls_from ops (ToAsk nth) = length ops - nth + 2
  calls_from ops (ToTidy keys nth again retry) = 1
  calls_from ops (ToCollect bucket keys nth retry) = 1

  -- the same after an answer to that call
  abbrev pub calls_after : List Op → DriverPoint → ℕ
  calls_after ops (ToAsk nth) = length ops - nth + 1
  calls_after ops _ = length ops + 2

  -- of the operations from the nth on, and the commit
  ask_figure_at : (ops : List Op) (nth : ℕ) (o : Option Op) → slice_get ops nth ≡ o
      → call_most ops (ToAsk nth) + after_call_bound shape ops (ToAsk nth)
      ≡ ops_bound shape (drop nth ops) + commit_bound shape ops + keys_bound shape (written_keys ops)
  ask_figure_at ops nth None e = rw (e, drop_over ops nth e) (omega arith)
  ask_figure_at ops nth (Some op) e = rw (e, drop_from ops nth op e) (omega arith)

  ask_figure : (ops : List Op) (nth : ℕ)
      → call_most ops (ToAsk nth) + after_call_bound shape ops (ToAsk nth)
      ≡ ops_bound shape (drop nth ops) + commit_bound shape ops + keys_bound shape (written_keys ops)
  ask_figure ops nth = ask_figure_at ops nth (slice_get ops nth) refl

  -- what follows an operation that has passed, and what follows one that has ended the try
  passed_figure : (ops : List Op) (nth : ℕ) → nth < length ops
      → after_call_bound shape ops (ToAsk nth)
      ≡ ops_bound shape (drop (nth + 1) ops) + commit_bound shape ops + keys_bound shape (written_keys ops)
  passed_figure ops nth l = rw (is_some_within ops nth l) refl

  ended_figure : (ops : List Op) (nth : ℕ)
      → keys_bound shape (written_keys ops) ≤ after_call_bound shape ops (ToAsk nth)
  ended_figure ops nth =
      let keys = keys_bound shape (written_keys ops) in
      either (λ n. keys ≤ n) (is_some (slice_get ops nth))
      (ops_bound shape (drop (nth + 1) ops) + commit_bound shape ops + keys) keys (omega arith) (omega arith)

  -- what follows the tidying of a key
  tidied_figure : (ops : List Op) (keys : List Key) (nth : ℕ) (again retry : Bool) → nth < length keys
      → keys_bound shape (drop (nth + 1) keys) ≤ after_call_bound shape ops (ToTidy keys nth again retry)
  tidied_figure ops keys nth true retry l = rw (keys_at keys nth l) (omega arith)
  tidied_figure ops keys nth false retry l = rw (keys_at keys nth l) (omega arith)

  tidy_figure : (ops : List Op) (keys : List Key) (nth : ℕ) (retry : Bool) → nth < length keys
      → call_most ops (ToTidy keys nth false retry) + after_call_bound shape ops (ToTidy keys nth false retry)
      ≡ keys_bound shape (drop nth keys)
  tidy_figure ops keys nth retry l = rw (keys_at keys nth l) (omega arith)

  collect_figure : (ops : List Op) (keys : List Key) (nth bucket : ℕ) (retry : Bool) → nth < length keys
      → call_most ops (ToCollect bucket keys nth retry) + after_call_bound shape ops (ToCollect bucket keys nth retry)
      ≡ after_call_bound shape ops (ToTidy keys nth false retry)
  collect_figure ops keys nth bucket retry l = rw (keys_at keys nth l) (omega arith)

  again_figure : (ops : List Op) (keys : List Key) (nth bucket : ℕ) (retry : Bool) → nth < length keys
      → call_most ops (ToTidy keys nth true retry) + after_call_bound shape ops (ToTidy keys nth true retry)
      ≡ after_call_bound shape ops (ToCollect bucket keys nth retry)
  again_figure ops keys nth bucket retry l = rw (keys_at keys nth l) (omega arith)

  -- one try less
  pub try_figure : (tries nth m bound : ℕ) → tries - nth ≡ suc m → m ≡ tries - (nth + 1)
      → bound + (tries - (nth + 1)) * bound ≡ (tries - nth) * bound
  try_figure tries nth m bound e f = rw (e, ← f, suc-mul) (omega arith)

  pub first_figure : (tries m bound : ℕ) → tries ≡ suc m → m ≡ tries - 1 → bound + (tries - 1) * bound ≡ tries * bound
  first_figure tries m bound e f = rw (← f, e, suc-mul) (omega arith)

  -- 3. The keys that a job writes

  of_table : (t k : ℕ) (key : Key) → t < length (widths_of shape.tables) → IsWord (key_word k)
      → Some (key_at t k) ≡ Some key
      → IsKeyOf shape key
  of_table t k key l word e =
      let same = ap (key_or (key_at t k)) e in
      let m = length-map shape.tables (λ (table : Table). table.width) in
      let is : IsTableOf shape t = omega arith in
      subst (IsKeyOf shape) same (is, word)

  -- an operation's key is of a table
  written_of_table : (op : Op) (key : Key) → OpFits (widths_of shape.tables) op → IsWord (key_word (op_key op).key)
      → key_written op ≡ Some key
      → IsKeyOf shape key
  written_of_table (Get t k) key f word e = absurd (cc)
  written_of_table (Put t k v) key f word e = of_table t k key f.0.0 word e
  written_of_table (Add t k i up by) key f word e = of_table t k key f.0.0 word e
  written_of_table (Del t k) key f word e = of_table t k key f.0 word e
  written_of_table (Need t k i least) key f word e = absurd (cc)
  written_of_table (Guard t k) key f word e = absurd (cc)
  written_of_table (Scan t low high) key f word e = absurd (cc)

  guarded_of_tables : (ks : List Key) (op : Op) (o : Option Key) → key_written op ≡ o
      → OpFits (widths_of shape.tables) op → IsWord (key_word (op_key op).key) → AreKeysOf shape ks
      → AreKeysOf shape (elim o [ None ↦ ks | Some key ↦ with_guard ks key ])
  guarded_of_tables ks op None e f word all = all
  guarded_of_tables ks op (Some key) e f word all =
      all_guarded (IsKeyOf shape) ks key all (written_of_table op key f word e)

  written_of_tables : (ks : List Key) (ops : List Op) → AllByRecursion (OpFits (widths_of shape.tables)) ops
      → AllByRecursion (λ op. IsWord (key_word (op_key op).key)) ops → AreKeysOf shape ks
      → AreKeysOf shape (keys_from key_written ks ops)
  written_of_tables ks [] fit words all = all
  written_of_tables ks (op ∷ ops) fit words all =
      written_of_tables (elim (key_written op) [ None ↦ ks | Some key ↦ with_guard ks key ]) ops fit.1 words.1
      (guarded_of_tables ks op (key_written op) refl fit.0 words.0 all)

  -- 4. What the driver asks next

  -- of the next call it is known that its transaction has asked what comes before
  abbrev pub AsksFrom : DriverPoint → List Op → Option Open → Type 0
  AsksFrom ToBegin ops txn = Unit {0}
  AsksFrom (ToAsk nth) ops txn = OpenAsked txn (take nth ops)
  AsksFrom (ToTidy keys nth again retry) ops txn = Unit {0}
  AsksFrom (ToCollect bucket keys nth retry) ops txn = Unit {0}

  -- the driver goes on with at most n verbs and so many calls to come
  pub record GoesOn (jobs : List Job) (txn : Option Open) (n calls : ℕ) (driver : DriverState) : Type 0 where
    pub fits : DriverFits shape driver
    pub asks : AsksFrom driver.place (ops_of (slice_get jobs driver.job)) txn
    pub left : pending driver (drop driver.job jobs) ≤ n
    pub few : calls_from (ops_of (slice_get jobs driver.job)) driver.place ≤ calls

  -- a driver that begins with the first of these jobs
  pub begins_pending : (driver : DriverState) (rest : List Job) → 1 ≤ driver.policy.tries
      → pending (record driver { nth = 1; place = ToBegin }) rest ≤ jobs_bound shape driver.policy rest
  begins_pending driver [] least = omega arith
  begins_pending driver (job ∷ rest) least =
      let f = first_figure driver.policy.tries (driver.policy.tries - 1) (try_bound shape job.ops) (omega arith) refl in
      omega arith

  module _ (jobs : List Job) (txn : Option Open) (driver : DriverState) (job : Job)
      (here : slice_get jobs driver.job ≡ Some job) (least : 1 ≤ driver.nth)
      (most : driver.nth ≤ driver.policy.tries) where
    abbrev tries : ℕ
    tries = driver.policy.tries

    abbrev rest : List Job
    rest = drop (driver.job + 1) jobs

    -- what follows this try
    abbrev later : ℕ
    later = (tries - driver.nth) * try_bound shape job.ops + jobs_bound shape driver.policy rest

    abbrev Goes : ℕ → ℕ → DriverState → Type 0
    Goes n calls next = GoesOn jobs txn n calls next

    goes_next : (n calls : ℕ) → later ≤ n → 1 ≤ calls → Goes n calls (next_job driver)
    goes_next n calls l c = record {
      fits = (omega arith, omega arith, tt);
      asks = tt;
      left = let b = begins_pending (record driver { job = driver.job + 1 }) rest (omega arith) in omega arith;
      few = c;
    }

    -- the same job, where it goes on from a point
    goes_at : (n calls nth : ℕ) (place : DriverPoint) → (1 ≤ nth) × (nth ≤ tries)
        → DriverPointFits shape tries nth place
        → AsksFrom place job.ops txn
        → call_most job.ops place
        + (after_call_bound shape job.ops place + (tries - nth) * try_bound shape job.ops
        + jobs_bound shape driver.policy rest) ≤ n
        → calls_from job.ops place ≤ calls
        → Goes n calls (record driver { nth = nth; place = place })
    goes_at n calls nth place is fits asks l c = record {
      fits = (is.0, is.1, fits);
      asks = subst (λ o. AsksFrom place (ops_of o) txn) (sym here) asks;
      left = subst (λ js. pending (record driver { nth = nth; place = place }) js ≤ n)
          (sym (drop_from jobs driver.job job here)) l;
      few = subst (λ o. calls_from (ops_of o) place ≤ calls) (sym here) c;
    }

    goes_try : (n calls : ℕ) → driver.nth < tries → later ≤ n → 1 ≤ calls → Goes n calls (next_try driver)
    goes_try n calls m l c =
        let f = try_figure tries driver.nth (tries - (driver.nth + 1)) (try_bound shape job.ops) (omega arith) refl in
        goes_at n calls (driver.nth + 1) ToBegin (omega arith, omega arith) tt tt (omega arith) c

    goes_retried : (n calls : ℕ) → later ≤ n → 1 ≤ calls → Goes n calls (retried driver)
    goes_retried n calls l c =
        by_equal (Goes n calls) driver.nth tries (next_job driver) (next_try driver) (λ e. goes_next n calls l c)
        (λ other. goes_try n calls (omega arith) l c)

    -- after the last key
    goes_tidied : (n calls : ℕ) (retry : Bool) → (retry ≡ true → driver.nth < tries) → later ≤ n → 1 ≤ calls
        → Goes n calls (if retry then next_try driver else next_job driver)
    goes_tidied n calls true may l c = goes_try n calls (may refl) l c
    goes_tidied n calls false may l c = goes_next n calls l c

    goes_tidying : (n calls : ℕ) (keys : List Key) (nth : ℕ) (retry : Bool) → AreKeysOf shape keys
        → nth ≤ length keys
        → (retry ≡ true → driver.nth < tries) → length keys ≤ MOST_KEYS
        → keys_bound shape (drop nth keys) + later ≤ n → 1 ≤ calls
        → Goes n calls (tidying driver keys nth retry)
    goes_tidying n calls keys nth retry of within may few l c =
        by_equal (Goes n calls) nth (length keys) (if retry then next_try driver else next_job driver)
        (record driver { place = ToTidy keys nth false retry })
        (λ e. goes_tidied n calls retry may (omega arith) c)
        (λ other. let m : nth < length keys = omega arith in
        let f = tidy_figure job.ops keys nth retry m in
        goes_at n calls driver.nth (ToTidy keys nth false retry) (least, most) (of, m, may, few) tt (omega arith) c)

    first_false : (a b : Bool) → (a || b) ≡ false → a ≡ false
    first_false true b e = e
    first_false false b e = refl

    goes_full : (n calls : ℕ) (lock : Lock) → IsKeyOf shape (lock_key lock)
        → key_bound shape (lock_key lock) + later ≤ n → 1 ≤ calls
        → Goes n calls (on_full driver lock)
    goes_full n calls lock is l c =
        let key = key_at lock.table lock.key in
        by_test (Goes n calls) ((driver.nth == tries) || not driver.policy.tidy) (retried driver)
        (tidying driver (key ∷ []) 0 true)
        (λ e. goes_retried n calls (omega arith) c)
        (λ e. let other = first_false (driver.nth == tries) (not driver.policy.tidy) e in
        let m : driver.nth < tries = grind (arith, nat_tests) in
        goes_tidying n calls (key ∷ []) 0 true (is, tt) (omega arith) (λ t. m) (omega arith) (omega arith) c)

    goes_commit : (n calls : ℕ) → JobFits shape job → keys_bound shape (written_keys job.ops) + later ≤ n → 1 ≤ calls
        → Goes n calls (on_commit jobs driver)
    goes_commit n calls fit l c =
        let keys = written_keys job.ops in
        let tidied = tidying driver keys 0 false in
        subst (λ o. Goes n calls
        (if driver.policy.tidy then tidying driver (keys_of_job o) 0 false else next_job driver))
        (sym here)
        (either (Goes n calls) driver.policy.tidy tidied (next_job driver)
        (goes_tidying n calls keys 0 false (written_of_tables [] job.ops fit.fit fit.keys tt) (omega arith)
        (λ t. absurd (false≢true t)) (written_few job.ops fit.few) l c)
        (goes_next n calls (omega arith) c))

    goes_ask : (n calls nth : ℕ) → OpenAsked txn (take nth job.ops)
        → ops_bound shape (drop nth job.ops) + commit_bound shape job.ops + keys_bound shape (written_keys job.ops)
        + later ≤ n
        → length job.ops - nth + 2 ≤ calls
        → Goes n calls (record driver { place = ToAsk nth })
    goes_ask n calls nth asked l c =
        let f = ask_figure job.ops nth in
        goes_at n calls driver.nth (ToAsk nth) (least, most) tt asked (omega arith) c

    -- 5. An answer is taken

    -- what was to follow the call that was answered
    abbrev follows : DriverPoint → ℕ
    follows place =
        after_call_bound shape job.ops place + (tries - driver.nth) * try_bound shape job.ops
        + jobs_bound shape driver.policy rest

    begin_goes : (end : Answer) → IsAnswered shape ToBegin job.ops txn end
        → Goes (follows ToBegin) (length job.ops + 2) (on_begin driver end)
    begin_goes (answer.Begun prefix) a =
        goes_ask (follows ToBegin) (length job.ops + 2) 0 a (omega arith) (omega arith)
    begin_goes _ a = goes_retried (follows ToBegin) (length job.ops + 2) (omega arith) (omega arith)

    module _ (nth : ℕ) where
      abbrev GoesAfter : DriverState → Type 0
      GoesAfter next = Goes (follows (ToAsk nth)) (length job.ops - nth + 1) next

      passed_goes : HasPassed shape job.ops nth txn → GoesAfter (record driver { place = ToAsk (nth + 1) })
      passed_goes passed =
          let l = passed.0 in
          let f = passed_figure job.ops nth l in
          goes_ask (follows (ToAsk nth)) (length job.ops - nth + 1) (nth + 1) passed.1 (omega arith) (omega arith)

      over_goes : GoesAfter (next_job driver)
      over_goes = goes_next (follows (ToAsk nth)) (length job.ops - nth + 1) (omega arith) (omega arith)

      retried_goes : GoesAfter (retried driver)
      retried_goes = goes_retried (follows (ToAsk nth)) (length job.ops - nth + 1) (omega arith) (omega arith)

      txn_goes : JobFits shape job → (end : TxnAnswer) → TxnAnswered shape job.ops nth txn end (has_passed end)
          → GoesAfter (on_txn jobs driver nth end)
      txn_goes fit (txn_answer.Value value) a = passed_goes a
      txn_goes fit txn_answer.Written a = passed_goes a
      txn_goes fit (txn_answer.Added n) a = passed_goes a
      txn_goes fit txn_answer.Met a = passed_goes a
      txn_goes fit (txn_answer.Committed number) a =
          let f = ended_figure job.ops nth in
          goes_commit (follows (ToAsk nth)) (length job.ops - nth + 1) fit (omega arith) (omega arith)
      txn_goes fit txn_answer.ReadOnly a = over_goes
      txn_goes fit (txn_answer.TooOld worker entry horizon) a = retried_goes
      txn_goes fit (txn_answer.NoSpace table) a = over_goes
      txn_goes fit txn_answer.Declined a = over_goes
      txn_goes fit txn_answer.Spent a = over_goes
      txn_goes fit (txn_answer.Locked lock) a = retried_goes
      txn_goes fit (txn_answer.Newer lock) a = retried_goes
      txn_goes fit (txn_answer.Full lock) a =
          let f = ended_figure job.ops nth in
          let l = a.1 in
          goes_full (follows (ToAsk nth)) (length job.ops - nth + 1) lock a.0 (omega arith) (omega arith)
      txn_goes fit txn_answer.Astray a = over_goes

      ask_goes : JobFits shape job → (end : Answer) → AskAnswered shape job.ops nth txn end
          → GoesAfter (on_ask jobs driver nth end)
      ask_goes fit (answer.Txn end) a = txn_goes fit end a
      ask_goes fit (answer.Scanned items) a = passed_goes a
      ask_goes fit _ a = absurd a

    module _ (keys : List Key) (nth : ℕ) (retry : Bool) (fits : TidiesFit shape tries driver.nth keys nth retry) where
      tidied_goes : (again : Bool)
          → Goes (follows (ToTidy keys nth again retry)) (length job.ops + 2) (tidying driver keys (nth + 1) retry)
      tidied_goes again =
          let l = fits.1 in
          let f = tidied_figure job.ops keys nth again retry l in
          goes_tidying (follows (ToTidy keys nth again retry)) (length job.ops + 2) keys (nth + 1) retry fits.0
          (omega arith) fits.2 fits.3 (omega arith) (omega arith)

      tidy_goes : (again : Bool) (end : Answer) → TidyAnswered shape end
          → Goes (follows (ToTidy keys nth again retry)) (length job.ops + 2) (on_tidy driver keys nth again retry end)
      tidy_goes true end a = tidied_goes true
      tidy_goes false (answer.NoRoom bucket) a =
          let l = fits.1 in
          let f = collect_figure job.ops keys nth bucket retry l in
          goes_at (follows (ToTidy keys nth false retry)) (length job.ops + 2) driver.nth
          (ToCollect bucket keys nth retry) (least, most) (a, fits) tt (omega arith) (omega arith)
      tidy_goes false _ a = tidied_goes false

      collect_goes : (bucket : ℕ)
          → Goes (follows (ToCollect bucket keys nth retry)) (length job.ops + 2)
          (record driver { place = ToTidy keys nth true retry })
      collect_goes bucket =
          let l = fits.1 in
          let f = again_figure job.ops keys nth bucket retry l in
          goes_at (follows (ToCollect bucket keys nth retry)) (length job.ops + 2) driver.nth
          (ToTidy keys nth true retry) (least, most) fits tt (omega arith) (omega arith)

    pub takes : JobFits shape job → (place : DriverPoint) (end : Answer)
        → DriverPointFits shape tries driver.nth place
        → IsAnswered shape place job.ops txn end
        → Goes (follows place) (calls_after job.ops place) (place_taken jobs driver place end)
    takes fit ToBegin end fits a = begin_goes end a
    takes fit (ToAsk nth) end fits a = ask_goes nth fit end a
    takes fit (ToTidy keys nth again retry) end fits a = tidy_goes keys nth retry fits again end a
    takes fit (ToCollect bucket keys nth retry) end fits a =
        collect_goes keys nth retry fits.1 bucket
