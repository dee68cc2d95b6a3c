-- The room that is reserved for jobs suffices for all calls that their driver asks.
use Rattle.std.proofs.Common.{◌≡◌, ℕ, zero, suc, ◌+◌, ◌-◌, ◌*◌, ◌<◌, ◌≤◌, List, [], ◌∷◌, length, drop, refl, sym, ap}
use Rattle.std.proofs.Common.{subst, arith, Bool, true, false, not, Option, Some, None}
use Rattle.std.proofs.Math.Nat.{mul-suc, mul-add}
use Rattle.std.proofs.Math.Numerals.{add-one}
use Rattle.std.specs.Prelude.{◌==◌, ◌||◌, if◌then◌else◌, slice_get, is_some}
use Rattle.std.proofs.lemmas.Bool.{false≢true}
use Rattle.std.proofs.lemmas.Bool.Decides.{nat_tests}
use Rattle.si_model.specs.declared.row.Key.{Key}
use Rattle.si_model.specs.declared.op.Op.{Op}
use Rattle.si_model.specs.declared.op.Op.TheVariants.{Get, Put, Add, Del, Need, Guard, Scan}
use Rattle.si_model.specs.declared.op.Policy.{Policy}
use Rattle.si_model.specs.declared.log.Lock.{Lock}
use Rattle.si_model.specs.Rows.{key_at, same_key}
use Rattle.si_model.specs.Evaluation.{with_guard, key_written, keys_from, written_keys}
use Rattle.nam_verbs.proofs.TestLemmas.{by_test, by_equal}
use Rattle.nam_catalog.specs.declared.shape.Shape.{Shape}
use Rattle.nam_calls.proofs.FallsTests.{either}
use Rattle.nam_protocol.specs.declared.txn.TxnAnswer.{TxnAnswer}
use Rattle.nam_protocol.specs.declared.client.Call.{Call}
use Rattle.nam_protocol.specs.declared.client.Answer.{Answer}
use Rattle.nam_protocol.specs.declared.session.Job.{Job}
use Rattle.nam_protocol.specs.declared.session.DriverPoint.{DriverPoint}
use Rattle.nam_protocol.specs.declared.session.DriverPoint.TheVariants.{ToBegin, ToAsk, ToTidy, ToCollect}
use Rattle.nam_protocol.specs.declared.session.DriverState.{DriverState}
use Rattle.nam_protocol.specs.Driver.{new_driver, call_of, op_call, place_call, job_call, driver_take, next_job}
use Rattle.nam_protocol.specs.Driver.{next_try}
use Rattle.nam_protocol.specs.Driver.{retried, tidying, on_full, keys_of_job, on_commit, on_txn, on_begin, on_ask}
use Rattle.nam_protocol.specs.Driver.{on_tidy}
use Rattle.nam_protocol.specs.Driver.{place_taken}
use Rattle.nam_protocol.specs.Left.{Room, writes_in, jobs_writes, op_weight, ops_weight, jobs_weight, room_for}
use Rattle.nam_protocol.specs.RoomLaw.{call_room, both_rooms, IsWithin, TidyCounts, PlaceCounts, DriverCounts}
use Rattle.nam_protocol.specs.RoomLaw.{begin_here}
use Rattle.nam_protocol.specs.RoomLaw.{try_tidies, retry_tidies, keys_tidies, place_tidies, place_ops}
use Rattle.nam_protocol.specs.RoomLaw.{driver_room, room_left, RoomLaw}
use Rattle.nam_protocol.proofs.EndsDriver.{drop_from, try_figure, first_figure}
use Rattle.nam_protocol.specs.declared.txn.TxnAnswer.TheVariants as txn_answer
use Rattle.nam_protocol.specs.declared.client.Answer.TheVariants as answer

-- 1. Figures

more_over : {A : Type 0} (xs : List A) (n : ℕ) → slice_get xs n ≡ None → drop (n + 1) xs ≡ []
more_over [] zero e = refl
more_over [] (suc n) e = rw add-one refl
more_over (x ∷ xs) zero e = absurd (cc)
more_over (x ∷ xs) (suc n) e = rw add-one (rw add-one at (more_over xs n e))

-- an operation's key is written once at the most
guarded_length : (ks : List Key) (key : Key) → length (with_guard ks key) ≤ length ks + 1
guarded_length [] key = omega arith
guarded_length (k ∷ ks) key =
    let more = guarded_length ks key in
    either (λ (all : List Key). length all ≤ length (k ∷ ks) + 1) (same_key k key) (k ∷ ks) (k ∷ with_guard ks key)
    (omega arith) (omega arith)

named_length : (ks : List Key) (o : Option Key)
    → length {A = Key} (elim o [ None ↦ ks | Some key ↦ with_guard ks key ]) ≤ length ks + (if is_some o then 1 else 0)
named_length ks None = omega arith
named_length ks (Some key) = guarded_length ks key

keys_length : (ks : List Key) (ops : List Op) → length (keys_from key_written ks ops) ≤ length ks + writes_in ops
keys_length ks [] = omega arith
keys_length ks (op ∷ ops) =
    let more = keys_length (elim (key_written op) [ None ↦ ks | Some key ↦ with_guard ks key ]) ops in
    let one = named_length ks (key_written op) in
    omega arith

-- tidyings, by whether they are on
tidies_most : (tidy : Bool) (m n : ℕ) → m ≤ n → (if tidy then 3 * m else 0) ≤ (if tidy then 3 * n else 0)
tidies_most true m n l = omega arith
tidies_most false m n l = omega arith

tidies_sum : (tidy : Bool) (m n k : ℕ) → m + n ≤ k
    → (if tidy then 3 * m else 0) + (if tidy then 3 * n else 0) ≤ (if tidy then 3 * k else 0)
tidies_sum true m n k l = omega arith
tidies_sum false m n k l = omega arith

tidies_on : (tidy : Bool) (n : ℕ) → not tidy ≡ false → (if tidy then 3 * n else 0) ≡ 3 * n
tidies_on true n e = refl
tidies_on false n e = absurd (false≢true (sym e))

module _ (shape : Shape) where
  -- the next of the operations
  op_ops : (o : Op) → (call_room shape (call_of o)).ops ≡ op_weight shape o
  op_ops (Get t k) = refl
  op_ops (Put t k v) = refl
  op_ops (Add t k f up by) = refl
  op_ops (Del t k) = refl
  op_ops (Need t k f least) = refl
  op_ops (Guard t k) = refl
  op_ops (Scan t low high) = refl

  op_rest : (o : Op) → ((call_room shape (call_of o)).attempts ≡ 0) × ((call_room shape (call_of o)).tidies ≡ 0)
  op_rest (Get t k) = (refl, refl)
  op_rest (Put t k v) = (refl, refl)
  op_rest (Add t k f up by) = (refl, refl)
  op_rest (Del t k) = (refl, refl)
  op_rest (Need t k f least) = (refl, refl)
  op_rest (Guard t k) = (refl, refl)
  op_rest (Scan t low high) = (refl, refl)

  -- an operation, or the commit, leaves the operations after it
  record AskTakes (ops : List Op) (nth : ℕ) (room : Room) : Type 0 where
    attempts : room.attempts ≡ 0
    ops_within : room.ops + ops_weight shape (drop (nth + 1) ops) ≤ ops_weight shape (drop nth ops)
    tidies : room.tidies ≡ 0

  ask_takes : (ops : List Op) (nth : ℕ) (o : Option Op) → slice_get ops nth ≡ o
      → AskTakes ops nth (call_room shape (op_call o))
  ask_takes ops nth None e =
      let over : ops_weight shape (drop (nth + 1) ops) ≡ 0 = ap (ops_weight shape) (more_over ops nth e) in
      record { attempts = refl; ops_within = omega arith; tidies = refl }
  ask_takes ops nth (Some o) e =
      let one = op_ops o in
      let rest = op_rest o in
      let all : ops_weight shape (drop nth ops) ≡ op_weight shape o + ops_weight shape (drop (nth + 1) ops) =
      ap (ops_weight shape) (drop_from ops nth o e) in
      record { attempts = rest.0; ops_within = omega arith; tidies = rest.1 }

  -- the first of jobs begins
  begins_within : (driver : DriverState) (rest : List Job) → 1 ≤ driver.policy.tries
      → IsWithin (driver_room shape (record driver { nth = 1; place = ToBegin }) rest)
      (room_for shape driver.policy rest)
  begins_within driver [] least = record { attempts = omega arith; ops = omega arith; tidies = omega arith }
  begins_within driver (job ∷ rest) least =
      let policy = driver.policy in
      let n = length rest in
      let w = ops_weight shape job.ops in
      let many = mul-suc policy.tries n in
      let each = first_figure shape policy.tries (policy.tries - 1) w (omega arith) refl in
      let all = mul-add policy.tries w (jobs_weight shape rest) in
      record {
        attempts = omega arith;
        ops = omega arith;
        tidies = tidies_sum policy.tidy (writes_in job.ops + (policy.tries - 1))
            (jobs_writes rest + policy.tries * n)
            (writes_in job.ops + jobs_writes rest + policy.tries * length (job ∷ rest))
            (omega arith);
      }

  -- 2. What the driver may ask next

  module _ (jobs : List Job) (driver : DriverState) (job : Job) (here : slice_get jobs driver.job ≡ Some job)
      (least : 1 ≤ driver.nth) (most : driver.nth ≤ driver.policy.tries) where
    abbrev policy : Policy
    policy = driver.policy

    -- the jobs after this one
    abbrev later : Room
    later = room_for shape driver.policy (drop (driver.job + 1) jobs)

    abbrev tries_ops : ℕ
    tries_ops = (driver.policy.tries - driver.nth) * ops_weight shape job.ops

    -- the driver goes on with at most so much room
    record Goes (attempts ops tidies : ℕ) (next : DriverState) : Type 0 where
      counts : DriverCounts next
      attempts_within : (room_left shape jobs next).attempts ≤ attempts
      ops_within : (room_left shape jobs next).ops ≤ ops
      tidies_within : (room_left shape jobs next).tidies ≤ tidies

    goes_next : (a o t : ℕ) → later.attempts ≤ a → later.ops ≤ o → later.tidies ≤ t → Goes a o t (next_job driver)
    goes_next a o t la lo lt =
        let b = begins_within (record driver { job = driver.job + 1 }) (drop (driver.job + 1) jobs) (omega arith) in
        record {
          counts = (omega arith, omega arith, tt);
          attempts_within = let l = b.attempts in omega arith;
          ops_within = let l = b.ops in omega arith;
          tidies_within = let l = b.tidies in omega arith;
        }

    -- the same job goes on
    goes_at : (a o t nth : ℕ) (place : DriverPoint) → (1 ≤ nth) × (nth ≤ driver.policy.tries)
        → PlaceCounts driver.policy.tries nth place
        → IsWithin (driver_room shape (record driver { nth = nth; place = place }) (job ∷ drop (driver.job + 1) jobs))
        (record { attempts = a; ops = o; tidies = t })
        → Goes a o t (record driver { nth = nth; place = place })
    goes_at a o t nth place is counts within =
        let w = subst (λ js. IsWithin (driver_room shape (record driver { nth = nth; place = place }) js)
        (record { attempts = a; ops = o; tidies = t })) (sym (drop_from jobs driver.job job here)) within in
        record {
          counts = (is.0, is.1, counts);
          attempts_within = w.attempts;
          ops_within = w.ops;
          tidies_within = w.tidies;
        }

    goes_try : (a o t : ℕ) → driver.nth < driver.policy.tries
        → driver.policy.tries - driver.nth + later.attempts ≤ a
        → tries_ops + later.ops ≤ o
        → try_tidies policy (driver.nth + 1) job.ops + later.tidies ≤ t
        → Goes a o t (next_try driver)
    goes_try a o t m la lo lt =
        let f = try_figure shape driver.policy.tries driver.nth (driver.policy.tries - (driver.nth + 1))
        (ops_weight shape job.ops) (omega arith) refl in
        goes_at a o t (driver.nth + 1) ToBegin (omega arith, omega arith) tt
        record { attempts = omega arith; ops = omega arith; tidies = lt }

    fewer_tidies : try_tidies policy (driver.nth + 1) job.ops ≤ try_tidies policy driver.nth job.ops
    fewer_tidies = tidies_most driver.policy.tidy (writes_in job.ops + (driver.policy.tries - (driver.nth + 1)))
        (writes_in job.ops + (driver.policy.tries - driver.nth)) (omega arith)

    goes_retried : (a o t : ℕ)
        → driver.policy.tries - driver.nth + later.attempts ≤ a
        → tries_ops + later.ops ≤ o
        → try_tidies policy driver.nth job.ops + later.tidies ≤ t
        → Goes a o t (retried driver)
    goes_retried a o t la lo lt =
        let f = fewer_tidies in
        by_equal (Goes a o t) driver.nth driver.policy.tries (next_job driver) (next_try driver)
        (λ e. goes_next a o t (omega arith) (omega arith) (omega arith))
        (λ other. goes_try a o t (omega arith) la lo (omega arith))

    goes_tidied : (a o t : ℕ) (retry : Bool) → (retry ≡ true → driver.nth < driver.policy.tries)
        → driver.policy.tries - driver.nth + later.attempts ≤ a
        → tries_ops + later.ops ≤ o
        → retry_tidies policy driver.nth job.ops retry + later.tidies ≤ t
        → Goes a o t (if retry then next_try driver else next_job driver)
    goes_tidied a o t true may la lo lt = goes_try a o t (may refl) la lo lt
    goes_tidied a o t false may la lo lt = goes_next a o t (omega arith) (omega arith) (omega arith)

    goes_tidying : (a o t : ℕ) (keys : List Key) (nth : ℕ) (retry : Bool) → nth ≤ length keys
        → (retry ≡ true → driver.nth < driver.policy.tries)
        → driver.policy.tries - driver.nth + later.attempts ≤ a
        → tries_ops + later.ops ≤ o
        → 3 * (length keys - nth) + retry_tidies policy driver.nth job.ops retry + later.tidies ≤ t
        → Goes a o t (tidying driver keys nth retry)
    goes_tidying a o t keys nth retry within may la lo lt =
        by_equal (Goes a o t) nth (length keys) (if retry then next_try driver else next_job driver)
        (record driver { place = ToTidy keys nth false retry })
        (λ e. goes_tidied a o t retry may la lo (omega arith))
        (λ other. let m : nth < length keys = omega arith in
        goes_at a o t driver.nth (ToTidy keys nth false retry) (least, most) (m, may)
        record { attempts = omega arith; ops = omega arith; tidies = omega arith })

    first_false : (x y : Bool) → (x || y) ≡ false → (x ≡ false) × (y ≡ false)
    first_false true y e = absurd (false≢true (sym e))
    first_false false y e = (refl, e)

    goes_full : (a o t : ℕ) (lock : Lock)
        → driver.policy.tries - driver.nth + later.attempts ≤ a
        → tries_ops + later.ops ≤ o
        → try_tidies policy driver.nth job.ops + later.tidies ≤ t
        → Goes a o t (on_full driver lock)
    goes_full a o t lock la lo lt =
        let key = key_at lock.table lock.key in
        by_test (Goes a o t) ((driver.nth == driver.policy.tries) || not driver.policy.tidy) (retried driver)
        (tidying driver (key ∷ []) 0 true)
        (λ e. goes_retried a o t la lo lt)
        (λ e. let other = first_false (driver.nth == driver.policy.tries) (not driver.policy.tidy) e in
        let differ = other.0 in
        let m : driver.nth < driver.policy.tries = grind (arith, nat_tests) in
        let now = tidies_on driver.policy.tidy (writes_in job.ops + (driver.policy.tries - driver.nth)) other.1 in
        let next = tidies_on driver.policy.tidy
        (writes_in job.ops + (driver.policy.tries - (driver.nth + 1))) other.1 in
        goes_tidying a o t (key ∷ []) 0 true (omega arith) (λ same. m) la lo (omega arith))

    goes_commit : (a o t : ℕ)
        → driver.policy.tries - driver.nth + later.attempts ≤ a
        → tries_ops + later.ops ≤ o
        → try_tidies policy driver.nth job.ops + later.tidies ≤ t
        → Goes a o t (on_commit jobs driver)
    goes_commit a o t la lo lt =
        let keys = written_keys job.ops in
        let few = keys_length [] job.ops in
        subst (λ j. Goes a o t (if driver.policy.tidy then tidying driver (keys_of_job j) 0 false else next_job driver))
        (sym here)
        (by_test (Goes a o t) driver.policy.tidy (tidying driver keys 0 false) (next_job driver)
        (λ e. let now = tidies_on driver.policy.tidy (writes_in job.ops + (driver.policy.tries - driver.nth))
        (ap not e) in
        goes_tidying a o t keys 0 false (omega arith) (λ t. absurd (false≢true t)) la lo (omega arith))
        (λ e. goes_next a o t (omega arith) (omega arith) (omega arith)))

    goes_ask : (a o t nth : ℕ)
        → driver.policy.tries - driver.nth + later.attempts ≤ a
        → ops_weight shape (drop nth job.ops) + tries_ops + later.ops ≤ o
        → try_tidies policy driver.nth job.ops + later.tidies ≤ t
        → Goes a o t (record driver { place = ToAsk nth })
    goes_ask a o t nth la lo lt =
        goes_at a o t driver.nth (ToAsk nth) (least, most) tt
        record { attempts = omega arith; ops = omega arith; tidies = omega arith }

    -- 3. An answer is taken

    abbrev left_attempts : ℕ
    left_attempts = driver.policy.tries - driver.nth + later.attempts

    abbrev left_ops : DriverPoint → ℕ
    left_ops ToBegin = ops_weight shape job.ops + tries_ops + later.ops
    left_ops (ToAsk nth) = ops_weight shape (drop (nth + 1) job.ops) + tries_ops + later.ops
    left_ops place = tries_ops + later.ops

    abbrev left_tidies : DriverPoint → ℕ
    left_tidies ToBegin = try_tidies policy driver.nth job.ops + later.tidies
    left_tidies (ToAsk nth) = try_tidies policy driver.nth job.ops + later.tidies
    left_tidies (ToTidy keys nth false retry) =
        2 + keys_tidies policy driver.nth job.ops keys nth retry + later.tidies
    left_tidies (ToTidy keys nth true retry) = keys_tidies policy driver.nth job.ops keys nth retry + later.tidies
    left_tidies (ToCollect bucket keys nth retry) =
        1 + keys_tidies policy driver.nth job.ops keys nth retry + later.tidies

    abbrev GoesFrom : DriverPoint → DriverState → Type 0
    GoesFrom place next = Goes left_attempts (left_ops place) (left_tidies place) next

    begin_goes : (end : Answer) → GoesFrom ToBegin (on_begin driver end)
    begin_goes (answer.Begun prefix) =
        goes_ask left_attempts (left_ops ToBegin) (left_tidies ToBegin) 0 (omega arith) (omega arith) (omega arith)
    begin_goes _ =
        goes_retried left_attempts (left_ops ToBegin) (left_tidies ToBegin) (omega arith) (omega arith) (omega arith)

    module _ (nth : ℕ) where
      abbrev GoesAfter : DriverState → Type 0
      GoesAfter next = GoesFrom (ToAsk nth) next

      passed_goes : GoesAfter (record driver { place = ToAsk (nth + 1) })
      passed_goes =
          goes_ask left_attempts (left_ops (ToAsk nth)) (left_tidies (ToAsk nth)) (nth + 1) (omega arith) (omega arith)
          (omega arith)

      over_goes : GoesAfter (next_job driver)
      over_goes =
          goes_next left_attempts (left_ops (ToAsk nth)) (left_tidies (ToAsk nth)) (omega arith) (omega arith)
          (omega arith)

      retried_goes : GoesAfter (retried driver)
      retried_goes =
          goes_retried left_attempts (left_ops (ToAsk nth)) (left_tidies (ToAsk nth)) (omega arith) (omega arith)
          (omega arith)

      txn_goes : (end : TxnAnswer) → GoesAfter (on_txn jobs driver nth end)
      txn_goes (txn_answer.Value value) = passed_goes
      txn_goes txn_answer.Written = passed_goes
      txn_goes (txn_answer.Added n) = passed_goes
      txn_goes txn_answer.Met = passed_goes
      txn_goes (txn_answer.Committed number) =
          goes_commit left_attempts (left_ops (ToAsk nth)) (left_tidies (ToAsk nth)) (omega arith) (omega arith)
          (omega arith)
      txn_goes txn_answer.ReadOnly = over_goes
      txn_goes (txn_answer.TooOld worker entry horizon) = retried_goes
      txn_goes (txn_answer.NoSpace table) = over_goes
      txn_goes txn_answer.Declined = over_goes
      txn_goes txn_answer.Spent = over_goes
      txn_goes (txn_answer.Locked lock) = retried_goes
      txn_goes (txn_answer.Newer lock) = retried_goes
      txn_goes (txn_answer.Full lock) =
          goes_full left_attempts (left_ops (ToAsk nth)) (left_tidies (ToAsk nth)) lock (omega arith) (omega arith)
          (omega arith)
      txn_goes txn_answer.Astray = over_goes

      ask_goes : (end : Answer) → GoesAfter (on_ask jobs driver nth end)
      ask_goes (answer.Txn end) = txn_goes end
      ask_goes _ = passed_goes

    module _ (keys : List Key) (nth : ℕ) (retry : Bool)
        (counts : TidyCounts driver.policy.tries driver.nth keys nth retry)
      where
        tidied_goes : (again : Bool) → GoesFrom (ToTidy keys nth again retry) (tidying driver keys (nth + 1) retry)
        tidied_goes true =
            let l = counts.0 in
            goes_tidying left_attempts (left_ops (ToTidy keys nth true retry))
            (left_tidies (ToTidy keys nth true retry)) keys
            (nth + 1) retry (omega arith) counts.1 (omega arith) (omega arith) (omega arith)
        tidied_goes false =
            let l = counts.0 in
            goes_tidying left_attempts (left_ops (ToTidy keys nth false retry))
            (left_tidies (ToTidy keys nth false retry))
            keys (nth + 1) retry (omega arith) counts.1 (omega arith) (omega arith) (omega arith)

        tidy_goes : (again : Bool) (end : Answer)
            → GoesFrom (ToTidy keys nth again retry) (on_tidy driver keys nth again retry end)
        tidy_goes true end = tidied_goes true
        tidy_goes false (answer.NoRoom bucket) =
            goes_at left_attempts (left_ops (ToTidy keys nth false retry)) (left_tidies (ToTidy keys nth false retry))
            driver.nth (ToCollect bucket keys nth retry) (least, most) counts
            record { attempts = omega arith; ops = omega arith; tidies = omega arith }
        tidy_goes false _ = tidied_goes false

        collect_goes : (bucket : ℕ)
            → GoesFrom (ToCollect bucket keys nth retry) (record driver { place = ToTidy keys nth true retry })
        collect_goes bucket =
            goes_at left_attempts (left_ops (ToCollect bucket keys nth retry))
            (left_tidies (ToCollect bucket keys nth retry)) driver.nth (ToTidy keys nth true retry) (least, most) counts
            record { attempts = omega arith; ops = omega arith; tidies = omega arith }

    takes : (place : DriverPoint) (end : Answer) → PlaceCounts driver.policy.tries driver.nth place
        → GoesFrom place (place_taken jobs driver place end)
    takes ToBegin end counts = begin_goes end
    takes (ToAsk nth) end counts = ask_goes nth end
    takes (ToTidy keys nth again retry) end counts = tidy_goes keys nth retry counts again end
    takes (ToCollect bucket keys nth retry) end counts = collect_goes keys nth retry counts bucket

    -- 4. The call and what follows it

    abbrev all_here : DriverPoint → Room
    all_here place = record {
      attempts = begin_here place + (driver.policy.tries - driver.nth) + later.attempts;
      ops = place_ops shape job.ops place + tries_ops + later.ops;
      tidies = place_tidies policy driver.nth job.ops place + later.tidies;
    }

    abbrev left_room : DriverPoint → Room
    left_room place = record { attempts = left_attempts; ops = left_ops place; tidies = left_tidies place }

    call_within : (place : DriverPoint)
        → IsWithin (both_rooms (call_room shape (place_call job driver.nth place)) (left_room place)) (all_here place)
    call_within ToBegin = record { attempts = omega arith; ops = omega arith; tidies = omega arith }
    call_within (ToAsk nth) =
        let a = ask_takes job.ops nth (slice_get job.ops nth) refl in
        record {
          attempts = let e = a.attempts in omega arith;
          ops = let l = a.ops_within in omega arith;
          tidies = let e = a.tidies in omega arith;
        }
    call_within (ToTidy keys nth false retry) =
        record { attempts = omega arith; ops = omega arith; tidies = omega arith }
    call_within (ToTidy keys nth true retry) =
        record { attempts = omega arith; ops = omega arith; tidies = omega arith }
    call_within (ToCollect bucket keys nth retry) =
        record { attempts = omega arith; ops = omega arith; tidies = omega arith }

    call_takes : (end : Answer) → PlaceCounts driver.policy.tries driver.nth driver.place
        → DriverCounts (driver_take jobs driver end)
        × IsWithin (both_rooms (call_room shape (place_call job driver.nth driver.place))
        (room_left shape jobs (driver_take jobs driver end)))
        (room_left shape jobs driver)
    call_takes end counts =
        let g = takes driver.place end counts in
        let c = call_within driver.place in
        let next = room_left shape jobs (driver_take jobs driver end) in (
          g.counts,
          subst (λ js. IsWithin (both_rooms (call_room shape (place_call job driver.nth driver.place)) next)
              (driver_room shape driver js)) (sym (drop_from jobs driver.job job here))
              record {
                attempts = let l = g.attempts_within in let m = c.attempts in omega arith;
                ops = let l = g.ops_within in let m = c.ops in omega arith;
                tidies = let l = g.tidies_within in let m = c.tidies in omega arith;
              },
        )

  -- 5. The law

  asked_within : (jobs : List Job) (driver : DriverState) (call : Call) (end : Answer) → DriverCounts driver
      → (job : Option Job) → slice_get jobs driver.job ≡ job
      → job_call driver job ≡ Some call
      → DriverCounts (driver_take jobs driver end)
      × IsWithin (both_rooms (call_room shape call) (room_left shape jobs (driver_take jobs driver end)))
      (room_left shape jobs driver)
  asked_within jobs driver call end counts None here e = absurd (cc)
  asked_within jobs driver call end counts (Some job) here e =
      let is : place_call job driver.nth driver.place ≡ call = cc in
      subst (λ (c : Call). DriverCounts (driver_take jobs driver end)
      × IsWithin (both_rooms (call_room shape c) (room_left shape jobs (driver_take jobs driver end)))
      (room_left shape jobs driver)) is
      (call_takes jobs driver job here counts.0 counts.1 end counts.2)

pub room_suffices : RoomLaw
room_suffices shape = (
  λ policy jobs least. ((omega arith, least, tt), begins_within shape (new_driver policy) jobs least),
  λ jobs driver call end counts e. asked_within shape jobs driver call end counts (slice_get jobs driver.job) refl e,
)
