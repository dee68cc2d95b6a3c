-- The retry policy as a value: the next call, and what follows its answer.
use Rattle.std.specs.Prelude.{ℕ, ◌+◌, ◌==◌, ◌||◌, Bool, true, false, not, if◌then◌else◌, List, [], ◌∷◌, length}
use Rattle.std.specs.Prelude.{slice_get, slice_index_or, Option, Some, None}
use Rattle.si_model.specs.declared.row.Key.{Key}
use Rattle.si_model.specs.declared.op.Op.{Op}
use Rattle.si_model.specs.declared.op.Policy.{Policy}
use Rattle.si_model.specs.declared.log.Lock.{Lock}
use Rattle.si_model.specs.Rows.{key_at}
use Rattle.si_model.specs.Evaluation.{written_keys}
use Rattle.si_model.specs.declared.op.Op.TheVariants as op
use Rattle.nam_protocol.specs.declared.txn.TxnCall.TheVariants.{Get, Put, Add, Del, Need, Guard, Commit}
use Rattle.nam_protocol.specs.declared.txn.TxnAnswer.{TxnAnswer}
use Rattle.nam_protocol.specs.declared.client.Call.{Call}
use Rattle.nam_protocol.specs.declared.client.Answer.{Answer}
use Rattle.nam_protocol.specs.declared.session.Job.{Job}
use Rattle.nam_protocol.specs.declared.session.DriverPoint.{DriverPoint}
use Rattle.nam_protocol.specs.declared.session.DriverPoint.TheVariants.{ToBegin, ToAsk, ToTidy, ToCollect}
use Rattle.nam_protocol.specs.declared.session.DriverState.{DriverState}
use Rattle.nam_protocol.specs.declared.txn.TxnAnswer.TheVariants as txn_answer
use Rattle.nam_protocol.specs.declared.client.Call.TheVariants as call
use Rattle.nam_protocol.specs.declared.client.Answer.TheVariants as client_answer

abbrev pub new_driver : Policy → DriverState
new_driver policy = record { policy = policy; job = 0; nth = 1; place = ToBegin }

-- 1. The next call

abbrev pub call_of : Op → Call
call_of (op.Get t k) = call.Txn (Get t k)
call_of (op.Put t k v) = call.Txn (Put t k v)
call_of (op.Add t k f up by) = call.Txn (Add t k f up by)
call_of (op.Del t k) = call.Txn (Del t k)
call_of (op.Need t k f least) = call.Txn (Need t k f least)
call_of (op.Guard t k) = call.Txn (Guard t k)
call_of (op.Scan t low high) = call.Scan t low high

-- the commit follows the last operation
abbrev pub op_call : Option Op → Call
op_call None = call.Txn Commit
op_call (Some op) = call_of op

abbrev pub key_number : List Key → ℕ → Key
key_number keys nth = slice_index_or keys nth (key_at 0 0)

abbrev pub place_call : Job → ℕ → DriverPoint → Call
place_call job nth ToBegin = call.Begin job.txn nth
place_call job nth (ToAsk op) = op_call (slice_get job.ops op)
place_call job nth (ToTidy keys key again retry) = call.Tidy (key_number keys key).table (key_number keys key).key
place_call job nth (ToCollect bucket keys key retry) = call.Collect bucket

abbrev pub job_call : DriverState → Option Job → Option Call
job_call driver None = None
job_call driver (Some job) = Some (place_call job driver.nth driver.place)

-- none exactly where all jobs are through
abbrev pub driver_next : List Job → DriverState → Option Call
driver_next jobs driver = job_call driver (slice_get jobs driver.job)

-- 2. What follows an answer

abbrev pub next_job : DriverState → DriverState
next_job driver = record driver { job = driver.job + 1; nth = 1; place = ToBegin }

abbrev pub next_try : DriverState → DriverState
next_try driver = record driver { nth = driver.nth + 1; place = ToBegin }

-- again, up to so many tries in all
abbrev pub retried : DriverState → DriverState
retried driver = if driver.nth == driver.policy.tries then next_job driver else next_try driver

-- the keys from this one on are tidied; then the transaction is tried again or has ended
abbrev pub tidying : DriverState → List Key → ℕ → Bool → DriverState
tidying driver keys nth retry =
    if nth == length keys then (if retry then next_try driver else next_job driver)
    else record driver { place = ToTidy keys nth false retry }

-- where a try is left, the key that was full is tidied before it
abbrev pub on_full : DriverState → Lock → DriverState
on_full driver lock =
    if (driver.nth == driver.policy.tries) || not driver.policy.tidy then retried driver
    else tidying driver (key_at lock.table lock.key ∷ []) 0 true

abbrev pub keys_of_job : Option Job → List Key
keys_of_job None = []
keys_of_job (Some job) = written_keys job.ops

-- after a commit each written key is tidied
abbrev pub on_commit : List Job → DriverState → DriverState
on_commit jobs driver =
    if driver.policy.tidy then tidying driver (keys_of_job (slice_get jobs driver.job)) 0 false else next_job driver

abbrev pub on_txn : List Job → DriverState → ℕ → TxnAnswer → DriverState
on_txn jobs driver nth (txn_answer.Value value) = record driver { place = ToAsk (nth + 1) }
on_txn jobs driver nth txn_answer.Written = record driver { place = ToAsk (nth + 1) }
on_txn jobs driver nth (txn_answer.Added n) = record driver { place = ToAsk (nth + 1) }
on_txn jobs driver nth txn_answer.Met = record driver { place = ToAsk (nth + 1) }
on_txn jobs driver nth (txn_answer.Committed number) = on_commit jobs driver
on_txn jobs driver nth txn_answer.ReadOnly = next_job driver
on_txn jobs driver nth (txn_answer.TooOld worker entry horizon) = retried driver
on_txn jobs driver nth (txn_answer.NoSpace table) = next_job driver
on_txn jobs driver nth txn_answer.Declined = next_job driver
on_txn jobs driver nth txn_answer.Spent = next_job driver
on_txn jobs driver nth (txn_answer.Locked lock) = retried driver
on_txn jobs driver nth (txn_answer.Newer lock) = retried driver
on_txn jobs driver nth (txn_answer.Full lock) = on_full driver lock
on_txn jobs driver nth txn_answer.Astray = next_job driver

abbrev pub on_begin : DriverState → Answer → DriverState
on_begin driver (client_answer.Begun prefix) = record driver { place = ToAsk 0 }
on_begin driver _ = retried driver

abbrev pub on_ask : List Job → DriverState → ℕ → Answer → DriverState
on_ask jobs driver nth (client_answer.Txn end) = on_txn jobs driver nth end
on_ask jobs driver nth _ = record driver { place = ToAsk (nth + 1) }

-- a bucket without room is collected once for a key
abbrev pub on_tidy : DriverState → List Key → ℕ → Bool → Bool → Answer → DriverState
on_tidy driver keys nth false retry (client_answer.NoRoom bucket) =
    record driver { place = ToCollect bucket keys nth retry }
on_tidy driver keys nth again retry _ = tidying driver keys (nth + 1) retry

abbrev pub place_taken : List Job → DriverState → DriverPoint → Answer → DriverState
place_taken jobs driver ToBegin answer = on_begin driver answer
place_taken jobs driver (ToAsk nth) answer = on_ask jobs driver nth answer
place_taken jobs driver (ToTidy keys nth again retry) answer = on_tidy driver keys nth again retry answer
place_taken jobs driver (ToCollect bucket keys nth retry) answer = record driver { place = ToTidy keys nth true retry }

abbrev pub driver_take : List Job → DriverState → Answer → DriverState
driver_take jobs driver answer = place_taken jobs driver driver.place answer
