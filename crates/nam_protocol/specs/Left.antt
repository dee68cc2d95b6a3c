-- How many verbs of a client's call and of a session are to come at the most, and how much room a client reserves for
-- jobs.
use Rattle.std.specs.Prelude.{ℕ, ◌+◌, ◌-◌, ◌*◌, if◌then◌else◌, true, false, List, [], ◌∷◌, length, drop, Option, Some}
use Rattle.std.specs.Prelude.{None, is_some, slice_get}
use Rattle.si_model.specs.declared.row.Key.{Key}
use Rattle.si_model.specs.declared.op.Op.{Op}
use Rattle.si_model.specs.declared.op.Op.TheVariants.{Scan}
use Rattle.si_model.specs.declared.op.Policy.{Policy}
use Rattle.si_model.specs.declared.log.Finish.{Finish}
use Rattle.si_model.specs.Evaluation.{key_written, written_keys, guard_keys}
use Rattle.nam_verbs.specs.declared.now.Now.{Now}
use Rattle.nam_verbs.specs.declared.now.Now.TheVariants.{At, Over}
use Rattle.nam_catalog.specs.declared.form.Form.{Form}
use Rattle.nam_catalog.specs.declared.shape.Shape.{Shape}
use Rattle.nam_layout.specs.Place.{place_of, cells_of, cells_by}
use Rattle.nam_vector.specs.Snap.{snap_left}
use Rattle.nam_calls.specs.Words.{capacity_of, path_of}
use Rattle.nam_calls.specs.Index.{find_left}
use Rattle.nam_calls.specs.Mover.{move_left}
use Rattle.nam_calls.specs.Horizon.{collect_left}
use Rattle.nam_calls.specs.Left.{move_most, collect_most}
use Rattle.nam_calls.specs.declared.medic.MedicPoint.{MedicPoint}
use Rattle.nam_calls.specs.MedicLeft.{medic_left, medic_most}
use Rattle.nam_protocol.specs.declared.txn.TxnPoint.{TxnPoint}
use Rattle.nam_protocol.specs.declared.client.Answer.{Answer}
use Rattle.nam_protocol.specs.declared.client.CallPoint.{CallPoint}
use Rattle.nam_protocol.specs.declared.client.CallPoint.TheVariants.{Beginning, InTxn, Scanning, Seeking, Moving}
use Rattle.nam_protocol.specs.declared.client.CallPoint.TheVariants.{Snapping, Collecting}
use Rattle.nam_protocol.specs.declared.client.Open.{Open}
use Rattle.nam_protocol.specs.declared.client.ClientState.{ClientState}
use Rattle.nam_protocol.specs.declared.session.Job.{Job}
use Rattle.nam_protocol.specs.declared.session.DriverPoint.{DriverPoint}
use Rattle.nam_protocol.specs.declared.session.DriverPoint.TheVariants.{ToBegin, ToAsk, ToTidy, ToCollect}
use Rattle.nam_protocol.specs.declared.session.DriverState.{DriverState}
use Rattle.nam_protocol.specs.declared.session.SessionState.{SessionState}
use Rattle.nam_protocol.specs.Scan.{scan_left}
use Rattle.nam_protocol.specs.Commit.{has_intents}
use Rattle.nam_protocol.specs.Bound.{txn_left, ops_bound, writes_bound, intent_bound, verb_bound, tidy_bound}
use Rattle.nam_protocol.specs.Bound.{collect_bound}

-- what a medic may take
abbrev pub medic_room : Form → ℕ
medic_room form = if has_intents form then medic_most else 0

module _ (shape : Shape) where
  -- 1. What is to come of a client's call

  abbrev pub open_left : Option Open → TxnPoint → ℕ
  open_left None at = 0
  open_left (Some attempt) at = txn_left shape attempt.state at

  abbrev pub call_left : ClientState → CallPoint → ℕ
  call_left client (Beginning txn nth at) = snap_left shape.workers at
  call_left client (InTxn at) = open_left client.txn at
  call_left client (Scanning table low high at) = scan_left shape table at
  call_left client (Seeking table key passed) = find_left (path_of shape table key) passed + move_most shape table
  call_left client (Moving table key position at) =
      let place = place_of shape table position in move_left place (cells_by shape place) at
  call_left client (Snapping bucket at) = snap_left shape.workers at + collect_most shape
  call_left client (Collecting bucket prefix seen at) = collect_left (cells_of shape bucket) shape.workers at

  abbrev pub left_of : ClientState → Option (Now CallPoint Answer) → ℕ
  left_of client (Some (At place)) = call_left client place
  left_of client _ = 0

  abbrev pub client_left : ClientState → ℕ
  client_left client = if client.cut then 0 else left_of client client.call

  -- 2. What is to come of a session's jobs

  -- tidying a key: a tidying, a collection, and a tidying once more
  abbrev pub key_bound : Key → ℕ
  key_bound key = tidy_bound shape key.table + (collect_bound shape + tidy_bound shape key.table)

  abbrev pub keys_bound : List Key → ℕ
  keys_bound [] = 0
  keys_bound (key ∷ keys) = key_bound key + keys_bound keys

  -- what is to come of the first key, and the keys after it
  abbrev pub keys_after : (Key → ℕ) → List Key → ℕ
  keys_after of_first [] = 0
  keys_after of_first (key ∷ keys) = of_first key + keys_bound keys

  -- the commit after these operations
  abbrev pub commit_bound : List Op → ℕ
  commit_bound ops =
      writes_bound shape (written_keys ops) + 3 * length (guard_keys ops) + 1
      + intent_bound shape (written_keys ops) (length (guard_keys ops))

  -- a try, with the tidying of each written key
  abbrev pub try_bound : List Op → ℕ
  try_bound ops = verb_bound shape ops + keys_bound (written_keys ops)

  abbrev pub jobs_bound : Policy → List Job → ℕ
  jobs_bound policy [] = 0
  jobs_bound policy (job ∷ jobs) = policy.tries * try_bound job.ops + jobs_bound policy jobs

  -- of a try what follows the call that is asked next
  abbrev pub after_call_bound : List Op → DriverPoint → ℕ
  after_call_bound ops ToBegin = ops_bound shape ops + commit_bound ops + keys_bound (written_keys ops)
  after_call_bound ops (ToAsk nth) = if is_some (slice_get ops nth)
      then ops_bound shape (drop (nth + 1) ops) + commit_bound ops + keys_bound (written_keys ops)
      else keys_bound (written_keys ops)
  after_call_bound ops (ToTidy keys nth false retry) =
      keys_after (λ key. collect_bound shape + tidy_bound shape key.table) (drop nth keys)
  after_call_bound ops (ToTidy keys nth true retry) = keys_after (λ key. 0) (drop nth keys)
  after_call_bound ops (ToCollect bucket keys nth retry) =
      keys_after (λ key. tidy_bound shape key.table) (drop nth keys)

  -- the driver's job, and those after it
  abbrev pub rest_bound : DriverState → List Job → ℕ
  rest_bound driver [] = 0
  rest_bound driver (job ∷ jobs) =
      after_call_bound job.ops driver.place + (driver.policy.tries - driver.nth) * try_bound job.ops
      + jobs_bound driver.policy jobs

  -- the call that runs, what follows it, and the medic of a session that may still be cut
  abbrev pub left_by : SessionState → Option (Now MedicPoint Finish) → ℕ
  left_by session None =
      if session.client.cut then 0
      else client_left session.client + rest_bound session.driver (drop session.driver.job session.jobs)
      + medic_room shape.form
  left_by session (Some (At place)) = medic_left shape place
  left_by session (Some (Over how)) = 0

  abbrev pub session_left : SessionState → ℕ
  session_left session = left_by session session.client.medic

-- 3. The room that a client reserves for jobs

-- how many attempts, operations and tidyings
pub record Room : Type 0 where
  pub attempts : ℕ
  pub ops : ℕ
  pub tidies : ℕ

-- how many of the operations are a put, an add or a deletion
abbrev pub writes_in : List Op → ℕ
writes_in [] = 0
writes_in (op ∷ ops) = (if is_some (key_written op) then 1 else 0) + writes_in ops

abbrev pub jobs_writes : List Job → ℕ
jobs_writes [] = 0
jobs_writes (job ∷ jobs) = writes_in job.ops + jobs_writes jobs

module _ (shape : Shape) where
  -- a scan counts as as many operations as its table has positions
  abbrev pub op_weight : Op → ℕ
  op_weight (Scan table low high) = capacity_of shape table
  op_weight op = 1

  abbrev pub ops_weight : List Op → ℕ
  ops_weight [] = 0
  ops_weight (op ∷ ops) = op_weight op + ops_weight ops

  abbrev pub jobs_weight : List Job → ℕ
  jobs_weight [] = 0
  jobs_weight (job ∷ jobs) = ops_weight job.ops + jobs_weight jobs

  abbrev pub room_for : Policy → List Job → Room
  room_for policy jobs = record {
    attempts = policy.tries * length jobs;
    ops = policy.tries * jobs_weight jobs;
    tidies = if policy.tidy then 3 * (jobs_writes jobs + policy.tries * length jobs) else 0;
  }
