-- A driver asks for a call of a transaction exactly where one is open, and the room of a call pays for the event of its
-- answer.
use Rattle.std.proofs.Common.{◌≡◌, ℕ, ◌+◌, ◌≤◌, List, [], ◌∷◌, length, take, refl}
use Rattle.std.proofs.Common.{arith, Bool, true, false, not, Option, Some, None}
use Rattle.std.specs.Prelude.{◌==◌, ◌||◌, if◌then◌else◌, slice_get, IsSome}
use Rattle.si_model.specs.declared.row.Key.{Key}
use Rattle.si_model.specs.declared.op.Op.{Op}
use Rattle.si_model.specs.declared.log.Lock.{Lock}
use Rattle.si_model.specs.Rows.{key_at}
use Rattle.si_model.specs.declared.op.Op.TheVariants as op
use Rattle.nam_catalog.specs.declared.shape.Shape.{Shape}
use Rattle.nam_calls.proofs.FallsTests.{either}
use Rattle.nam_protocol.specs.declared.txn.TxnAnswer.{TxnAnswer}
use Rattle.nam_protocol.specs.declared.client.Answer.{Answer}
use Rattle.nam_protocol.specs.declared.client.Open.{Open}
use Rattle.nam_protocol.specs.declared.client.ClientState.{ClientState}
use Rattle.nam_protocol.specs.declared.session.Job.{Job}
use Rattle.nam_protocol.specs.declared.session.DriverPoint.{DriverPoint}
use Rattle.nam_protocol.specs.declared.session.DriverPoint.TheVariants.{ToBegin, ToAsk, ToTidy, ToCollect}
use Rattle.nam_protocol.specs.declared.session.DriverState.{DriverState}
use Rattle.nam_protocol.specs.Driver.{op_call, place_call, next_job, next_try}
use Rattle.nam_protocol.specs.Driver.{retried, tidying, on_full, keys_of_job, on_commit, on_txn, on_begin, on_ask}
use Rattle.nam_protocol.specs.Driver.{on_tidy}
use Rattle.nam_protocol.specs.Driver.{place_taken}
use Rattle.nam_protocol.specs.Left.{Room}
use Rattle.nam_protocol.specs.AttemptLaw.{has_passed}
use Rattle.nam_protocol.specs.RoomLaw.{call_room}
use Rattle.nam_protocol.specs.SessionKeeps.{is_asking}
use Rattle.nam_protocol.specs.ClientEvents.{listed, is_open_after, NeedsOpen}
use Rattle.nam_protocol.proofs.EndsDriver.{AsksFrom}
use Rattle.nam_protocol.proofs.EndsSession.{is_open}
use Rattle.nam_protocol.proofs.RunsClient.{AskAnswered, TidyAnswered, CollectAnswered, IsAnswered}
use Rattle.nam_protocol.specs.declared.txn.TxnAnswer.TheVariants as txn_answer
use Rattle.nam_protocol.specs.declared.client.Answer.TheVariants as answer

-- 1. The driver asks for a call of an open transaction

-- the event of the attempt that is open
abbrev pub one : Bool → ℕ
one b = if b then 1 else 0

pub one_at_most : (b : Bool) → one b ≤ 1
one_at_most true = omega arith
one_at_most false = omega arith

abbrev pub Rests : DriverState → Type 0
Rests driver = is_asking driver.place ≡ false

pub retried_rests : (driver : DriverState) → Rests (retried driver)
retried_rests driver = either Rests (driver.nth == driver.policy.tries) (next_job driver) (next_try driver) refl refl

pub tidying_rests : (driver : DriverState) (keys : List Key) (nth : ℕ) (retry : Bool)
    → Rests (tidying driver keys nth retry)
tidying_rests driver keys nth retry =
    either Rests (nth == length keys) (if retry then next_try driver else next_job driver)
    (record driver { place = ToTidy keys nth false retry })
    (either Rests retry (next_try driver) (next_job driver) refl refl) refl

pub full_rests : (driver : DriverState) (lock : Lock) → Rests (on_full driver lock)
full_rests driver lock =
    let keys = key_at lock.table lock.key ∷ [] in
    either Rests ((driver.nth == driver.policy.tries) || not driver.policy.tidy) (retried driver)
    (tidying driver keys 0 true) (retried_rests driver) (tidying_rests driver keys 0 true)

pub commit_rests : (jobs : List Job) (driver : DriverState) → Rests (on_commit jobs driver)
commit_rests jobs driver =
    let keys = keys_of_job (slice_get jobs driver.job) in
    either Rests driver.policy.tidy (tidying driver keys 0 false) (next_job driver) (tidying_rests driver keys 0 false)
    refl

module _ (shape : Shape) (jobs : List Job) (driver : DriverState) (ops : List Op) (txn : Option Open) where
  -- it asks so exactly where a transaction is open
  abbrev AsksAs : Bool → DriverState → Type 0
  AsksAs open_ next = is_asking next.place ≡ open_

  begin_asks : (end : Answer) → IsAnswered shape ToBegin ops txn end
      → AsksAs (is_open_after false end) (on_begin driver end)
  begin_asks (answer.Begun prefix) a = refl
  begin_asks (answer.Again worker first second) a = retried_rests driver
  begin_asks _ a = absurd a

  txn_asks : (nth : ℕ) (end : TxnAnswer) → AsksAs (has_passed end) (on_txn jobs driver nth end)
  txn_asks nth (txn_answer.Value value) = refl
  txn_asks nth txn_answer.Written = refl
  txn_asks nth (txn_answer.Added n) = refl
  txn_asks nth txn_answer.Met = refl
  txn_asks nth (txn_answer.Committed number) = commit_rests jobs driver
  txn_asks nth txn_answer.ReadOnly = refl
  txn_asks nth (txn_answer.TooOld worker entry horizon) = retried_rests driver
  txn_asks nth (txn_answer.NoSpace table) = refl
  txn_asks nth txn_answer.Declined = refl
  txn_asks nth txn_answer.Spent = refl
  txn_asks nth (txn_answer.Locked lock) = retried_rests driver
  txn_asks nth (txn_answer.Newer lock) = retried_rests driver
  txn_asks nth (txn_answer.Full lock) = full_rests driver lock
  txn_asks nth txn_answer.Astray = refl

  ask_asks : (nth : ℕ) (end : Answer) → AskAnswered shape ops nth txn end
      → AsksAs (is_open_after true end) (on_ask jobs driver nth end)
  ask_asks nth (answer.Txn end) a = txn_asks nth end
  ask_asks nth (answer.Scanned items) a = refl
  ask_asks nth _ a = absurd a

  tidy_asks : (keys : List Key) (nth : ℕ) (again retry : Bool) (end : Answer) → TidyAnswered shape end
      → AsksAs (is_open_after false end) (on_tidy driver keys nth again retry end)
  tidy_asks keys nth false retry (answer.NoRoom bucket) a = refl
  tidy_asks keys nth true retry (answer.NoRoom bucket) a = tidying_rests driver keys (nth + 1) retry
  tidy_asks keys nth false retry answer.Moved a = tidying_rests driver keys (nth + 1) retry
  tidy_asks keys nth true retry answer.Moved a = tidying_rests driver keys (nth + 1) retry
  tidy_asks keys nth false retry answer.Back a = tidying_rests driver keys (nth + 1) retry
  tidy_asks keys nth true retry answer.Back a = tidying_rests driver keys (nth + 1) retry
  tidy_asks keys nth false retry answer.Nothing a = tidying_rests driver keys (nth + 1) retry
  tidy_asks keys nth true retry answer.Nothing a = tidying_rests driver keys (nth + 1) retry
  tidy_asks keys nth again retry _ a = absurd a

  collect_asks : (bucket : ℕ) (keys : List Key) (nth : ℕ) (retry : Bool) (end : Answer) → CollectAnswered shape end
      → AsksAs (is_open_after false end) (record driver { place = ToTidy keys nth true retry })
  collect_asks bucket keys nth retry (answer.Again worker first second) a = refl
  collect_asks bucket keys nth retry (answer.Collected known) a = refl
  collect_asks bucket keys nth retry _ a = absurd a

  pub asks_after : (place : DriverPoint) (end : Answer) → IsAnswered shape place ops txn end
      → AsksAs (is_open_after (is_asking place) end) (place_taken jobs driver place end)
  asks_after ToBegin end a = begin_asks end a
  asks_after (ToAsk nth) end a = ask_asks nth end a
  asks_after (ToTidy keys nth again retry) end a = tidy_asks keys nth again retry end a
  asks_after (ToCollect bucket keys nth retry) end a = collect_asks bucket keys nth retry end a

  -- 2. Each event is paid by the room of a call, or by the attempt that was open

  abbrev IsPaid : Answer → DriverPoint → Room → Type 0
  IsPaid end place room =
      listed end + one (is_open_after (is_asking place) end) ≤ room.attempts + room.tidies + one (is_asking place)

  passed_or_listed : (passed : Bool) (n : ℕ) → (if passed then 0 else 1) + (if passed then 1 else 0) ≤ n + 1
  passed_or_listed true n = omega arith
  passed_or_listed false n = omega arith

  pub is_paid : (txn_number try : ℕ) (place : DriverPoint) (end : Answer) → IsAnswered shape place ops txn end
      → IsPaid end place (call_room shape (place_call record { txn = txn_number; ops = ops } try place))
  is_paid t try ToBegin (answer.Begun prefix) a = omega arith
  is_paid t try ToBegin (answer.Again worker first second) a = omega arith
  is_paid t try ToBegin _ a = absurd a
  is_paid t try (ToAsk nth) (answer.Txn end) a = passed_or_listed (has_passed end) _
  is_paid t try (ToAsk nth) (answer.Scanned items) a = omega arith
  is_paid t try (ToAsk nth) _ a = absurd a
  is_paid t try (ToTidy keys nth again retry) (answer.NoRoom bucket) a = omega arith
  is_paid t try (ToTidy keys nth again retry) answer.Moved a = omega arith
  is_paid t try (ToTidy keys nth again retry) answer.Back a = omega arith
  is_paid t try (ToTidy keys nth again retry) answer.Nothing a = omega arith
  is_paid t try (ToTidy keys nth again retry) _ a = absurd a
  is_paid t try (ToCollect bucket keys nth retry) (answer.Again worker first second) a = omega arith
  is_paid t try (ToCollect bucket keys nth retry) (answer.Collected known) a = omega arith
  is_paid t try (ToCollect bucket keys nth retry) _ a = absurd a

-- 3. Its calls need what is open

-- an operation, or the commit, needs a transaction that is open
op_needs : (client : ClientState) (o : Option Op) → IsSome client.txn → NeedsOpen client (op_call o)
op_needs client None some = some
op_needs client (Some (op.Get t k)) some = some
op_needs client (Some (op.Put t k v)) some = some
op_needs client (Some (op.Add t k f up by)) some = some
op_needs client (Some (op.Del t k)) some = some
op_needs client (Some (op.Need t k f least)) some = some
op_needs client (Some (op.Guard t k)) some = some
op_needs client (Some (op.Scan t low high)) some = some

pub needs_open : (shape : Shape) (client : ClientState) (ops : List Op) (txn_number try : ℕ) (place : DriverPoint)
    → AsksFrom shape place ops client.txn
    → NeedsOpen client (place_call record { txn = txn_number; ops = ops } try place)
needs_open shape client ops t try ToBegin asked = tt
needs_open shape client ops t try (ToAsk nth) asked =
    op_needs client (slice_get ops nth) (is_open shape (take nth ops) client.txn asked)
needs_open shape client ops t try (ToTidy keys nth again retry) asked = tt
needs_open shape client ops t try (ToCollect bucket keys nth retry) asked = tt
