-- What each call takes of the room that a client has reserved, and that the room for jobs suffices for all calls of
-- their
-- driver.
use Rattle.std.specs.Prelude.{◌≡◌, ℕ, ◌+◌, ◌-◌, ◌*◌, ◌<◌, ◌≤◌, Bool, true, false, if◌then◌else◌, List, [], ◌∷◌, length}
use Rattle.std.specs.Prelude.{drop, Some}
use Rattle.si_model.specs.declared.row.Key.{Key}
use Rattle.si_model.specs.declared.op.Op.{Op}
use Rattle.si_model.specs.declared.op.Policy.{Policy}
use Rattle.nam_catalog.specs.declared.shape.Shape.{Shape}
use Rattle.nam_calls.specs.Words.{capacity_of}
use Rattle.nam_protocol.specs.declared.txn.TxnCall.TheVariants.{Commit}
use Rattle.nam_protocol.specs.declared.client.Call.{Call}
use Rattle.nam_protocol.specs.declared.client.Call.TheVariants.{Begin, Txn, Scan, Tidy, Collect}
use Rattle.nam_protocol.specs.declared.client.Answer.{Answer}
use Rattle.nam_protocol.specs.declared.session.Job.{Job}
use Rattle.nam_protocol.specs.declared.session.DriverPoint.{DriverPoint}
use Rattle.nam_protocol.specs.declared.session.DriverPoint.TheVariants.{ToBegin, ToAsk, ToTidy, ToCollect}
use Rattle.nam_protocol.specs.declared.session.DriverState.{DriverState}
use Rattle.nam_protocol.specs.Driver.{new_driver, driver_next, driver_take}
use Rattle.nam_protocol.specs.Left.{Room, writes_in, ops_weight, room_for}

-- 1. What a call takes

-- a begin takes an attempt, an operation one of the operations, and a scan as many as its table has positions; a
-- tidying and a collection take a tidying each, and a commit nothing
abbrev pub call_room : Shape → Call → Room
call_room shape (Begin txn nth) = record { attempts = 1; ops = 0; tidies = 0 }
call_room shape (Txn Commit) = record { attempts = 0; ops = 0; tidies = 0 }
call_room shape (Txn call) = record { attempts = 0; ops = 1; tidies = 0 }
call_room shape (Scan table low high) = record { attempts = 0; ops = capacity_of shape table; tidies = 0 }
call_room shape (Tidy table key) = record { attempts = 0; ops = 0; tidies = 1 }
call_room shape (Collect bucket) = record { attempts = 0; ops = 0; tidies = 1 }

abbrev pub both_rooms : Room → Room → Room
both_rooms a b = record { attempts = a.attempts + b.attempts; ops = a.ops + b.ops; tidies = a.tidies + b.tidies }

pub record IsWithin (small great : Room) : Type 0 where
  pub attempts : small.attempts ≤ great.attempts
  pub ops : small.ops ≤ great.ops
  pub tidies : small.tidies ≤ great.tidies

-- 2. What a driver may still ask

-- the tries of its job count from 1 up to the policy's, and a key that is tidied is one of the keys; another try
-- follows only where one is left
abbrev pub TidyCounts : ℕ → ℕ → List Key → ℕ → Bool → Type 0
TidyCounts tries try keys nth retry = (nth < length keys) × (retry ≡ true → try < tries)

abbrev pub PlaceCounts : ℕ → ℕ → DriverPoint → Type 0
PlaceCounts tries try ToBegin = Unit {0}
PlaceCounts tries try (ToAsk nth) = Unit {0}
PlaceCounts tries try (ToTidy keys nth again retry) = TidyCounts tries try keys nth retry
PlaceCounts tries try (ToCollect bucket keys nth retry) = TidyCounts tries try keys nth retry

abbrev pub DriverCounts : DriverState → Type 0
DriverCounts driver =
    (1 ≤ driver.nth) × (driver.nth ≤ driver.policy.tries) × PlaceCounts driver.policy.tries driver.nth driver.place

-- the begin of this try
abbrev pub begin_here : DriverPoint → ℕ
begin_here ToBegin = 1
begin_here place = 0

-- tidyings where they are on
abbrev pub tidies_of : Policy → ℕ → ℕ
tidies_of policy n = if policy.tidy then 3 * n else 0

-- from this try on each written key is tidied once, and a key before each later try
abbrev pub try_tidies : Policy → ℕ → List Op → ℕ
try_tidies policy try ops = tidies_of policy (writes_in ops + (policy.tries - try))

abbrev pub retry_tidies : Policy → ℕ → List Op → Bool → ℕ
retry_tidies policy try ops true = try_tidies policy (try + 1) ops
retry_tidies policy try ops false = 0

-- of the keys after the nth, and of the tries that follow
abbrev pub keys_tidies : Policy → ℕ → List Op → List Key → ℕ → Bool → ℕ
keys_tidies policy try ops keys nth retry = 3 * (length keys - nth - 1) + retry_tidies policy try ops retry

-- a tidying, a collection, and a tidying once more
abbrev pub place_tidies : Policy → ℕ → List Op → DriverPoint → ℕ
place_tidies policy try ops ToBegin = try_tidies policy try ops
place_tidies policy try ops (ToAsk nth) = try_tidies policy try ops
place_tidies policy try ops (ToTidy keys nth false retry) = 3 + keys_tidies policy try ops keys nth retry
place_tidies policy try ops (ToTidy keys nth true retry) = 1 + keys_tidies policy try ops keys nth retry
place_tidies policy try ops (ToCollect bucket keys nth retry) = 2 + keys_tidies policy try ops keys nth retry

module _ (shape : Shape) where
  -- the operations of this try
  abbrev pub place_ops : List Op → DriverPoint → ℕ
  place_ops ops ToBegin = ops_weight shape ops
  place_ops ops (ToAsk nth) = ops_weight shape (drop nth ops)
  place_ops ops place = 0

  -- the driver's job, and those after it
  abbrev pub driver_room : DriverState → List Job → Room
  driver_room driver [] = record { attempts = 0; ops = 0; tidies = 0 }
  driver_room driver (job ∷ jobs) = record {
    attempts = begin_here driver.place + (driver.policy.tries - driver.nth) +
        (room_for shape driver.policy jobs).attempts;
    ops = place_ops job.ops driver.place + (driver.policy.tries - driver.nth) * ops_weight shape job.ops
        + (room_for shape driver.policy jobs).ops;
    tidies = place_tidies driver.policy driver.nth job.ops driver.place + (room_for shape driver.policy jobs).tidies;
  }

  abbrev pub room_left : List Job → DriverState → Room
  room_left jobs driver = driver_room driver (drop driver.job jobs)

  -- 3. The room for the jobs suffices at first, and each call leaves as much as may still be asked, whatever its answer

  abbrev pub NewRoom : Type 0
  NewRoom = (policy : Policy) (jobs : List Job) → 1 ≤ policy.tries
      → DriverCounts (new_driver policy)
      × IsWithin (room_left jobs (new_driver policy)) (room_for shape policy jobs)

  abbrev pub CallRoom : Type 0
  CallRoom = (jobs : List Job) (driver : DriverState) (call : Call) (answer : Answer) → DriverCounts driver
      → driver_next jobs driver ≡ Some call
      → DriverCounts (driver_take jobs driver answer)
      × IsWithin (both_rooms (call_room shape call) (room_left jobs (driver_take jobs driver answer)))
      (room_left jobs driver)

abbrev pub RoomLaw : Type 0
RoomLaw = (shape : Shape) → NewRoom shape × CallRoom shape
