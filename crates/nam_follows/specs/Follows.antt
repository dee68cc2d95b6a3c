-- What a session has told follows the retry policy, as far as its driver has come.
use Rattle.std.specs.Prelude.{ℕ, ◌+◌, ◌-◌, ◌≤◌, ◌<◌, ◌≡◌, Bool, IsTrue, true, false, Some, List, [], ◌∷◌, map, drop}
use Rattle.std.specs.Prelude.{length}
use Rattle.std.specs.Prelude.{slice_get}
use Rattle.std.specs.List.{AllByRecursion}
use Rattle.si_model.specs.declared.row.Key.{Key}
use Rattle.si_model.specs.declared.op.Policy.{Policy}
use Rattle.si_model.specs.declared.log.Event.TheVariants.{NoRoom}
use Rattle.si_model.specs.Tells.{Tell}
use Rattle.si_model.specs.View.{View}
use Rattle.si_model.specs.Setting.{Setting}
use Rattle.si_model.specs.Tries.{Part, Owed, goes_on, FullEvent, Walk, FollowsSoFar, is_through}
use Rattle.nam_protocol.specs.declared.session.Job.{Job}
use Rattle.nam_protocol.specs.declared.session.DriverPoint.{DriverPoint}
use Rattle.nam_protocol.specs.declared.session.DriverPoint.TheVariants.{ToBegin, ToAsk, ToTidy, ToCollect}
use Rattle.nam_protocol.specs.declared.session.DriverState.{DriverState}
use Rattle.nam_follows.specs.Tells.{HasCollected}

-- 1. What is owed, by the driver's point

-- the transactions of the jobs from this one on
abbrev pub txns_from : ℕ → List Job → List ℕ
txns_from job jobs = map (λ x. x.txn) (drop job jobs)

-- so many keys and transactions are owed, the first of which was tried so often
pub record Owes (owed : Owed) (keys : List Key) (txns : List ℕ) (tries : ℕ) : Type 0 where
  pub keys_are : owed.keys ≡ keys
  pub txns_are : owed.txns ≡ txns
  pub tries_are : owed.tries ≡ tries
  pub goes : IsTrue (goes_on owed.stage)

module _ (jobs : List Job) (job try : ℕ) (owed : Owed) where
  -- this job at this try; the attempt isn't told yet
  abbrev pub TryOwed : Type 0
  TryOwed = Owes owed [] (txns_from job jobs) (try - 1)

  -- these keys, and then the job again or the next one
  abbrev pub TidiesOwed : List Key → Bool → Type 0
  TidiesOwed keys true = Owes owed keys (txns_from job jobs) try
  TidiesOwed keys false = Owes owed keys (txns_from (job + 1) jobs) 0

  abbrev pub PointOwes : DriverPoint → Type 0
  PointOwes ToBegin = TryOwed
  PointOwes (ToAsk nth) = TryOwed
  PointOwes (ToTidy keys nth again retry) = TidiesOwed (drop nth keys) retry
  PointOwes (ToCollect bucket keys nth retry) = TidiesOwed (drop nth keys) retry

-- 2. What is at hand, and what the driver stands at

-- the first events of the tidying at hand, if any
abbrev pub IsAtHand : DriverPoint → List Tell → Type 0
IsAtHand (ToTidy keys nth true retry) hand = (bucket : ℕ) × HasCollected bucket [] hand
IsAtHand (ToCollect bucket keys nth retry) hand =
    (first : Tell) × (hand ≡ first ∷ []) × (first.event ≡ NoRoom bucket)
IsAtHand point hand = hand ≡ []

-- a key is left to be tidied, and where the job is tried again then, a try is
abbrev pub TidyStands : Policy → ℕ → List Key → ℕ → Bool → Type 0
TidyStands policy try keys nth retry = (nth < length keys) × (retry ≡ true → try < policy.tries)

abbrev pub PointStands : Policy → ℕ → DriverPoint → Type 0
PointStands policy try (ToTidy keys nth again retry) = TidyStands policy try keys nth retry
PointStands policy try (ToCollect bucket keys nth retry) = TidyStands policy try keys nth retry
PointStands policy try point = Unit {0}

-- but at a begin a job is at hand
abbrev pub HasJob : List Job → ℕ → DriverPoint → Type 0
HasJob jobs job ToBegin = Unit {0}
HasJob jobs job point = (x : Job) × (slice_get jobs job ≡ Some x)

-- 3. The claim

-- Worker j's events are a walk that the policy allows, and what is owed after it is what the driver asks next. Full
-- rings follow in this view.
pub record IsFollowing (s : Setting) (v : View) (j : ℕ) (jobs : List Job) (driver : DriverState) (front : List Tell) :
    Type 0 where
  pub walk : Walk
  pub so_far : FollowsSoFar s v j front walk
  pub owes : PointOwes jobs driver.job driver.nth walk.owed driver.place
  pub hand : IsAtHand driver.place walk.at_hand
  pub policy_is : driver.policy ≡ s.policy
  pub some_try : 1 ≤ driver.nth
  pub tries : driver.nth ≤ s.policy.tries
  pub stands : PointStands s.policy driver.nth driver.place
  pub at_job : HasJob jobs driver.job driver.place

-- of new events behind these parts: an attempt that found a ring full of the worker's own commit comes after a failed
-- tidying
abbrev pub FullsAre : Setting → View → ℕ → List Part → List Tell → Type 0
FullsAre s v j parts ts = IsTrue s.policy.tidy → AllByRecursion (λ t. FullEvent v j parts t t.event) ts

-- Worker j's events are a walk that the policy allows, and nothing is owed after it, or the worker was stopped.
pub record IsFollowed (s : Setting) (v : View) (j : ℕ) (ts : List Tell) : Type 0 where
  pub walk : Walk
  pub follows : FollowsSoFar s v j ts walk
  pub through : IsTrue (is_through walk)
