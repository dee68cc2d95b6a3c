-- A job that is tried twice, whose key is then tidied: what its driver asks, the walk of its events, and that the laws'
-- premises are met.
use Rattle.std.proofs.Common.{◌≡◌, ℕ, Bool, true, false, List, [], ◌∷◌, ◌++◌, refl, arith, Some, None}
use Rattle.si_model.specs.declared.op.Op.TheVariants.{Put}
use Rattle.si_model.specs.declared.op.Policy.{Policy}
use Rattle.si_model.specs.declared.log.Outcome.TheVariants.{Locked, Commit}
use Rattle.si_model.specs.declared.log.Event.{Event}
use Rattle.si_model.specs.declared.log.Event.TheVariants.{NoRoom, Collected}
use Rattle.si_model.specs.Rows.{key_at, rows_of}
use Rattle.si_model.specs.Tells.{Tell}
use Rattle.si_model.specs.View.{View, by_snapshots}
use Rattle.si_model.specs.Setting.{Setting}
use Rattle.si_model.specs.Tries.{attempted, tidied, owes_all, owed_along, next_owed}
use Rattle.si_model.specs.Tries.Stage.{going, committed}
use Rattle.nam_protocol.specs.declared.txn.TxnAnswer.TheVariants as txn_answer
use Rattle.nam_protocol.specs.declared.client.Answer.{Answer}
use Rattle.nam_protocol.specs.declared.client.Answer.TheVariants as answer
use Rattle.nam_protocol.specs.declared.session.Job.{Job}
use Rattle.nam_protocol.specs.declared.session.DriverPoint.{DriverPoint}
use Rattle.nam_protocol.specs.declared.session.DriverPoint.TheVariants.{ToBegin, ToAsk, ToTidy, ToCollect}
use Rattle.nam_protocol.specs.declared.session.DriverState.{DriverState}
use Rattle.nam_protocol.specs.Driver.{driver_next, driver_take}
use Rattle.nam_protocol.proofs.Shown.{lock, tried, move, move_done}
use Rattle.nam_follows.specs.Tells.{AnswerTells}
use Rattle.nam_follows.specs.Follows.{IsFollowing, IsFollowed, FullsAre}
use Rattle.nam_follows.proofs.AnswerLemmas.{new_follows, take_follows}
use Rattle.nam_follows.proofs.CutLemmas.{ended_followed}

-- 1. The driver

abbrev policy : Policy
policy = record { tries = 2; tidy = true }

abbrev job : Job
job = record { txn = 1; ops = Put 0 0 (7 ∷ []) ∷ [] }

abbrev jobs : List Job
jobs = job ∷ []

abbrev at : ℕ → DriverPoint → DriverState
at try point = record { policy = policy; job = 0; nth = try; place = point }

abbrev through : DriverState
through = record { policy = policy; job = 1; nth = 1; place = ToBegin }

abbrev key_tidied : Bool → DriverPoint
key_tidied again = ToTidy (key_at 0 0 ∷ []) 0 again false

-- the record is locked when the first try commits; the second commits, and its key is tidied behind a collect
locked_is_retried : driver_take jobs (at 1 (ToAsk 1)) (answer.Txn (txn_answer.Locked (lock 0 0 2 1))) ≡ at 2 ToBegin
locked_is_retried = refl

commit_is_tidied : driver_take jobs (at 2 (ToAsk 1)) (answer.Txn (txn_answer.Committed 1)) ≡ at 2 (key_tidied false)
commit_is_tidied = refl

noroom_is_collected : driver_take jobs (at 2 (key_tidied false)) (answer.NoRoom 0)
    ≡ at 2 (ToCollect 0 (key_at 0 0 ∷ []) 0 false)
noroom_is_collected = refl

moved_is_through : driver_take jobs (at 2 (key_tidied true)) answer.Moved ≡ through
moved_is_through = refl

nothing_is_next : driver_next jobs through ≡ None
nothing_is_next = refl

-- 2. The walk

abbrev bare : Event → Tell
bare event = record { event = event; ops = []; reads = []; locks = []; writes = []; snap = [] }

abbrev first : Tell
first = record (bare (tried 1 1 0 0 0 0 (Locked (lock 0 0 2 1)))) { ops = job.ops }

abbrev second : Tell
second = record (bare (tried 1 2 1 0 0 0 (Commit 1))) { ops = job.ops }

abbrev noroom : Tell
noroom = bare (NoRoom 0)

abbrev collect : Tell
collect = bare (Collected 0 2 (1 ∷ 1 ∷ []) false)

abbrev done : Tell
done = bare (move 0 0 0 0 0 move_done)

-- the same transaction again, which was tried once
after_locked : owed_along policy (owes_all (1 ∷ [])) (attempted first ∷ [])
    ≡ Some (record { keys = []; txns = 1 ∷ []; tries = 1; stage = going })
after_locked = refl

-- its key
after_commit : owed_along policy (owes_all (1 ∷ [])) (attempted first ∷ attempted second ∷ [])
    ≡ Some (next_owed (key_at 0 0 ∷ []) [] committed)
after_commit = refl

-- nothing
after_tidying : owed_along policy (owes_all (1 ∷ []))
    (attempted first ∷ attempted second ∷ tidied (key_at 0 0) (noroom ∷ collect ∷ done ∷ []) ∷ [])
    ≡ Some (next_owed [] [] going)
after_tidying = refl

-- a second noroom of another bucket may not stand there
other_bucket : owed_along policy (owes_all (1 ∷ []))
    (attempted first ∷ attempted second ∷ tidied (key_at 0 0) (noroom ∷ collect ∷ bare (NoRoom 1) ∷ []) ∷ []) ≡ None
other_bucket = refl

-- 3. By the laws

abbrev setting : Setting
setting = record {
  workers = 2;
  start = 0;
  greatest = 255;
  held = false;
  widths = 1 ∷ [];
  capacities = 1 ∷ [];
  rings = 1 ∷ [];
  cells = 1;
  rows = [];
  jobs = job.ops ∷ [];
  owners = 1 ∷ [];
  policy = policy;
}

abbrev view : View
view = by_snapshots (rows_of []) []

abbrev Follows : DriverState → List Tell → Type 0
Follows driver front = IsFollowing setting view 1 jobs driver front

-- one answer; no ring is full
takes : (try : ℕ) (point : DriverPoint) (front ts : List Tell) (end : Answer) (told : Follows (at try point) front)
    → AnswerTells job try front point end ts → FullsAre setting view 1 told.walk.parts ts
    → Follows (driver_take jobs (at try point) end) (front ++ ts)
takes try point front ts end told tells fulls =
    take_follows setting view 1 jobs (at try point) job front ts end refl told tells fulls

-- an attempt, from its begin to before its commit
attempt_follows : (try : ℕ) (front : List Tell) → Follows (at try ToBegin) front
    → Follows (at try (ToAsk 1)) ((front ++ []) ++ [])
attempt_follows try front told =
    let begun = takes try ToBegin front [] (answer.Begun 0) told refl (λ tidy. tt) in
    takes try (ToAsk 0) (front ++ []) [] (answer.Txn txn_answer.Written) begun refl (λ tidy. tt)

first_follows : Follows (at 2 ToBegin) (first ∷ [])
first_follows =
    takes 1 (ToAsk 1) [] (first ∷ []) (answer.Txn (txn_answer.Locked (lock 0 0 2 1)))
    (attempt_follows 1 [] (new_follows setting view 1 jobs refl (omega arith)))
    (first, refl, record { attempt = _; event = refl; txn = refl; try = refl; outcome = refl; ops = λ h. refl })
    (λ tidy. (tt, tt))

second_follows : Follows (at 2 (key_tidied false)) (first ∷ second ∷ [])
second_follows =
    takes 2 (ToAsk 1) (first ∷ []) (second ∷ []) (answer.Txn (txn_answer.Committed 1))
    (attempt_follows 2 (first ∷ []) first_follows)
    (second, refl, record { attempt = _; event = refl; txn = refl; try = refl; outcome = refl; ops = λ h. refl })
    (λ tidy. (tt, tt))

collect_follows : Follows (at 2 (key_tidied true)) (first ∷ second ∷ noroom ∷ collect ∷ [])
collect_follows =
    let full = takes 2 (key_tidied false) (first ∷ second ∷ []) (noroom ∷ []) (answer.NoRoom 0) second_follows
    ((noroom, refl, refl), tt) (λ tidy. (tt, tt)) in
    takes 2 (ToCollect 0 (key_at 0 0 ∷ []) 0 false) (first ∷ second ∷ noroom ∷ []) (collect ∷ [])
    (answer.Collected (1 ∷ 1 ∷ [])) full (2, 1 ∷ 1 ∷ [], (collect, refl, refl)) (λ tidy. (tt, tt))

move_follows : Follows through (first ∷ second ∷ noroom ∷ collect ∷ done ∷ [])
move_follows =
    takes 2 (key_tidied true) (first ∷ second ∷ noroom ∷ collect ∷ []) (done ∷ []) answer.Moved collect_follows
    (0, record { thread = 0; number = 0 }, (done, refl, refl)) (λ tidy. (tt, tt))

all_followed : IsFollowed setting view 1 (first ∷ second ∷ noroom ∷ collect ∷ done ∷ [])
all_followed = ended_followed setting view 1 jobs through _ refl move_follows
