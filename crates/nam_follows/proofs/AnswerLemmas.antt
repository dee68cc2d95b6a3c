-- A new driver follows, and goes on to follow with each answer, by its point; and in another view.
use Rattle.std.proofs.Common.{◌≡◌, ℕ, ◌+◌, true, false, List, [], ◌++◌, refl, ap, sym, ◌∙◌, subst, arith, Some}
use Rattle.std.specs.Prelude.{slice_get}
use Rattle.std.proofs.lemmas.List.{append-nil}
use Rattle.si_model.specs.declared.log.Outcome.TheVariants as outcome
use Rattle.si_model.specs.Tells.{Tell}
use Rattle.si_model.specs.View.{View}
use Rattle.si_model.specs.Setting.{Setting}
use Rattle.si_model.specs.Tries.{first_walk}
use Rattle.si_model.proofs.TriesLemmas.{follows_nothing}
use Rattle.si_law.proofs.Fulls.{fulls_see, moved_so_far}
use Rattle.nam_protocol.specs.declared.client.Answer.{Answer}
use Rattle.nam_protocol.specs.declared.client.Answer.TheVariants as answer
use Rattle.nam_protocol.specs.declared.session.Job.{Job}
use Rattle.nam_protocol.specs.declared.session.DriverPoint.{DriverPoint}
use Rattle.nam_protocol.specs.declared.session.DriverPoint.TheVariants.{ToBegin, ToAsk, ToTidy, ToCollect}
use Rattle.nam_protocol.specs.declared.session.DriverState.{DriverState}
use Rattle.nam_protocol.specs.Driver.{on_begin, on_ask, driver_take}
use Rattle.nam_follows.specs.Tells.{BeginTells, AskTells, AnswerTells}
use Rattle.nam_follows.specs.Follows.{TryOwed, IsFollowing, FullsAre}
use Rattle.nam_follows.specs.FollowsLaw.{NewLaw, TakeLaw, ViewLaw}
use Rattle.nam_follows.proofs.TryLemmas.{retries, end_follows}
use Rattle.nam_follows.proofs.TidyLemmas.{first_follows, second_follows, collect_follows}

pub new_follows : NewLaw
new_follows s v j jobs all some = record {
  walk = first_walk s j;
  so_far = follows_nothing s v j;
  owes = record { keys_are = refl; txns_are = sym all; tries_are = refl; goes = refl };
  hand = refl;
  policy_is = refl;
  some_try = omega arith;
  tries = some;
  stands = tt;
  at_job = tt;
}

pub view_follows : ViewLaw
view_follows s asked v w j jobs driver front agree answers told = record {
  walk = told.walk;
  so_far = moved_so_far v w j front agree (fulls_see s asked v j front answers) s told.walk told.so_far;
  owes = told.owes;
  hand = told.hand;
  policy_is = told.policy_is;
  some_try = told.some_try;
  tries = told.tries;
  stands = told.stands;
  at_job = told.at_job;
}

module _ (s : Setting) (v : View) (j : ℕ) (jobs : List Job) (driver : DriverState) (job : Job) (front : List Tell)
    (here : slice_get jobs driver.job ≡ Some job) where
  abbrev at : DriverPoint → DriverState
  at point = record driver { place = point }

  abbrev Follows : DriverState → List Tell → Type 0
  Follows d ts = IsFollowing s v j jobs d ts

  nothing_told : (d : DriverState) (ts : List Tell) → ts ≡ [] → Follows d front → Follows d (front ++ ts)
  nothing_told d ts none h = subst (Follows d) (sym (append-nil front) ∙ ap (λ xs. front ++ xs) (sym none)) h

  -- the next operation is asked
  asks_next : (n : ℕ) (point : DriverPoint) (told : Follows (at point) front)
      → TryOwed jobs driver.job driver.nth told.walk.owed → told.walk.at_hand ≡ [] → Follows (at (ToAsk n)) front
  asks_next n point told owes hand = record {
    walk = told.walk;
    so_far = told.so_far;
    owes = owes;
    hand = hand;
    policy_is = told.policy_is;
    some_try = told.some_try;
    tries = told.tries;
    stands = tt;
    at_job = (job, here);
  }

  begin_follows : (end : Answer) (ts : List Tell) (told : Follows (at ToBegin) front) → BeginTells job driver.nth end ts
      → FullsAre s v j told.walk.parts ts → Follows (on_begin (at ToBegin) end) (front ++ ts)
  begin_follows (answer.Begun prefix) ts told h fulls =
      nothing_told (at (ToAsk 0)) ts h (asks_next 0 ToBegin told told.owes told.hand)
  begin_follows (answer.Again worker first second) ts told h fulls =
      retries s v j jobs (at ToBegin) job front here told.walk told.so_far told.hand told.owes told.policy_is
      told.some_try told.tries (outcome.Again worker first second) ts h fulls (λ t. refl)
  begin_follows (answer.Txn end) ts told h fulls = absurd h
  begin_follows (answer.Scanned items) ts told h fulls = absurd h
  begin_follows answer.Moved ts told h fulls = absurd h
  begin_follows answer.Back ts told h fulls = absurd h
  begin_follows answer.Nothing ts told h fulls = absurd h
  begin_follows (answer.NoRoom bucket) ts told h fulls = absurd h
  begin_follows (answer.Collected known) ts told h fulls = absurd h

  ask_follows : (n : ℕ) (end : Answer) (ts : List Tell) (told : Follows (at (ToAsk n)) front)
      → AskTells job driver.nth end ts → FullsAre s v j told.walk.parts ts
      → Follows (on_ask jobs (at (ToAsk n)) n end) (front ++ ts)
  ask_follows n (answer.Txn end) ts told h fulls =
      end_follows s v j jobs (at (ToAsk n)) job front here told.walk told.so_far told.hand told.owes told.policy_is
      told.some_try told.tries n end ts h fulls
      (λ none. nothing_told (at (ToAsk (n + 1))) ts none (asks_next (n + 1) (ToAsk n) told told.owes told.hand))
  ask_follows n (answer.Scanned items) ts told h fulls =
      nothing_told (at (ToAsk (n + 1))) ts h (asks_next (n + 1) (ToAsk n) told told.owes told.hand)
  ask_follows n (answer.Begun prefix) ts told h fulls = absurd h
  ask_follows n (answer.Again worker first second) ts told h fulls = absurd h
  ask_follows n answer.Moved ts told h fulls = absurd h
  ask_follows n answer.Back ts told h fulls = absurd h
  ask_follows n answer.Nothing ts told h fulls = absurd h
  ask_follows n (answer.NoRoom bucket) ts told h fulls = absurd h
  ask_follows n (answer.Collected known) ts told h fulls = absurd h

  at_point : (point : DriverPoint) (end : Answer) (ts : List Tell) (told : Follows (at point) front)
      → AnswerTells job driver.nth front point end ts → FullsAre s v j told.walk.parts ts
      → Follows (driver_take jobs (at point) end) (front ++ ts)
  at_point ToBegin end ts told h fulls = begin_follows end ts told h fulls
  at_point (ToAsk nth) end ts told h fulls = ask_follows nth end ts told h fulls
  at_point (ToTidy keys nth false retry) end ts told h fulls =
      first_follows s v j jobs driver job front here keys nth retry end ts told h
  at_point (ToTidy keys nth true retry) end ts told h fulls =
      second_follows s v j jobs driver job front here keys nth retry end ts told h
  at_point (ToCollect bucket keys nth retry) end ts told h fulls =
      collect_follows s v j jobs driver job front here keys nth retry bucket end ts told h

pub take_follows : TakeLaw
take_follows s v j jobs driver job front ts answer here told h fulls =
    at_point s v j jobs driver job front here driver.place answer ts told h fulls
