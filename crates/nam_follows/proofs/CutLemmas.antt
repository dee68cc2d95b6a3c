-- A session that was cut at any of its driver's points, or has ended, has followed the policy.
use Rattle.std.proofs.Common.{◌≡◌, ℕ, ◌+◌, Bool, true, false, cond, List, [], ◌∷◌, ◌++◌, length, map, drop, refl, ap}
use Rattle.std.proofs.Common.{sym}
use Rattle.std.proofs.Common.{◌∙◌, subst, append_assoc, Option, Some, None, inl, inr}
use Rattle.std.specs.Prelude.{◌==◌, ◌&&◌, ◌||◌, ◌<◌, IsTrue, slice_get}
use Rattle.std.proofs.lemmas.Bool.{and_from, or_right, eq-eqb}
use Rattle.si_model.specs.declared.row.Key.{Key}
use Rattle.si_model.specs.declared.log.Outcome.{Outcome}
use Rattle.si_model.specs.declared.log.Outcome.TheVariants as outcome
use Rattle.si_model.specs.declared.log.MoveEnd.TheVariants as moved
use Rattle.si_model.specs.declared.log.Event.{Event}
use Rattle.si_model.specs.declared.log.Event.TheVariants.{Moved, Collected, CollectCut, TidyCut}
use Rattle.si_model.specs.Evaluation.{written_keys}
use Rattle.si_model.specs.Tells.{Tell}
use Rattle.si_model.specs.View.{View}
use Rattle.si_model.specs.Setting.{Setting}
use Rattle.si_model.specs.Tries.{Owed, short, tidy_end, first_end, collect_end, next_owed, committed}
use Rattle.si_model.specs.Tries.{cut_short, tail_short, ended, is_short, may_finish, owed_after_stop, is_settled}
use Rattle.si_model.specs.Tries.{outcome_owed, FullOutcome, FullEvent, Walk, FollowsSoFar}
use Rattle.si_model.proofs.TriesLemmas.{stop_follows, tidying_follows}
use Rattle.nam_protocol.specs.declared.session.Job.{Job}
use Rattle.nam_protocol.specs.declared.session.DriverPoint.{DriverPoint}
use Rattle.nam_protocol.specs.declared.session.DriverPoint.TheVariants.{ToBegin, ToAsk, ToTidy, ToCollect}
use Rattle.nam_protocol.specs.declared.session.DriverState.{DriverState}
use Rattle.nam_protocol.specs.Driver.{key_number, job_call}
use Rattle.nam_protocol.proofs.EndsDriver.{drop_over}
use Rattle.nam_follows.specs.Tells.{IsTry, TellsTry, TellsTail, TellsEvent, StopTells, TreatedTells, CutTells}
use Rattle.nam_follows.specs.Follows.{txns_from, TryOwed, TidiesOwed, IsFollowing, IsFollowed}
use Rattle.nam_follows.specs.FollowsLaw.{CutLaw, EndedLaw}
use Rattle.nam_follows.proofs.TryLemmas.{tried_walk, tried_follows}
use Rattle.nam_follows.proofs.TidyLemmas.{first_ends, second_ends, own_key, key_after}

-- the events end where a medic may finish the worker
record IsStopped (s : Setting) (v : View) (j : ℕ) (ts : List Tell) : Type 0 where
  walk : Walk
  follows : FollowsSoFar s v j ts walk
  over : walk.at_hand ≡ []
  may : may_finish walk.owed.stage ≡ true

-- and where it was stopped
abbrev IsShort : (s : Setting) (v : View) (j : ℕ) (ts : List Tell) → Type 0
IsShort s v j ts = (x : IsStopped s v j ts) × (is_short x.walk.owed.stage ≡ true)

-- 1. The call that was stopped

module _ (s : Setting) (v : View) (j : ℕ) (jobs : List Job) (driver : DriverState) (job : Job) (front : List Tell)
    (here : slice_get jobs driver.job ≡ Some job) where
  abbrev at : DriverPoint → DriverState
  at point = record driver { place = point }

  abbrev Follows : DriverPoint → Type 0
  Follows point = IsFollowing s v j jobs (at point) front

  abbrev Short : List Tell → Type 0
  Short ts = IsShort s v j (front ++ ts)

  abbrev later : List ℕ
  later = txns_from (driver.job + 1) jobs

  -- an attempt, at a begin or an operation
  module _ (point : DriverPoint) (told : Follows point) (owes : TryOwed jobs driver.job driver.nth told.walk.owed)
      (none : told.walk.at_hand ≡ []) where
    -- no full ring ends it
    not_full : (t : Tell) (how : Outcome) → IsTry job driver.nth how t → FullOutcome v j told.walk.parts t how
        → FullEvent v j told.walk.parts t t.event
    not_full t how try full =
        subst (FullEvent v j told.walk.parts t) (sym try.event)
        (subst (FullOutcome v j told.walk.parts t) (sym try.outcome) full)

    ended_try : (t : Tell) (how : Outcome) (owed : Owed) → IsTry job driver.nth how t
        → FullOutcome v j told.walk.parts t how → outcome_owed s.policy t job.txn later driver.nth how ≡ Some owed
        → (walk : Walk) × FollowsSoFar s v j (front ++ t ∷ []) walk × (walk.at_hand ≡ []) × (walk.owed ≡ owed)
    ended_try t how owed try full is =
        let fulls = λ (tidy : IsTrue s.policy.tidy). not_full t how try full in (
          tried_walk s v j jobs (at point) job front here told.walk told.so_far none owes told.policy_is told.some_try
              told.tries t how try fulls owed,
          tried_follows s v j jobs (at point) job front here told.walk told.so_far none owes told.policy_is
              told.some_try told.tries t how try fulls owed is,
          refl,
          refl,
        )

    cut_try : (ts : List Tell) → TellsTry job driver.nth outcome.Cut ts → Short ts
    cut_try ts h =
        let e = ended_try h.0 outcome.Cut _ h.2 tt refl in
        subst Short (sym h.1) (
          record { walk = e.0; follows = e.1; over = e.2; may = ap (λ o. may_finish o.stage) e.3 },
          ap (λ o. is_short o.stage) e.3,
        )

    committed_try : (number : ℕ) (ts : List Tell) → TellsTry job driver.nth (outcome.Commit number) ts
        → IsStopped s v j (front ++ ts)
    committed_try number ts h =
        let e = ended_try h.0 (outcome.Commit number) _ h.2 tt refl in
        subst (λ xs. IsStopped s v j (front ++ xs)) (sym h.1)
        (record { walk = e.0; follows = e.1; over = e.2; may = ap (λ o. may_finish o.stage) e.3 })

    cut_tail : (ts : List Tell) → TellsTail job driver.nth ts → Short ts
    cut_tail ts (number, t, tail, two, try, is) =
        let owed : Owed = next_owed (cond s.policy.tidy (written_keys t.ops) []) later committed in
        let e = ended_try t (outcome.Commit number) owed try tt refl in
        let next : Owed = record owed { stage = tail_short } in
        let after : owed_after_stop (e.0).owed tail.event ≡ Some next =
        ap (λ o. owed_after_stop o tail.event) e.3 ∙ ap (owed_after_stop owed) is in
        subst (IsShort s v j) (append_assoc front (t ∷ []) (tail ∷ []) ∙ ap (λ xs. front ++ xs) (sym two)) (
          record {
            walk = _;
            follows = stop_follows s v j (front ++ t ∷ []) e.0 e.1 tail next e.2 after;
            over = refl;
            may = refl;
          },
          refl,
        )

  -- a tidying
  module _ (keys : List Key) (n : ℕ) (retry : Bool) where
    abbrev key : Key
    key = key_number keys n

    cut_key : (point : DriverPoint) (told : Follows point) (ts : List Tell) → n < length keys
        → TidiesOwed jobs driver.job driver.nth told.walk.owed (drop n keys) retry
        → tidy_end key (told.walk.at_hand ++ ts) ≡ Some short → Short ts
    cut_key point told ts within owes is =
        let hand = told.walk.at_hand ++ ts in
        let next : Owed = record told.walk.owed { stage = cut_short } in (
          record {
            walk = _;
            follows =
                tidying_follows s v j front told.walk told.so_far key ts next
                (key_after s v j jobs driver job front here keys n retry told.walk.owed hand short within owes is);
            over = refl;
            may = refl;
          },
          refl,
        )

    cut_first : (told : Follows (ToTidy keys n false retry)) (ts : List Tell)
        → StopTells job driver.nth (ToTidy keys n false retry) ts → tidy_end key (told.walk.at_hand ++ ts) ≡ Some short
    cut_first told ts (inl h) =
        first_ends key told.walk.at_hand ts (TidyCut key.table key.key) short told.hand h (own_key key short)
    cut_first told ts (inr h) =
        first_ends key told.walk.at_hand ts (Moved h.0 key.table key.key h.1 moved.Cut) short told.hand h.2
        (own_key key short)

    cut_second : (told : Follows (ToTidy keys n true retry)) (ts : List Tell)
        → StopTells job driver.nth (ToTidy keys n true retry) ts → tidy_end key (told.walk.at_hand ++ ts) ≡ Some short
    cut_second told ts (inl h) =
        second_ends key (told.hand).0 told.walk.at_hand ts (TidyCut key.table key.key) short (told.hand).1 h
        (own_key key short)
    cut_second told ts (inr h) =
        second_ends key (told.hand).0 told.walk.at_hand ts (Moved h.0 key.table key.key h.1 moved.Cut) short
        (told.hand).1 h.2 (own_key key short)

    -- in the collect behind a noroom
    cut_collect : (bucket : ℕ) (told : Follows (ToCollect bucket keys n retry)) (ts : List Tell) (event : Event)
        → TellsEvent event ts → collect_end key bucket event [] ≡ Some short
        → tidy_end key (told.walk.at_hand ++ ts) ≡ Some short
    cut_collect bucket told ts event h is =
        let hand = told.hand in
        ap (λ xs. tidy_end key (xs ++ ts)) hand.1 ∙ ap (λ xs. tidy_end key (hand.0 ∷ xs)) h.1
        ∙ ap (λ e. first_end key e (h.0 ∷ [])) hand.2 ∙ ap (λ e. collect_end key bucket e []) h.2 ∙ is

    cut_collected : (bucket : ℕ) (told : Follows (ToCollect bucket keys n retry)) (ts : List Tell)
        → StopTells job driver.nth (ToCollect bucket keys n retry) ts
        → tidy_end key (told.walk.at_hand ++ ts) ≡ Some short
    cut_collected bucket told ts (inl h) =
        cut_collect bucket told ts (CollectCut bucket) h
        (ap (λ b. cond (b && true) (Some short) None) (eq-eqb bucket bucket refl))
    cut_collected bucket told ts (inr h) =
        cut_collect bucket told ts (Collected bucket h.0 h.1 true) h.2
        (ap (λ b. cond b (Some short) None) (eq-eqb bucket bucket refl))

  stops : (point : DriverPoint) (told : Follows point) (ts : List Tell) → StopTells job driver.nth point ts → Short ts
  stops ToBegin told ts h = cut_try ToBegin told told.owes told.hand ts h
  stops (ToAsk nth) told ts (inl h) = cut_try (ToAsk nth) told told.owes told.hand ts h
  stops (ToAsk nth) told ts (inr h) = cut_tail (ToAsk nth) told told.owes told.hand ts h
  stops (ToTidy keys nth false retry) told ts h =
      cut_key keys nth retry (ToTidy keys nth false retry) told ts (told.stands).0 told.owes
      (cut_first keys nth retry told ts h)
  stops (ToTidy keys nth true retry) told ts h =
      cut_key keys nth retry (ToTidy keys nth true retry) told ts (told.stands).0 told.owes
      (cut_second keys nth retry told ts h)
  stops (ToCollect bucket keys nth retry) told ts h =
      cut_key keys nth retry (ToCollect bucket keys nth retry) told ts (told.stands).0 told.owes
      (cut_collected keys nth retry bucket told ts h)

  treats : (point : DriverPoint) (told : Follows point) (ts : List Tell) → TreatedTells job driver.nth point ts
      → IsStopped s v j (front ++ ts)
  treats ToBegin told ts h = (stops ToBegin told ts h).0
  treats (ToAsk nth) told ts (inl h) = (stops (ToAsk nth) told ts (inl h)).0
  treats (ToAsk nth) told ts (inr h) = committed_try (ToAsk nth) told told.owes told.hand h.0 ts h.1
  treats (ToTidy keys nth again retry) told ts h = (stops (ToTidy keys nth again retry) told ts h).0
  treats (ToCollect bucket keys nth retry) told ts h = (stops (ToCollect bucket keys nth retry) told ts h).0

  -- 2. A session that was cut, and one that its medic has finished

  cut_at : (point : DriverPoint) (told : Follows point) (ts : List Tell) → CutTells job driver.nth point ts
      → IsFollowed s v j (front ++ ts)
  cut_at point told ts (inl h) =
      let x = stops point told ts h in
      let walk = (x.0).walk in record {
        walk = walk;
        follows = (x.0).follows;
        through =
            and_from (length walk.at_hand == 0) (is_settled walk.owed) (ap (λ xs. length xs == 0) (x.0).over)
            (ap (λ b. b || ((length walk.owed.keys == 0) && (length walk.owed.txns == 0))) x.1);
      }
  cut_at point told ts (inr (stop, last, how, all, is, h)) =
      let x = treats point told stop h in
      let owed = x.walk.owed in
      let next : Owed = record owed { stage = ended } in
      let after : owed_after_stop owed last.event ≡ Some next =
      ap (owed_after_stop owed) is ∙ ap (λ b. cond b (Some next) None) x.may in
      subst (IsFollowed s v j) (append_assoc front stop (last ∷ []) ∙ ap (λ xs. front ++ xs) (sym all)) (record {
        walk = _;
        follows = stop_follows s v j (front ++ stop) x.walk x.follows last next x.over after;
        through = refl;
      })

pub cut_followed : CutLaw
cut_followed s v j jobs driver job front ts here told h =
    cut_at s v j jobs driver job front here driver.place told ts h

-- 3. A session that has ended

no_job : (driver : DriverState) (o : Option Job) → job_call driver o ≡ None → o ≡ None
no_job driver None e = refl
no_job driver (Some job) e = absurd cc

module _ (s : Setting) (v : View) (j : ℕ) (jobs : List Job) (driver : DriverState) (front : List Tell)
    (none : slice_get jobs driver.job ≡ None) where
  abbrev Told : DriverPoint → Type 0
  Told point = IsFollowing s v j jobs (record driver { place = point }) front

  no_more : (job : Job) → slice_get jobs driver.job ≡ Some job → ⊥
  no_more job here = absurd (cc (sym none ∙ here))

  ended_at : (point : DriverPoint) → Told point → IsFollowed s v j front
  ended_at ToBegin told =
      let owed = told.walk.owed in
      let txns : owed.txns ≡ [] =
      told.owes.txns_are ∙ ap (map (λ x. x.txn)) (drop_over jobs driver.job none) in record {
        walk = told.walk;
        follows = told.so_far;
        through =
            and_from (length told.walk.at_hand == 0) (is_settled owed) (ap (λ xs. length xs == 0) told.hand)
            (or_right (is_short owed.stage) ((length owed.keys == 0) && (length owed.txns == 0))
            (rw (told.owes.keys_are, txns) refl));
      }
  ended_at (ToAsk nth) told = absurd (no_more (told.at_job).0 (told.at_job).1)
  ended_at (ToTidy keys nth again retry) told = absurd (no_more (told.at_job).0 (told.at_job).1)
  ended_at (ToCollect bucket keys nth retry) told = absurd (no_more (told.at_job).0 (told.at_job).1)

pub ended_followed : EndedLaw
ended_followed s v j jobs driver front e told =
    ended_at s v j jobs driver front (no_job driver (slice_get jobs driver.job) e) driver.place told
