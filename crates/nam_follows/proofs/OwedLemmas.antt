-- What is owed after one part more, and where the driver goes on then.
use Rattle.std.proofs.Common.{◌≡◌, ℕ, zero, suc, ◌+◌, ◌-◌, Bool, true, false, cond, List, [], ◌∷◌, length, drop, map}
use Rattle.std.proofs.Common.{refl, ap, sym}
use Rattle.std.proofs.Common.{◌∙◌, subst, arith, Option, Some, None}
use Rattle.std.specs.Prelude.{◌==◌, ◌&&◌, ◌<◌, ◌≤◌, ◌≢◌, slice_get, if◌then◌else◌}
use Rattle.std.proofs.lemmas.Bool.{eq-eqb, lt-ltb, le-ltb}
use Rattle.std.proofs.lemmas.List.{drop_more}
use Rattle.si_model.proofs.EvaluationLemmas.{same_key-refl}
use Rattle.si_model.specs.declared.row.Key.{Key}
use Rattle.si_model.specs.declared.op.Policy.{Policy}
use Rattle.si_model.specs.declared.log.Outcome.{Outcome}
use Rattle.si_model.specs.Rows.{key_at}
use Rattle.si_model.specs.Tells.{Tell}
use Rattle.si_model.specs.View.{View}
use Rattle.si_model.specs.Setting.{Setting}
use Rattle.si_model.specs.Tries.{attempted, tidied, Owed, goes_on, owed_after, owed_after_try, tried_owed, outcome_owed}
use Rattle.si_model.specs.Tries.{again_owed, next_owed, going, TidyEnd, tidy_end, tidied_owed, owed_after_tidying}
use Rattle.si_model.specs.Tries.{Walk, FollowsSoFar}
use Rattle.nam_verbs.proofs.TestLemmas.{by_equal}
use Rattle.nam_protocol.specs.declared.session.Job.{Job}
use Rattle.nam_protocol.specs.declared.session.DriverPoint.TheVariants.{ToTidy}
use Rattle.nam_protocol.specs.declared.session.DriverState.{DriverState}
use Rattle.nam_protocol.specs.Driver.{key_number, next_job, next_try, retried, tidying}
use Rattle.nam_protocol.proofs.EndsDriver.{drop_from}
use Rattle.nam_follows.specs.Tells.{IsTry}
use Rattle.nam_follows.specs.Follows.{txns_from, Owes, TidiesOwed, IsFollowing}

-- 1. Lists

pub first_txn : (jobs : List Job) (n : ℕ) (job : Job) → slice_get jobs n ≡ Some job
    → txns_from n jobs ≡ job.txn ∷ txns_from (n + 1) jobs
first_txn jobs n job here = ap (map (λ x. x.txn)) (drop_from jobs n job here)

pub first_key : (keys : List Key) (n : ℕ) → n < length keys → drop n keys ≡ key_number keys n ∷ drop (n + 1) keys
first_key keys n within = drop_more keys n (key_at 0 0) within

no_keys : (keys : List Key) (n : ℕ) → n ≡ length keys → drop n keys ≡ []
no_keys [] zero e = refl
no_keys [] (suc n) e = refl
no_keys (k ∷ ks) zero e = absurd (omega (arith, e))
no_keys (k ∷ ks) (suc n) e = no_keys ks n (omega (arith, e))

-- 2. One part more

pub try_after : (policy : Policy) (owed : Owed) (job : Job) (later : List ℕ) (nth : ℕ) (how : Outcome) (t : Tell)
    → Owes owed [] (job.txn ∷ later) (nth - 1) → 1 ≤ nth → IsTry job nth how t
    → owed_after policy owed (attempted t) ≡ outcome_owed policy t job.txn later nth how
try_after policy owed job later nth how t owes some try =
    let a = try.attempt in
    let count : nth - 1 + 1 ≡ nth = omega (arith, some) in
    let tries : owed.tries + 1 ≡ nth = ap (λ n. n + 1) owes.tries_are ∙ count in
    let here : (a.txn == job.txn) && (a.nth == owed.tries + 1) ≡ true =
    rw (eq-eqb a.txn job.txn try.txn, eq-eqb a.nth (owed.tries + 1) (try.try ∙ sym tries)) refl in
    ap (λ b. cond b (owed_after_try policy owed.keys owed t) None) owes.goes
    ∙ ap (λ ks. owed_after_try policy ks owed t) owes.keys_are
    ∙ ap (λ ts. tried_owed policy t ts owed.tries t.event) owes.txns_are
    ∙ ap (λ e. tried_owed policy t (job.txn ∷ later) owed.tries e) try.event
    ∙ ap (λ b. cond b (outcome_owed policy t job.txn later (owed.tries + 1) a.outcome) None) here
    ∙ ap (λ x. outcome_owed policy t job.txn later (owed.tries + 1) x) try.outcome
    ∙ ap (λ n. outcome_owed policy t job.txn later n how) tries

abbrev after_end : List Key → Owed → Option TidyEnd → Option Owed
after_end keys owed end = elim end as (λ x. Option Owed) [ None ↦ None | Some e ↦ Some (tidied_owed keys owed e) ]

pub tidy_after : (policy : Policy) (owed : Owed) (key : Key) (keys : List Key) (txns : List ℕ) (tries : ℕ)
    (ts : List Tell) (end : TidyEnd) → Owes owed (key ∷ keys) txns tries → tidy_end key ts ≡ Some end
    → owed_after policy owed (tidied key ts) ≡ Some (tidied_owed keys owed end)
tidy_after policy owed key keys txns tries ts end owes is =
    ap (λ b. cond b (owed_after_tidying owed.keys owed key ts) None) owes.goes
    ∙ ap (λ ks. owed_after_tidying ks owed key ts) owes.keys_are
    ∙ ap (λ b. cond b (after_end keys owed (tidy_end key ts)) None) (same_key-refl key)
    ∙ ap (after_end keys owed) is

-- 3. Where the driver goes on

module _ (s : Setting) (v : View) (j : ℕ) (jobs : List Job) (driver : DriverState) (ts : List Tell) (walk : Walk)
    (so_far : FollowsSoFar s v j ts walk) (none : walk.at_hand ≡ []) (policy_is : driver.policy ≡ s.policy)
    (some_try : 1 ≤ driver.nth) (tries : driver.nth ≤ s.policy.tries) where
  abbrev Follows : DriverState → Type 0
  Follows d = IsFollowing s v j jobs d ts

  pub to_next : Owes walk.owed [] (txns_from (driver.job + 1) jobs) 0 → Follows (next_job driver)
  to_next owes = record {
    walk = walk;
    so_far = so_far;
    owes = owes;
    hand = none;
    policy_is = policy_is;
    some_try = omega arith;
    tries = omega (arith, some_try, tries);
    stands = tt;
    at_job = tt;
  }

  to_try : driver.nth < s.policy.tries → Owes walk.owed [] (txns_from driver.job jobs) driver.nth
      → Follows (next_try driver)
  to_try left owes = record {
    walk = walk;
    so_far = so_far;
    owes =
        (let e : driver.nth ≡ driver.nth + 1 - 1 = omega arith in
        subst (Owes walk.owed [] (txns_from driver.job jobs)) e owes);
    hand = none;
    policy_is = policy_is;
    some_try = omega arith;
    tries = omega (arith, left);
    stands = tt;
    at_job = tt;
  }

  module _ (job : Job) (here : slice_get jobs driver.job ≡ Some job) where
    abbrev later : List ℕ
    later = txns_from (driver.job + 1) jobs

    pub to_retry : walk.owed ≡ again_owed s.policy [] job.txn later driver.nth → Follows (retried driver)
    to_retry is =
        by_equal Follows driver.nth driver.policy.tries (next_job driver) (next_try driver)
        (λ last.
        let now = is ∙ again_last (omega (arith, last, ap (λ p. p.tries) policy_is)) in
        to_next (record {
          keys_are = ap (λ o. o.keys) now;
          txns_are = ap (λ o. o.txns) now;
          tries_are = ap (λ o. o.tries) now;
          goes = ap (λ o. goes_on o.stage) now;
        }))
        (λ apart.
        let left : driver.nth < s.policy.tries = few apart in
        let now = is ∙ again_left left in
        to_try left (record {
          keys_are = ap (λ o. o.keys) now;
          txns_are = ap (λ o. o.txns) now ∙ sym (first_txn jobs driver.job job here);
          tries_are = ap (λ o. o.tries) now;
          goes = ap (λ o. goes_on o.stage) now;
        }))
      where
        few : driver.nth ≢ driver.policy.tries → driver.nth < s.policy.tries
        few apart =
            let other : driver.nth ≢ s.policy.tries = λ e. apart (e ∙ sym (ap (λ p. p.tries) policy_is)) in
            omega (arith, other, tries)

        again_last : s.policy.tries ≤ driver.nth
            → again_owed s.policy [] job.txn later driver.nth ≡ next_owed [] later going
        again_last h = rw (le-ltb driver.nth s.policy.tries h) refl

        again_left : driver.nth < s.policy.tries → again_owed s.policy [] job.txn later driver.nth
            ≡ record { keys = []; txns = job.txn ∷ later; tries = driver.nth; stage = going }
        again_left h = rw (lt-ltb driver.nth s.policy.tries h) refl

    pub to_tidying : (keys : List Key) (n : ℕ) (retry : Bool) → (retry ≡ true → driver.nth < s.policy.tries)
        → n ≤ length keys → TidiesOwed jobs driver.job driver.nth walk.owed (drop n keys) retry
        → Follows (tidying driver keys n retry)
    to_tidying keys n retry left few owes =
        by_equal Follows n (length keys) (if retry then next_try driver else next_job driver)
        (record driver { place = ToTidy keys n false retry })
        (λ e. over retry left
        (subst (λ ks. TidiesOwed jobs driver.job driver.nth walk.owed ks retry) (no_keys keys n e) owes))
        (λ apart. record {
          walk = walk;
          so_far = so_far;
          owes = owes;
          hand = none;
          policy_is = policy_is;
          some_try = some_try;
          tries = tries;
          stands = (omega (arith, apart, few), left);
          at_job = (job, here);
        })
      where
        over : (again : Bool) → (again ≡ true → driver.nth < s.policy.tries)
            → TidiesOwed jobs driver.job driver.nth walk.owed [] again
            → Follows (if again then next_try driver else next_job driver)
        over true left owes = to_try (left refl) owes
        over false left owes = to_next owes
