-- An attempt has ended: its event goes on with the walk, and the driver stands for what is owed then.
use Rattle.std.proofs.Common.{◌≡◌, ℕ, ◌+◌, ◌-◌, Bool, true, false, cond, List, [], ◌∷◌, ◌++◌, refl, ap, sym, ◌∙◌, subst}
use Rattle.std.proofs.Common.{arith}
use Rattle.std.proofs.Common.{Some}
use Rattle.std.specs.Prelude.{◌==◌, ◌||◌, not, ◌<◌, ◌≤◌, ◌≢◌, IsTrue, is_some, slice_get}
use Rattle.std.specs.List.{AllByRecursion}
use Rattle.std.proofs.lemmas.Bool.{false≢true, true≢false, lt-ltb, le-ltb, eqb-true, eq-eqb}
use Rattle.si_model.specs.declared.log.Lock.{Lock}
use Rattle.si_model.specs.declared.log.Outcome.{Outcome}
use Rattle.si_model.specs.declared.log.Outcome.TheVariants as outcome
use Rattle.si_model.specs.Evaluation.{written_keys}
use Rattle.si_model.specs.Rows.{key_at}
use Rattle.si_model.specs.Answers.{lock_key}
use Rattle.si_model.specs.Tells.{Tell, commit_in, number_in}
use Rattle.si_model.specs.View.{View}
use Rattle.si_model.specs.Setting.{Setting}
use Rattle.si_model.specs.Tries.{attempted, Owed, outcome_owed, again_owed, next_owed, going, committed, FullEvent}
use Rattle.si_model.specs.Tries.{Walk, FollowsSoFar}
use Rattle.si_model.proofs.TriesLemmas.{attempt_follows}
use Rattle.nam_verbs.proofs.TestLemmas.{by_test}
use Rattle.nam_protocol.specs.declared.txn.TxnAnswer.{TxnAnswer}
use Rattle.nam_protocol.specs.declared.txn.TxnAnswer.TheVariants as txn_answer
use Rattle.nam_protocol.specs.declared.session.Job.{Job}
use Rattle.nam_protocol.specs.declared.session.DriverPoint.TheVariants.{ToAsk}
use Rattle.nam_protocol.specs.declared.session.DriverState.{DriverState}
use Rattle.nam_protocol.specs.Driver.{next_job, retried, tidying, on_full, on_commit, on_txn, keys_of_job}
use Rattle.nam_follows.specs.Tells.{IsTry, TellsTry, TxnTells}
use Rattle.nam_follows.specs.Follows.{txns_from, Owes, TryOwed, IsFollowing, FullsAre}
use Rattle.nam_follows.proofs.OwedLemmas.{first_txn, try_after, to_next, to_retry, to_tidying}

module _ (s : Setting) (v : View) (j : ℕ) (jobs : List Job) (driver : DriverState) (job : Job) (front : List Tell)
    (here : slice_get jobs driver.job ≡ Some job) (walk : Walk) (so_far : FollowsSoFar s v j front walk)
    (none : walk.at_hand ≡ []) (owes : TryOwed jobs driver.job driver.nth walk.owed)
    (policy_is : driver.policy ≡ s.policy) (some_try : 1 ≤ driver.nth) (tries : driver.nth ≤ s.policy.tries) where
  abbrev later : List ℕ
  later = txns_from (driver.job + 1) jobs

  -- the driver follows, with these events more
  abbrev Follows : DriverState → List Tell → Type 0
  Follows d ts = IsFollowing s v j jobs d (front ++ ts)

  first : txns_from driver.job jobs ≡ job.txn ∷ later
  first = first_txn jobs driver.job job here

  pub mine : Owes walk.owed [] (job.txn ∷ later) (driver.nth - 1)
  mine = record {
    keys_are = owes.keys_are;
    txns_are = owes.txns_are ∙ first;
    tries_are = owes.tries_are;
    goes = owes.goes;
  }

  -- 1. It goes on with the walk

  module _ (t : Tell) (how : Outcome) (try : IsTry job driver.nth how t)
      (full : IsTrue s.policy.tidy → FullEvent v j walk.parts t t.event) where
    abbrev pub tried_walk : Owed → Walk
    tried_walk owed = record { parts = walk.parts ++ attempted t ∷ []; at_hand = []; owed = owed }

    pub tried_follows : (owed : Owed) → outcome_owed s.policy t job.txn later driver.nth how ≡ Some owed
        → FollowsSoFar s v j (front ++ t ∷ []) (tried_walk owed)
    tried_follows owed is =
        attempt_follows s v j front walk so_far t owed none
        (try_after s.policy walk.owed job later driver.nth how t mine some_try try ∙ is) full

    -- it may be tried again
    tries_again : outcome_owed s.policy t job.txn later driver.nth how
        ≡ Some (again_owed s.policy [] job.txn later driver.nth) → Follows (retried driver) (t ∷ [])
    tries_again is =
        let owed = again_owed s.policy [] job.txn later driver.nth in
        to_retry s v j jobs driver (front ++ t ∷ []) (tried_walk owed) (tried_follows owed is) refl policy_is some_try
        tries job here refl

    -- it is through
    is_through : outcome_owed s.policy t job.txn later driver.nth how ≡ Some (next_owed [] later going)
        → Follows (next_job driver) (t ∷ [])
    is_through is =
        let owed = next_owed [] later going in
        to_next s v j jobs driver (front ++ t ∷ []) (tried_walk owed) (tried_follows owed is) refl policy_is some_try
        tries (record { keys_are = refl; txns_are = refl; tries_are = refl; goes = refl })

  -- one that these events are
  by_try : (d : DriverState) (how : Outcome) (ts : List Tell) → TellsTry job driver.nth how ts
      → FullsAre s v j walk.parts ts
      → ((t : Tell) → IsTry job driver.nth how t → (IsTrue s.policy.tidy → FullEvent v j walk.parts t t.event)
      → Follows d (t ∷ []))
      → Follows d ts
  by_try d how ts h fulls goes =
      subst (Follows d) (sym h.1) (goes h.0 h.2
      (λ tidy. (subst (AllByRecursion (λ t. FullEvent v j walk.parts t t.event)) h.1 (fulls tidy)).0))

  pub retries : (how : Outcome) (ts : List Tell) → TellsTry job driver.nth how ts → FullsAre s v j walk.parts ts
      → ((t : Tell) → outcome_owed s.policy t job.txn later driver.nth how
      ≡ Some (again_owed s.policy [] job.txn later driver.nth))
      → Follows (retried driver) ts
  retries how ts h fulls is =
      by_try (retried driver) how ts h fulls (λ t try full. tries_again t how try full (is t))

  leaves : (how : Outcome) (ts : List Tell) → TellsTry job driver.nth how ts → FullsAre s v j walk.parts ts
      → ((t : Tell) → outcome_owed s.policy t job.txn later driver.nth how ≡ Some (next_owed [] later going))
      → Follows (next_job driver) ts
  leaves how ts h fulls is =
      by_try (next_job driver) how ts h fulls (λ t try full. is_through t how try full (is t))

  -- 2. A full ring: its key is tidied first, where a try is left

  module _ (l : Lock) where
    abbrev full_owed : Bool → Owed
    full_owed tidy = again_owed s.policy (cond tidy (lock_key l ∷ []) []) job.txn later driver.nth

    by_tests : (x y : Bool) → (x || not y) ≡ true → (y ≡ true → x ≡ true → full_owed y ≡ full_owed false)
        → full_owed y ≡ full_owed false
    by_tests x false e last = refl
    by_tests true true e last = last refl refl
    by_tests false true e last = absurd (false≢true e)

    both_tests : (x y : Bool) → (x || not y) ≡ false → (x ≡ false) × (y ≡ true)
    both_tests true y e = absurd (true≢false e)
    both_tests false true e = (refl, refl)
    both_tests false false e = absurd (true≢false e)

    -- no try is left, or nothing is tidied
    no_tidying : ((driver.nth == s.policy.tries) || not s.policy.tidy) ≡ true
        → full_owed s.policy.tidy ≡ full_owed false
    no_tidying e =
        by_tests (driver.nth == s.policy.tries) s.policy.tidy e
        (λ tidy last.
        let n = eqb-true driver.nth s.policy.tries last in
        let over = le-ltb driver.nth s.policy.tries (omega (arith, n)) in rw (over) refl)

    full_tidies : (t : Tell) → IsTry job driver.nth (outcome.Full l) t
        → (IsTrue s.policy.tidy → FullEvent v j walk.parts t t.event)
        → ((driver.nth == s.policy.tries) || not s.policy.tidy) ≡ false
        → Follows (tidying driver (key_at l.table l.key ∷ []) 0 true) (t ∷ [])
    full_tidies t try full e =
        let tests = both_tests (driver.nth == s.policy.tries) s.policy.tidy e in
        let apart : driver.nth ≢ s.policy.tries =
        λ n. true≢false (sym (eq-eqb driver.nth s.policy.tries n) ∙ tests.0) in
        let left : driver.nth < s.policy.tries = omega (arith, apart, tries) in
        let owed : Owed =
        record { keys = lock_key l ∷ []; txns = job.txn ∷ later; tries = driver.nth; stage = going } in
        let is : full_owed s.policy.tidy ≡ owed =
        ap full_owed tests.1 ∙ ap (λ b. cond b owed (next_owed [] later going))
        (lt-ltb driver.nth s.policy.tries left) in
        to_tidying s v j jobs driver (front ++ t ∷ []) (tried_walk t (outcome.Full l) try full owed)
        (tried_follows t (outcome.Full l) try full owed (ap Some is)) refl policy_is some_try tries job here
        (key_at l.table l.key ∷ []) 0 true (λ retry. left) (omega arith)
        (record { keys_are = refl; txns_are = sym first; tries_are = refl; goes = refl })

    full_follows : (t : Tell) → IsTry job driver.nth (outcome.Full l) t
        → (IsTrue s.policy.tidy → FullEvent v j walk.parts t t.event) → Follows (on_full driver l) (t ∷ [])
    full_follows t try full =
        by_test (λ d. Follows d (t ∷ [])) ((driver.nth == driver.policy.tries) || not driver.policy.tidy)
        (retried driver) (tidying driver (key_at l.table l.key ∷ []) 0 true)
        (λ e. tries_again t (outcome.Full l) try full
        (ap Some (no_tidying (subst (λ p. ((driver.nth == p.tries) || not p.tidy) ≡ true) policy_is e))))
        (λ e. full_tidies t try full (subst (λ p. ((driver.nth == p.tries) || not p.tidy) ≡ false) policy_is e))

  -- 3. A commit: each written key is tidied

  module _ (number : ℕ) (t : Tell) (try : IsTry job driver.nth (outcome.Commit number) t)
      (full : IsTrue s.policy.tidy → FullEvent v j walk.parts t t.event) where
    abbrev commit_owed : Bool → Owed
    commit_owed tidy = next_owed (cond tidy (written_keys t.ops) []) later committed

    its_ops : t.ops ≡ job.ops
    its_ops = try.ops (ap (λ e. is_some (commit_in e)) try.event ∙ ap (λ o. is_some (number_in o)) try.outcome)

    commit_tidies : s.policy.tidy ≡ true → Follows (tidying driver (written_keys job.ops) 0 false) (t ∷ [])
    commit_tidies tidy =
        let owed = next_owed (written_keys job.ops) later committed in
        let is : commit_owed s.policy.tidy ≡ owed =
        ap commit_owed tidy ∙ ap (λ ops. next_owed (written_keys ops) later committed) its_ops in
        to_tidying s v j jobs driver (front ++ t ∷ []) (tried_walk t (outcome.Commit number) try full owed)
        (tried_follows t (outcome.Commit number) try full owed (ap Some is)) refl policy_is some_try tries job here
        (written_keys job.ops) 0 false (λ retry. absurd (false≢true retry)) (omega arith)
        (record { keys_are = refl; txns_are = refl; tries_are = refl; goes = refl })

    commit_leaves : s.policy.tidy ≡ false → Follows (next_job driver) (t ∷ [])
    commit_leaves none =
        let owed = next_owed [] later committed in
        to_next s v j jobs driver (front ++ t ∷ []) (tried_walk t (outcome.Commit number) try full owed)
        (tried_follows t (outcome.Commit number) try full owed (ap Some (ap commit_owed none))) refl policy_is some_try
        tries (record { keys_are = refl; txns_are = refl; tries_are = refl; goes = refl })

    commit_follows : Follows (on_commit jobs driver) (t ∷ [])
    commit_follows =
        by_test (λ d. Follows d (t ∷ [])) driver.policy.tidy
        (tidying driver (keys_of_job (slice_get jobs driver.job)) 0 false) (next_job driver)
        (λ e. subst (λ o. Follows (tidying driver (keys_of_job o) 0 false) (t ∷ [])) (sym here)
        (commit_tidies (sym (ap (λ p. p.tidy) policy_is) ∙ e)))
        (λ e. commit_leaves (sym (ap (λ p. p.tidy) policy_is) ∙ e))

  -- 4. By the answer; a call that passes tells nothing

  pub end_follows : (nth : ℕ) (end : TxnAnswer) (ts : List Tell) → TxnTells job driver.nth end ts
      → FullsAre s v j walk.parts ts → (ts ≡ [] → Follows (record driver { place = ToAsk (nth + 1) }) ts)
      → Follows (on_txn jobs driver nth end) ts
  end_follows nth (txn_answer.Value value) ts h fulls goes = goes h
  end_follows nth txn_answer.Written ts h fulls goes = goes h
  end_follows nth (txn_answer.Added n) ts h fulls goes = goes h
  end_follows nth txn_answer.Met ts h fulls goes = goes h
  end_follows nth (txn_answer.Committed number) ts h fulls goes =
      by_try (on_commit jobs driver) (outcome.Commit number) ts h fulls (commit_follows number)
  end_follows nth txn_answer.ReadOnly ts h fulls goes = leaves outcome.ReadOnly ts h fulls (λ t. refl)
  end_follows nth (txn_answer.TooOld worker entry horizon) ts h fulls goes =
      retries (outcome.TooOld worker entry horizon) ts h fulls (λ t. refl)
  end_follows nth (txn_answer.NoSpace table) ts h fulls goes = leaves (outcome.NoSpace table) ts h fulls (λ t. refl)
  end_follows nth txn_answer.Declined ts h fulls goes = leaves (outcome.Declined h.0) ts h.1 fulls (λ t. refl)
  end_follows nth txn_answer.Spent ts h fulls goes = leaves outcome.Spent ts h fulls (λ t. refl)
  end_follows nth (txn_answer.Locked lock) ts h fulls goes = retries (outcome.Locked lock) ts h fulls (λ t. refl)
  end_follows nth (txn_answer.Newer lock) ts h fulls goes = retries (outcome.Newer lock) ts h fulls (λ t. refl)
  end_follows nth (txn_answer.Full lock) ts h fulls goes =
      by_try (on_full driver lock) (outcome.Full lock) ts h fulls (full_follows lock)
  end_follows nth txn_answer.Astray ts h fulls goes = absurd h
