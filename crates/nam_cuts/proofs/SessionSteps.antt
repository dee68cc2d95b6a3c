-- What a session keeps with each word, however many calls it asks; and what a stop leaves of it.
use Rattle.std.proofs.Common.{◌≡◌, ℕ, zero, suc, ◌+◌, Bool, true, false, not, List, refl, sym, ◌∙◌, ap}
use Rattle.std.proofs.Common.{arith, Option, Some, None}
use Rattle.std.specs.Prelude.{◌==◌, ◌||◌, ◌&&◌, if◌then◌else◌, [], ◌∷◌, length, is_some, slice_get}
use Rattle.std.proofs.lemmas.Bool.{false≢true}
use Rattle.si_model.specs.declared.row.Key.{Key}
use Rattle.si_model.specs.Rows.{key_at}
use Rattle.si_model.specs.declared.log.Finish.{Finish}
use Rattle.si_model.specs.declared.op.Policy.{Policy}
use Rattle.nam_verbs.specs.declared.now.Now.{Now}
use Rattle.nam_verbs.specs.declared.now.Now.TheVariants.{At, Over}
use Rattle.nam_verbs.specs.VerbAt.{VerbAt}
use Rattle.nam_catalog.specs.declared.shape.Shape.{Shape}
use Rattle.nam_catalog.specs.Fits.{FitsLimits}
use Rattle.nam_layout.specs.declared.field.Field.{Field}
use Rattle.nam_calls.specs.declared.medic.MedicPoint.{MedicPoint}
use Rattle.nam_calls.specs.Medic.{medic_begin}
use Rattle.nam_calls.proofs.FallsTests.{either}
use Rattle.nam_protocol.specs.declared.client.Answer.{Answer}
use Rattle.nam_protocol.specs.declared.client.Answer.TheVariants as answer
use Rattle.nam_protocol.specs.declared.client.Call.{Call}
use Rattle.nam_protocol.specs.declared.client.CallPoint.{CallPoint}
use Rattle.nam_protocol.specs.declared.client.ClientState.{ClientState}
use Rattle.nam_protocol.specs.declared.session.DriverPoint.{DriverPoint}
use Rattle.nam_protocol.specs.declared.session.DriverPoint.TheVariants.{ToBegin, ToAsk, ToTidy, ToCollect}
use Rattle.nam_protocol.specs.declared.session.DriverState.{DriverState}
use Rattle.nam_protocol.specs.declared.session.Job.{Job}
use Rattle.nam_protocol.specs.declared.session.SessionState.{SessionState}
use Rattle.nam_protocol.specs.declared.txn.TxnAnswer.{TxnAnswer}
use Rattle.nam_protocol.specs.declared.txn.TxnAnswer.TheVariants as txn_answer
use Rattle.nam_protocol.specs.Client.{client_after, client_ask, client_verb, verb_of}
use Rattle.nam_protocol.specs.Commit.{has_intents}
use Rattle.nam_protocol.specs.CutClient.{finish_of}
use Rattle.nam_protocol.specs.Driver.{driver_next, next_job, next_try, on_begin, on_tidy}
use Rattle.nam_protocol.specs.Driver.{keys_of_job, new_driver, on_ask, on_txn, place_taken, retried, tidying}
use Rattle.nam_protocol.specs.Telling.{new_client}
use Rattle.nam_protocol.specs.Session.{new_session, verb_by}
use Rattle.nam_protocol.specs.Session.{after_by, answer_now, call_taken, calls_at_most, cut_in, has_ended, jobs_over}
use Rattle.nam_protocol.specs.Session.{session_after, session_cut, session_verb, settle, stopped, taken, treated}
use Rattle.nam_protocol.specs.SessionFits.{SessionFits, is_running}
use Rattle.nam_protocol.proofs.EndsSession.{by_medic, uncut_of}
use Rattle.nam_protocol.proofs.EndsSettled.{sessions_settle}
use Rattle.nam_cuts.proofs.ClientSteps.{ClientGoes, asked_goes, snaps_spent, word_goes}

-- 1. A driver keeps its policy

module _ (policy : Policy) where
  abbrev Keeps : DriverState → Type 0
  Keeps driver = driver.policy ≡ policy

  module _ (driver : DriverState) (is : Keeps driver) where
    retried_keeps : Keeps (retried driver)
    retried_keeps = either Keeps (driver.nth == driver.policy.tries) (next_job driver) (next_try driver) is is

    tidying_keeps : (keys : List Key) (nth : ℕ) (retry : Bool) → Keeps (tidying driver keys nth retry)
    tidying_keeps keys nth retry =
        either Keeps (nth == length keys) (if retry then next_try driver else next_job driver) _
        (either Keeps retry (next_try driver) (next_job driver) is is) is

    txn_keeps : (jobs : List Job) (nth : ℕ) (end : TxnAnswer) → Keeps (on_txn jobs driver nth end)
    txn_keeps jobs nth (txn_answer.Value value) = is
    txn_keeps jobs nth txn_answer.Written = is
    txn_keeps jobs nth (txn_answer.Added n) = is
    txn_keeps jobs nth txn_answer.Met = is
    txn_keeps jobs nth (txn_answer.Committed number) =
        let keys = keys_of_job (slice_get jobs driver.job) in
        either Keeps driver.policy.tidy (tidying driver keys 0 false) (next_job driver) (tidying_keeps keys 0 false) is
    txn_keeps jobs nth txn_answer.ReadOnly = is
    txn_keeps jobs nth (txn_answer.TooOld worker entry horizon) = retried_keeps
    txn_keeps jobs nth (txn_answer.NoSpace table) = is
    txn_keeps jobs nth txn_answer.Declined = is
    txn_keeps jobs nth txn_answer.Spent = is
    txn_keeps jobs nth (txn_answer.Locked lock) = retried_keeps
    txn_keeps jobs nth (txn_answer.Newer lock) = retried_keeps
    txn_keeps jobs nth (txn_answer.Full lock) =
        let keys = key_at lock.table lock.key ∷ [] in
        either Keeps ((driver.nth == driver.policy.tries) || not driver.policy.tidy) (retried driver)
        (tidying driver keys 0 true) retried_keeps (tidying_keeps keys 0 true)
    txn_keeps jobs nth txn_answer.Astray = is

    begin_keeps : (end : Answer) → Keeps (on_begin driver end)
    begin_keeps (answer.Begun prefix) = is
    begin_keeps _ = retried_keeps

    ask_keeps : (jobs : List Job) (nth : ℕ) (end : Answer) → Keeps (on_ask jobs driver nth end)
    ask_keeps jobs nth (answer.Txn end) = txn_keeps jobs nth end
    ask_keeps jobs nth _ = is

    tidy_keeps : (keys : List Key) (nth : ℕ) (again retry : Bool) (end : Answer)
        → Keeps (on_tidy driver keys nth again retry end)
    tidy_keeps keys nth false retry (answer.NoRoom bucket) = is
    tidy_keeps keys nth true retry end = tidying_keeps keys (nth + 1) retry
    tidy_keeps keys nth false retry _ = tidying_keeps keys (nth + 1) retry

    take_keeps : (jobs : List Job) (place : DriverPoint) (end : Answer) → Keeps (place_taken jobs driver place end)
    take_keeps jobs ToBegin end = begin_keeps end
    take_keeps jobs (ToAsk nth) end = ask_keeps jobs nth end
    take_keeps jobs (ToTidy keys nth again retry) end = tidy_keeps keys nth again retry end
    take_keeps jobs (ToCollect bucket keys nth retry) end = is

-- 2. Words

module _ (shape : Shape) where
  -- from one session to another, with so many verbs of its client between
  pub record SessionGoes (verbs : ℕ) (before after : SessionState) : Type 0 where
    pub client : ClientGoes shape verbs before.client after.client
    pub jobs : after.jobs ≡ before.jobs
    pub policy : after.driver.policy ≡ before.driver.policy

  same_goes : (verbs : ℕ) (session : SessionState) → SessionGoes verbs session session
  same_goes verbs session = record {
    client = record { cut = refl; tells = λ h. h; spent = omega arith };
    jobs = refl;
    policy = refl;
  }

  goes_trans : (verbs : ℕ) (a b c : SessionState) → SessionGoes verbs a b → SessionGoes 0 b c → SessionGoes verbs a c
  goes_trans verbs a b c f g = record {
    client = record {
      cut = g.client.cut ∙ f.client.cut;
      tells = λ h. g.client.tells (f.client.tells h);
      spent = (let l = f.client.spent in let m = g.client.spent in omega arith);
    };
    jobs = g.jobs ∙ f.jobs;
    policy = g.policy ∙ f.policy;
  }

  abbrev Settles : ℕ → Type 0
  Settles calls = (session : SessionState) → SessionGoes 0 session (settle shape calls session)

  answered_goes : (verbs calls : ℕ) (session : SessionState) (client : ClientState)
      → ClientGoes shape verbs session.client client → Settles calls → (end : Option Answer)
      → SessionGoes verbs session (elim end [
        | None ↦ record session { client = client }
        | Some answer ↦ settle shape calls (taken session client answer)
      ])
  answered_goes verbs calls session client goes later None = record { client = goes; jobs = refl; policy = refl }
  answered_goes verbs calls session client goes later (Some end) =
      goes_trans verbs session (taken session client end) (settle shape calls (taken session client end))
      record {
        client = goes;
        jobs = refl;
        policy = take_keeps session.driver.policy session.driver refl session.jobs session.driver.place end;
      }
      (later (taken session client end))

  next_goes : (calls : ℕ) (session : SessionState) → Settles calls → (call : Option Call)
      → SessionGoes 0 session (elim call [
        | None ↦ session
        | Some call ↦ elim (answer_now (client_ask shape session.client call).call) [
          | None ↦ record session { client = client_ask shape session.client call }
          | Some answer ↦ settle shape calls (taken session (client_ask shape session.client call) answer)
        ]
      ])
  next_goes calls session later None = same_goes 0 session
  next_goes calls session later (Some call) =
      let client = client_ask shape session.client call in
      answered_goes 0 calls session client (asked_goes shape session.client call) later (answer_now client.call)

  settle_goes : (calls : ℕ) → Settles calls
  unfolding settle
  settle_goes zero session = same_goes 0 session
  settle_goes (suc calls) session =
      next_goes calls session (settle_goes calls) (driver_next session.jobs session.driver)

  pub call_goes : (session : SessionState) (found : ℕ) → SessionGoes 1 session (call_taken shape session found)
  call_goes session found =
      let client = client_after shape session.client found in
      answered_goes 1 (calls_at_most session.jobs) session client (word_goes shape session.client found)
      (settle_goes (calls_at_most session.jobs)) (answer_now client.call)

  -- a new session has asked its first call
  pub new_goes : (worker start : ℕ) (jobs : List Job) (policy : Policy)
      → SessionGoes 0 record { client = new_client worker start; driver = new_driver policy; jobs = jobs }
      (new_session shape (new_client worker start) jobs policy)
  new_goes worker start jobs policy =
      settle_goes (calls_at_most jobs)
      record { client = new_client worker start; driver = new_driver policy; jobs = jobs }

  treated_goes : (verbs : ℕ) (session : SessionState) (medic : Now MedicPoint Finish)
      → SessionGoes verbs session (treated session medic)
  treated_goes verbs session medic = record {
    client = record { cut = refl; tells = λ h. h; spent = omega arith };
    jobs = refl;
    policy = refl;
  }

  pub after_goes : (session : SessionState) (found : ℕ) → SessionGoes 1 session (session_after shape session found)
  after_goes session found = by session.client.medic
    where
      by : (medic : Option (Now MedicPoint Finish)) → SessionGoes 1 session (after_by shape session found medic)
      by None = call_goes session found
      by (Some (At place)) = treated_goes 1 session _
      by (Some (Over how)) = same_goes 1 session

  -- the medic's word leaves the client and the driver as they were
  pub record Treats (session after : SessionState) : Type 0 where
    pub goes : SessionGoes 0 session after
    pub call : after.client.call ≡ session.client.call
    pub driver : after.driver ≡ session.driver

  cut_has_none : (client : ClientState) (verb : VerbAt Field) → client.cut ≡ true
      → client_verb shape client ≡ Some verb → ⊥
  cut_has_none client verb cut e =
      let none : client_verb shape client ≡ None =
      ap (λ c. if c then None else verb_of shape client client.call) cut in
      cc

  pub medic_treats : FitsLimits shape → (session : SessionState) (verb : VerbAt Field) (found : ℕ)
      → session.client.cut ≡ true → session_verb shape session ≡ Some verb
      → Treats session (session_after shape session found)
  medic_treats limits session verb found cut e =
      by_medic shape limits session verb found (Treats session) e
      (λ none stands. absurd (cut_has_none session.client verb cut stands))
      (λ place is. record { goes = treated_goes 0 session _; call = refl; driver = refl })

  -- where the verb is the client's its call runs
  verb_runs : (client : ClientState) (now : Option (Now CallPoint Answer)) (verb : VerbAt Field)
      → verb_of shape client now ≡ Some verb → is_running now ≡ true
  verb_runs client None verb e = absurd (cc)
  verb_runs client (Some (At place)) verb e = refl
  verb_runs client (Some (Over end)) verb e = absurd (cc)

  pub uncut_runs : (session : SessionState) (verb : VerbAt Field) → SessionFits shape session
      → session.client.cut ≡ false → session_verb shape session ≡ Some verb → is_running session.client.call ≡ true
  uncut_runs session verb fits uncut e =
      let client = session.client in
      let medic = (uncut_of shape session fits uncut).1 in
      verb_runs client client.call verb
      (sym (ap (λ (c : Bool). if c then None else verb_of shape client client.call) uncut)
      ∙ sym (ap (λ m. verb_by shape session m) medic) ∙ e)

-- 3. A stop

-- the log, the call, the jobs and the driver are as they were
pub record Leaves (shape : Shape) (session after : SessionState) : Type 0 where
  pub log : after.client.log ≡ session.client.log
  pub call : after.client.call ≡ session.client.call
  pub spent : snaps_spent shape after.client ≡ snaps_spent shape session.client
  pub jobs : after.jobs ≡ session.jobs
  pub driver : after.driver ≡ session.driver

not_or : (a b : Bool) → not (a || b) ≡ true → a ≡ false
not_or true b e = absurd (false≢true e)
not_or false b e = refl

or_false : (a b : Bool) → a ≡ false → b ≡ false → (a || b) ≡ false
or_false true b e f = e
or_false false b e f = f

module _ (shape : Shape) (session : SessionState) where
  pub stop_leaves : Leaves shape session (session_cut shape.form session)
  stop_leaves =
      let same : Leaves shape session session =
      record { log = refl; call = refl; spent = refl; jobs = refl; driver = refl } in
      let stop : Leaves shape session (stopped session) =
      record { log = refl; call = refl; spent = refl; jobs = refl; driver = refl } in
      let held : Leaves shape session (treated (stopped session) (At medic_begin)) =
      record { log = refl; call = refl; spent = refl; jobs = refl; driver = refl } in
      either (Leaves shape session) (jobs_over session || session.client.cut) session (cut_in shape.form session) same
      (either (Leaves shape session) (has_intents shape.form) (treated (stopped session) (At medic_begin))
      (stopped session) held stop)

  -- a session with a verb to come that is stopped is cut
  pub stop_cuts : SessionFits shape session → session.client.cut ≡ false → (verb : VerbAt Field)
      → session_verb shape session ≡ Some verb → (session_cut shape.form session).client.cut ≡ true
  stop_cuts fits uncut verb e =
      let some = ap (λ (v : Option (VerbAt Field)). is_some v) (sym e) ∙ sessions_settle shape session fits in
      let ended = not_or (has_ended session) (session.client.cut && not (has_intents shape.form)) (sym some) in
      let over : jobs_over session ≡ false =
      sym (ap (λ (c : Bool). if c then is_some (finish_of session.client.medic) else jobs_over session) uncut)
      ∙ ended in
      let test = or_false (jobs_over session) session.client.cut over uncut in
      let is = ap (λ (b : Bool). if b then session else cut_in shape.form session) test in
      ap (λ (s : SessionState). s.client.cut) is
      ∙ either (λ (s : SessionState). s.client.cut ≡ true) (has_intents shape.form)
      (treated (stopped session) (At medic_begin)) (stopped session) refl refl
