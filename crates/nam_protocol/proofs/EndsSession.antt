-- A session that settles fits, and the number of its verbs to come falls with each word.
use Rattle.std.proofs.Common.{◌≡◌, ℕ, zero, suc, ◌+◌, ◌-◌, ◌*◌, ◌<◌, ◌≤◌, List, [], ◌∷◌, length, drop, take, refl, sym}
use Rattle.std.proofs.Common.{◌∙◌, ap, subst, arith, Bool, true, false, not, Option, Some, None}
use Rattle.std.specs.Prelude.{◌&&◌, if◌then◌else◌, slice_get, is_some, IsSome}
use Rattle.std.specs.List.{AllByRecursion}
use Rattle.std.proofs.lemmas.Bool.{false≢true}
use Rattle.std.proofs.lemmas.List.{length-map}
use Rattle.si_model.specs.declared.log.Finish.{Finish}
use Rattle.si_model.specs.declared.op.Op.{Op}
use Rattle.si_model.specs.declared.op.Policy.{Policy}
use Rattle.si_model.specs.Rows.{key_at}
use Rattle.si_model.specs.Evaluation.{OpFits, op_key}
use Rattle.si_model.specs.EvaluationLaws.{is_scan}
use Rattle.si_model.specs.declared.op.Op.TheVariants as op
use Rattle.nam_verbs.specs.declared.now.Now.{Now}
use Rattle.nam_verbs.specs.declared.now.Now.TheVariants.{At, Over}
use Rattle.nam_verbs.specs.Falls.{Falls, Any}
use Rattle.nam_verbs.specs.VerbAt.{VerbAt}
use Rattle.nam_catalog.specs.declared.shape.Table.{Table}
use Rattle.nam_catalog.specs.declared.shape.Shape.{Shape}
use Rattle.nam_catalog.specs.Fits.{FitsLimits}
use Rattle.nam_catalog.specs.Greatest.{greatest_number}
use Rattle.nam_catalog.specs.Tables.{widths_of}
use Rattle.nam_layout.specs.declared.field.Field.{Field}
use Rattle.nam_calls.specs.declared.medic.MedicPoint.{MedicPoint}
use Rattle.nam_calls.specs.Fits.{IsOf, IsTableOf}
use Rattle.nam_calls.specs.Medic.{medic_after}
use Rattle.nam_calls.specs.MedicFits.{MedicFits}
use Rattle.nam_calls.specs.MedicLeft.{medic_left}
use Rattle.nam_calls.specs.Holds.{IsWord}
use Rattle.nam_calls.specs.Words.{key_word}
use Rattle.nam_calls.proofs.FallsTests.{either}
use Rattle.nam_calls.proofs.MedicFalls.{falls_law}
use Rattle.nam_protocol.specs.declared.txn.TxnCall.{TxnCall}
use Rattle.nam_protocol.specs.declared.txn.TxnCall.TheVariants.{Get, Put, Add, Del, Need, Guard, Commit}
use Rattle.nam_protocol.specs.declared.client.Call.TheVariants.{Begin, Txn, Scan, Tidy, Collect}
use Rattle.nam_protocol.specs.declared.client.Answer.{Answer}
use Rattle.nam_protocol.specs.declared.client.CallPoint.{CallPoint}
use Rattle.nam_protocol.specs.declared.client.Open.{Open}
use Rattle.nam_protocol.specs.declared.client.ClientState.{ClientState}
use Rattle.nam_protocol.specs.declared.session.Job.{Job}
use Rattle.nam_protocol.specs.declared.session.DriverPoint.{DriverPoint}
use Rattle.nam_protocol.specs.declared.session.DriverPoint.TheVariants.{ToBegin, ToAsk, ToTidy, ToCollect}
use Rattle.nam_protocol.specs.declared.session.SessionState.{SessionState}
use Rattle.nam_protocol.specs.Txn.{ask_op}
use Rattle.nam_protocol.specs.Commit.{ask_commit}
use Rattle.nam_protocol.specs.Telling.{new_client, stepped}
use Rattle.nam_protocol.specs.Client.{with_call, ask_txn, ask_scan, client_ask, verb_of, call_after, after_call}
use Rattle.nam_protocol.specs.Client.{client_after, client_verb}
use Rattle.nam_protocol.specs.Driver.{new_driver, call_of, op_call, key_number, place_call, job_call}
use Rattle.nam_protocol.specs.Driver.{driver_take}
use Rattle.nam_protocol.specs.Session.{answer_now, calls_at_most, taken, settle, new_session, session_verb}
use Rattle.nam_protocol.specs.Commit.{has_intents}
use Rattle.nam_protocol.specs.Session.{verb_by, after_by, call_taken, session_after, treated}
use Rattle.nam_protocol.specs.Bound.{op_bound}
use Rattle.nam_protocol.specs.Left.{left_of, client_left, commit_bound, try_bound, jobs_bound, after_call_bound}
use Rattle.nam_protocol.specs.Left.{rest_bound, left_by, medic_room, session_left}
use Rattle.nam_protocol.specs.AttemptLaw.{HasAsked}
use Rattle.nam_protocol.specs.TxnFits.{IsKeyOf, StateFits, OpStands, TxnCallFits, txn_call_bound}
use Rattle.nam_protocol.specs.ClientFits.{OpenFits, NowFits, CallPointFits, ClientFits, OpenCallFits, open_bound}
use Rattle.nam_protocol.specs.SessionFits.{OpenAsked, NowRuns, is_running, ops_of, OpsFit, JobFits, DriverPointFits}
use Rattle.nam_protocol.specs.SessionFits.{DriverFits, MedicStands, SessionFits}
use Rattle.nam_protocol.specs.EndsLaw.{FitsWithin}
use Rattle.nam_protocol.proofs.FallsKeys.{all_at}
use Rattle.nam_protocol.proofs.JobKeys.{op_has_room}
use Rattle.nam_protocol.proofs.FallsAttempt.{ask_asks, attempt_bound}
use Rattle.nam_protocol.proofs.FallsClient.{client_falls, client_begins}
use Rattle.nam_protocol.proofs.RunsTxn.{ask_of, ask_commit_runs}
use Rattle.nam_protocol.proofs.RunsClient.{IsAnswered, NowDoes, ClientDoes, stepped_does, commit_does, word_does}
use Rattle.nam_protocol.proofs.RunsClient.{take_past}
use Rattle.nam_protocol.proofs.EndsDriver.{call_most, pending, calls_from, calls_after, AsksFrom, GoesOn}
use Rattle.nam_protocol.proofs.EndsDriver.{begins_pending}
use Rattle.nam_protocol.proofs.EndsDriver.{takes, drop_from, drop_over}
use Rattle.nam_protocol.proofs.StaysLemmas.{IsUncut, still_uncut, word_stays, asked_stays}

-- 1. Lists and tests

pub nth_holds : {A : Type 0} (P : A → Type 0) (xs : List A) (n : ℕ) (x : A) → AllByRecursion P xs
    → slice_get xs n ≡ Some x → P x
nth_holds P [] n x all e = absurd (cc)
nth_holds P (y ∷ ys) zero x all e = let same : y ≡ x = cc in subst P same all.0
nth_holds P (y ∷ ys) (suc n) x all e = nth_holds P ys n x all.1 e

pub some_of : {A : Type 0} (o : Option A) → is_some o ≡ true → (x : A) × (o ≡ Some x)
some_of None e = absurd (false≢true e)
some_of (Some x) e = (x, refl)

pub none_of : {A : Type 0} (o : Option A) → not (is_some o) ≡ true → o ≡ None
none_of None e = refl
none_of (Some x) e = absurd (false≢true e)

pub none_at : {A : Type 0} (o : Option A) → is_some o ≡ false → o ≡ None
none_at None e = refl
none_at (Some x) e = absurd (false≢true (sym e))

none_unless : (cut : Bool) (n : ℕ) → n ≡ 0 → (if cut then 0 else n) ≡ 0
none_unless true n e = refl
none_unless false n e = e

-- no more calls follow one another than the session may ask
calls_least : (jobs : List Job) → 2 ≤ calls_at_most jobs
calls_least [] = omega arith
calls_least (job ∷ jobs) = let l = calls_least jobs in omega arith

calls_suffice : (jobs : List Job) (n : ℕ) (job : Job) → slice_get jobs n ≡ Some job
    → length job.ops + 2 ≤ calls_at_most jobs
calls_suffice [] n job e = absurd (cc)
calls_suffice (j ∷ jobs) zero job e =
    let same : j ≡ job = cc in
    let l = calls_least jobs in
    subst (λ (x : Job). length x.ops + 2 ≤ length j.ops + calls_at_most jobs) same (omega arith)
calls_suffice (j ∷ jobs) (suc n) job e = let l = calls_suffice jobs n job e in omega arith

module _ (shape : Shape) where
  calls_start : (ops : List Op) (place : DriverPoint) → 1 ≤ calls_from shape ops place
  calls_start ops ToBegin = omega arith
  calls_start ops (ToAsk nth) = omega arith
  calls_start ops (ToTidy keys nth again retry) = omega arith
  calls_start ops (ToCollect bucket keys nth retry) = omega arith

  calls_after_most : (ops : List Op) (place : DriverPoint) → calls_after shape ops place ≤ length ops + 2
  calls_after_most ops ToBegin = omega arith
  calls_after_most ops (ToAsk nth) = omega arith
  calls_after_most ops (ToTidy keys nth again retry) = omega arith
  calls_after_most ops (ToCollect bucket keys nth retry) = omega arith

  -- where a call was answered, no more calls follow than these
  abbrev pub Few : List Op → DriverPoint → ℕ → Option (Now CallPoint Answer) → Type 0
  Few ops place calls (Some (Over end)) = calls_after shape ops place ≤ calls
  Few ops place calls _ = Unit {0}

  few_any : (ops : List Op) (place : DriverPoint) (calls : ℕ) (now : Option (Now CallPoint Answer))
      → calls_after shape ops place ≤ calls → Few ops place calls now
  few_any ops place calls None l = tt
  few_any ops place calls (Some (At at)) l = tt
  few_any ops place calls (Some (Over end)) l = l

  -- 2. A call is asked

  pub is_open : (ops : List Op) (opened : Option Open) → OpenAsked opened ops → IsSome opened
  is_open ops None asked = absurd asked
  is_open ops (Some attempt) asked = refl

  module _ (ops : List Op) (nth : ℕ) (o : Op) (here : slice_get ops nth ≡ Some o) (fit : OpsFit shape ops) where
    op_is : OpFits (widths_of shape.tables) o
    op_is = nth_holds (OpFits (widths_of shape.tables)) ops nth o fit.fit here

    -- the operation of a scan is on a table
    pub on_table : (table low high : ℕ) → o ≡ op.Scan table low high → IsTableOf shape table
    on_table table low high is =
        let e = length-map shape.tables (λ (t : Table). t.width) in
        let l = (subst (OpFits (widths_of shape.tables)) is op_is).0 in
        omega arith

    -- an operation on one key
    pub on_key : is_scan o ≡ false → (attempt : Open) → StateFits shape attempt.state
        → HasAsked attempt.state (take nth ops) → OpStands shape attempt.state.claims o
    on_key one attempt f a = (
      op_is,
      one,
      nth_holds (λ op. IsWord (key_word (op_key op).key)) ops nth o fit.keys here,
      op_has_room shape attempt.state ops nth f a o here fit.few,
    )

  module _ (limits : FitsLimits shape) (client : ClientState) (fits : ClientFits shape client) (ops : List Op) where
    -- the client after the call: it fits, with no more verbs to come than the call takes
    pub record Asked (place : DriverPoint) (calls : ℕ) (after : ClientState) : Type 0 where
      pub stands : ClientFits shape after
      pub within : client_left shape after ≤ call_most shape ops place
      pub does : ClientDoes shape place ops after
      pub few : Few ops place calls after.call

    module _ (nth : ℕ) (asked : OpenAsked client.txn (take nth ops)) (calls : ℕ)
        (few : length ops - nth + 1 ≤ calls) where
      commit_fits : (opened : Option Open) → OpenAsked opened ops → OpenCallFits shape opened Commit
      commit_fits None a = absurd a
      commit_fits (Some attempt) a = tt

      commit_within : (opened : Option Open) → OpenAsked opened ops
          → open_bound shape opened Commit ≤ commit_bound shape ops
      commit_within None a = absurd a
      commit_within (Some attempt) a = let e = attempt_bound shape attempt.state ops a in omega arith

      commit_does_it : (here : slice_get ops nth ≡ None) (opened : Option Open) → OpenAsked opened ops
          → ClientDoes shape (ToAsk nth) ops (ask_txn shape client Commit opened)
      commit_does_it here None a = absurd a
      commit_does_it here (Some attempt) a =
          commit_does shape ops nth here client attempt 0 (ask_commit shape attempt.state)
          (ask_commit_runs shape ops attempt.state a)

      asks_commit : slice_get ops nth ≡ None → Asked (ToAsk nth) calls (client_ask shape client (Txn Commit))
      asks_commit here =
          let all = subst (OpenAsked client.txn) (take_past ops nth here) asked in
          let b = client_begins shape limits client (Txn Commit) fits (commit_fits client.txn all) in
          record {
            stands = b.0;
            within = rw here (let l = commit_within client.txn all in let m = b.1 in omega arith);
            does = commit_does_it here client.txn all;
            few = few_any ops (ToAsk nth) calls _ few;
          }

      does_op : (op : Op) → slice_get ops nth ≡ Some op → (attempt again : Open) → HasAsked attempt.state (take nth ops)
          → ClientDoes shape (ToAsk nth) ops (stepped client again 0 (ask_op shape attempt.state op))
      does_op op here attempt again a =
          stepped_does shape ops nth op here client again 0 (ask_op shape attempt.state op)
          (ask_asks shape attempt.state (take nth ops) op a) (ask_of shape attempt.state op)

      module _ (op : Op) (call : TxnCall) (here : slice_get ops nth ≡ Some op)
          (stands : (attempt : Open) → StateFits shape attempt.state → HasAsked attempt.state (take nth ops)
          → TxnCallFits shape attempt.state call)
          (most : (attempt : Open) → txn_call_bound shape attempt.state call ≤ op_bound shape op)
          (does : (attempt : Open) → HasAsked attempt.state (take nth ops)
          → ClientDoes shape (ToAsk nth) ops (ask_txn shape client call (Some attempt))) where
        op_within : (opened : Option Open) → OpenAsked opened (take nth ops)
            → open_bound shape opened call ≤ op_bound shape op
        op_within None a = absurd a
        op_within (Some attempt) a = most attempt

        op_does_it : (opened : Option Open) → OpenAsked opened (take nth ops)
            → ClientDoes shape (ToAsk nth) ops (ask_txn shape client call opened)
        op_does_it None a = absurd a
        op_does_it (Some attempt) a = does attempt a

        op_stands : (opened : Option Open) → OpenFits shape opened → OpenAsked opened (take nth ops)
            → OpenCallFits shape opened call
        op_stands None f a = absurd a
        op_stands (Some attempt) f a = stands attempt f a

        asks_txn : Asked (ToAsk nth) calls (client_ask shape client (Txn call))
        asks_txn =
            let b = client_begins shape limits client (Txn call) fits (op_stands client.txn fits.1 asked) in
            record {
              stands = b.0;
              within = rw here (let l = op_within client.txn asked in let m = b.1 in omega arith);
              does = op_does_it client.txn asked;
              few = few_any ops (ToAsk nth) calls _ few;
            }

      scan_does : (table low high : ℕ) → slice_get ops nth ≡ Some (op.Scan table low high) → (opened : Option Open)
          → OpenAsked opened (take nth ops)
          → ClientDoes shape (ToAsk nth) ops (ask_scan shape client table low high opened)
      scan_does table low high here None a = absurd a
      scan_does table low high here (Some attempt) a = (a, here)

      asks_scan : (table low high : ℕ) → slice_get ops nth ≡ Some (op.Scan table low high) → IsTableOf shape table
          → Asked (ToAsk nth) calls (client_ask shape client (Scan table low high))
      asks_scan table low high here is =
          let b = client_begins shape limits client (Scan table low high) fits
          (is_open (take nth ops) client.txn asked, is) in
          record {
            stands = b.0;
            within = rw here (let m = b.1 in omega arith);
            does = scan_does table low high here client.txn asked;
            few = few_any ops (ToAsk nth) calls _ few;
          }

      asks_op : (o : Op) → slice_get ops nth ≡ Some o → OpsFit shape ops
          → Asked (ToAsk nth) calls (client_ask shape client (call_of o))
      asks_op (op.Get t k) here f =
          asks_txn (op.Get t k) (Get t k) here (on_key ops nth (op.Get t k) here f refl) (λ attempt. omega arith)
          (λ attempt a. does_op (op.Get t k) here attempt (with_call attempt (Get t k)) a)
      asks_op (op.Put t k v) here f =
          asks_txn (op.Put t k v) (Put t k v) here (on_key ops nth (op.Put t k v) here f refl) (λ attempt. omega arith)
          (λ attempt a. does_op (op.Put t k v) here attempt (with_call attempt (Put t k v)) a)
      asks_op (op.Add t k i up by) here f =
          asks_txn (op.Add t k i up by) (Add t k i up by) here (on_key ops nth (op.Add t k i up by) here f refl)
          (λ attempt. omega arith)
          (λ attempt a. does_op (op.Add t k i up by) here attempt (with_call attempt (Add t k i up by)) a)
      asks_op (op.Del t k) here f =
          asks_txn (op.Del t k) (Del t k) here (on_key ops nth (op.Del t k) here f refl) (λ attempt. omega arith)
          (λ attempt a. does_op (op.Del t k) here attempt (with_call attempt (Del t k)) a)
      asks_op (op.Need t k i least) here f =
          asks_txn (op.Need t k i least) (Need t k i least) here (on_key ops nth (op.Need t k i least) here f refl)
          (λ attempt. omega arith)
          (λ attempt a. does_op (op.Need t k i least) here attempt (with_call attempt (Need t k i least)) a)
      asks_op (op.Guard t k) here f =
          asks_txn (op.Guard t k) (Guard t k) here (on_key ops nth (op.Guard t k) here f refl) (λ attempt. omega arith)
          (λ attempt a. does_op (op.Guard t k) here attempt (with_call attempt (Guard t k)) a)
      asks_op (op.Scan t low high) here f =
          asks_scan t low high here (on_table ops nth (op.Scan t low high) here f t low high refl)

      asks_next : (o : Option Op) → slice_get ops nth ≡ o → OpsFit shape ops
          → Asked (ToAsk nth) calls (client_ask shape client (op_call o))
      asks_next None here fit = asks_commit here
      asks_next (Some o) here fit = asks_op o here fit

    pub asks : (txn try tries : ℕ) (place : DriverPoint) (calls : ℕ) → DriverPointFits shape tries try place
        → AsksFrom shape place ops client.txn
        → OpsFit shape ops
        → calls_from shape ops place ≤ suc calls
        → Asked place calls (client_ask shape client (place_call record { txn = txn; ops = ops } try place))
    asks txn try tries ToBegin calls d a fit few =
        let b = client_begins shape limits client (Begin txn try) fits tt in
        record { stands = b.0; within = b.1; does = tt; few = tt }
    asks txn try tries (ToAsk nth) calls d a fit few =
        asks_next nth a calls (omega arith) (slice_get ops nth) refl fit
    asks txn try tries (ToTidy keys nth again retry) calls d a fit few =
        let key = key_number keys nth in
        let b = client_begins shape limits client (Tidy key.table key.key) fits
        (all_at (IsKeyOf shape) (key_at 0 0) keys nth d.0 d.1) in
        record { stands = b.0; within = b.1; does = tt; few = tt }
    asks txn try tries (ToCollect bucket keys nth retry) calls d a fit few =
        let b = client_begins shape limits client (Collect bucket) fits d.0 in
        record { stands = b.0; within = b.1; does = tt; few = tt }

  -- 3. A session whose call was answered

  pub record IsReady (session : SessionState) : Type 0 where
    pub client : ClientFits shape session.client
    pub jobs : AllByRecursion (JobFits shape) session.jobs
    pub driver : DriverFits shape session.driver
    pub asks : AsksFrom shape session.driver.place
        (ops_of (slice_get session.jobs session.driver.job)) session.client.txn
    pub rests : is_running session.client.call ≡ false
    pub uncut : IsUncut session.client

  -- a session that isn't cut has no medic
  abbrev room : ℕ
  room = medic_room shape.form

  no_medic : (client : ClientState) → IsUncut client → MedicStands shape client.medic
  no_medic client uncut = subst (MedicStands shape) (sym uncut.1) tt

  not_treated : (client : ClientState) → IsUncut client → is_some client.medic ≡ (client.cut && has_intents shape.form)
  not_treated client uncut =
      ap (λ (medic : Option (Now MedicPoint Finish)). is_some medic) uncut.1
      ∙ sym (ap (λ cut. cut && has_intents shape.form) uncut.0)

  pub uncut_of : (session : SessionState) → SessionFits shape session → session.client.cut ≡ false
      → IsUncut session.client
  uncut_of session fits uncut =
      (uncut, none_at session.client.medic (fits.treats ∙ ap (λ cut. cut && has_intents shape.form) uncut))

  abbrev next_calls : SessionState → ℕ
  next_calls session =
      calls_from shape (ops_of (slice_get session.jobs session.driver.job)) session.driver.place

  abbrev to_come : SessionState → ℕ
  to_come session = pending shape session.driver (drop session.driver.job session.jobs)

  -- so many calls suffice, after which no more verbs are to come than were left
  abbrev Suffices : ℕ → Type 0
  Suffices calls = (session : SessionState) → IsReady session → next_calls session ≤ calls
      → FitsWithin shape (to_come session + room) (settle shape calls session)

  left_most : (session : SessionState) (n m : ℕ) → IsUncut session.client → client_left shape session.client ≤ n
      → rest_bound shape session.driver (drop session.driver.job session.jobs) ≤ m
      → session_left shape session ≤ n + m + room
  left_most session n m uncut l r =
      subst (λ medic. left_by shape session medic ≤ n + m + room) (sym uncut.1)
      (either (λ k. k ≤ n + m + room) session.client.cut 0
      (client_left shape session.client + rest_bound shape session.driver (drop session.driver.job session.jobs) + room)
      (omega arith) (omega arith))

  -- 4. The client has been asked, or has taken a word

  module _ (session : SessionState) (jobs : AllByRecursion (JobFits shape) session.jobs)
      (driver : DriverFits shape session.driver) (job : Job)
      (here : slice_get session.jobs session.driver.job ≡ Some job) where
    abbrev rest_here : ℕ
    rest_here = rest_bound shape session.driver (drop session.driver.job session.jobs)

    -- its answer is taken
    answer_taken : (client : ClientState) (end : Answer)
        → IsAnswered shape session.driver.place job.ops client.txn end
        → GoesOn shape session.jobs client.txn
        (after_call_bound shape job.ops session.driver.place
        + (session.driver.policy.tries - session.driver.nth) * try_bound shape job.ops
        + jobs_bound shape session.driver.policy (drop (session.driver.job + 1) session.jobs))
        (calls_after shape job.ops session.driver.place) (driver_take session.jobs session.driver end)
    answer_taken client end does =
        takes shape session.jobs client.txn session.driver job here driver.0 driver.1
        (nth_holds (JobFits shape) session.jobs session.driver.job job jobs here) session.driver.place end driver.2 does

    pub taken_ready : (client : ClientState) (end : Answer) → ClientFits shape client → IsUncut client
        → client.call ≡ Some (Over end)
        → IsAnswered shape session.driver.place job.ops client.txn end
        → IsReady (taken session client end)
    taken_ready client end fits uncut e does =
        let g = answer_taken client end does in
        record { client = fits; jobs = jobs; driver = g.fits; asks = g.asks; rests = ap is_running e; uncut = uncut }

    goes_on : (client : ClientState) (calls : ℕ) → Suffices calls → ClientFits shape client → IsUncut client
        → (now : Option (Now CallPoint Answer)) → client.call ≡ now
        → NowDoes shape session.driver.place job.ops client.txn now
        → Few job.ops session.driver.place calls now
        → FitsWithin shape (client_left shape client + rest_here + room) (elim (answer_now now) [
          | None ↦ record session { client = client }
          | Some answer ↦ settle shape calls (taken session client answer)
        ])
    goes_on client calls later fits uncut None e does few = absurd does
    goes_on client calls later fits uncut (Some (At at)) e does few = (
      record {
        client = fits;
        jobs = jobs;
        driver = driver;
        runs = subst (λ o. NowRuns session.driver.place (ops_of o) client.txn client.call) (sym here)
            (subst (NowRuns session.driver.place job.ops client.txn) (sym e) does);
        medic = no_medic client uncut;
        treats = not_treated client uncut;
        stands = ap is_running e ∙ sym (ap (λ (o : Option Job). is_some o) here);
      },
      left_most (record session { client = client }) (client_left shape client) rest_here uncut (omega arith)
          (omega arith),
    )
    goes_on client calls later fits uncut (Some (Over end)) e does few =
        let g = answer_taken client end does in
        let s = later (taken session client end) (taken_ready client end fits uncut e does)
        (let f = g.few in omega arith) in
        let same = ap (rest_bound shape session.driver) (drop_from session.jobs session.driver.job job here) in
        (s.0, let l = s.1 in let m = g.left in omega arith)

  -- 5. Calls are asked until one takes a verb

  -- a client with no call at a point
  not_running : (place : DriverPoint) (ops : List Op) (txn : Option Open) (now : Option (Now CallPoint Answer))
      → is_running now ≡ false → NowRuns place ops txn now
  not_running place ops txn None e = tt
  not_running place ops txn (Some (At at)) e = absurd (false≢true (sym e))
  not_running place ops txn (Some (Over end)) e = tt

  none_left : (client : ClientState) (now : Option (Now CallPoint Answer)) → is_running now ≡ false
      → left_of shape client now ≡ 0
  none_left client None e = refl
  none_left client (Some (At at)) e = absurd (false≢true (sym e))
  none_left client (Some (Over end)) e = refl

  -- no more than a medic's verbs are to come where no call runs and no job is left
  pub rests_left : (session : SessionState) → is_running session.client.call ≡ false
      → slice_get session.jobs session.driver.job ≡ None → IsUncut session.client
      → session_left shape session ≤ room
  rests_left session rests over uncut =
      let e = none_left session.client session.client.call rests in
      let r = ap (rest_bound shape session.driver) (drop_over session.jobs session.driver.job over) in
      let c = none_unless session.client.cut (left_of shape session.client session.client.call) e in
      let l = left_most session 0 0 uncut (omega arith) (omega arith) in
      omega arith

  module _ (limits : FitsLimits shape) where
    next_ends : (calls : ℕ) (session : SessionState) → IsReady session → next_calls session ≤ suc calls
        → Suffices calls → (o : Option Job) → slice_get session.jobs session.driver.job ≡ o
        → FitsWithin shape (to_come session + room) (elim (job_call session.driver o) [
          | None ↦ session
          | Some call ↦ elim (answer_now (client_ask shape session.client call).call) [
            | None ↦ record session { client = client_ask shape session.client call }
            | Some answer ↦ settle shape calls (taken session (client_ask shape session.client call) answer)
          ]
        ])
    next_ends calls session ready few later None here = (
      record {
        client = ready.client;
        jobs = ready.jobs;
        driver = ready.driver;
        runs = not_running session.driver.place _ session.client.txn session.client.call ready.rests;
        medic = no_medic session.client ready.uncut;
        treats = not_treated session.client ready.uncut;
        stands = ready.rests ∙ sym (ap (λ (o : Option Job). is_some o) here);
      },
      let e = rests_left session ready.rests here ready.uncut in omega arith,
    )
    next_ends calls session ready few later (Some job) here =
        let driver = session.driver in
        let a = asks limits session.client ready.client job.ops job.txn driver.nth driver.policy.tries driver.place
        calls ready.driver.2
        (subst (λ o. AsksFrom shape driver.place (ops_of o) session.client.txn) here ready.asks)
        (nth_holds (JobFits shape) session.jobs driver.job job ready.jobs here)
        (subst (λ o. calls_from shape (ops_of o) driver.place ≤ suc calls) here few) in
        let client = client_ask shape session.client (place_call job driver.nth driver.place) in
        let uncut = still_uncut session.client client
        (asked_stays shape session.client (place_call job driver.nth driver.place)) ready.uncut in
        let g = goes_on session ready.jobs ready.driver job here client calls later a.stands uncut client.call refl
        a.does a.few in
        let d = drop_from session.jobs driver.job job here in
        let same = ap (rest_bound shape driver) d in
        let all = ap (pending shape driver) d in
        (g.0, let l = g.1 in let m = a.within in omega arith)

    settle_ends : (calls : ℕ) → Suffices calls
    unfolding settle
    settle_ends zero session ready few =
        let l = calls_start (ops_of (slice_get session.jobs session.driver.job)) session.driver.place in
        absurd (omega arith)
    settle_ends (suc calls) session ready few =
        next_ends calls session ready few (settle_ends calls) (slice_get session.jobs session.driver.job) refl

    -- 6. A new session

    pub new_ready : (worker start : ℕ) (jobs : List Job) (policy : Policy) → IsOf shape.workers worker
        → start ≤ greatest_number shape.form
        → AllByRecursion (JobFits shape) jobs
        → 1 ≤ policy.tries
        → IsReady (record { client = new_client worker start; driver = new_driver policy; jobs = jobs })
    new_ready worker start jobs policy is number fit least = record {
      client = (is, tt, tt, number);
      jobs = fit;
      driver = (omega arith, least, tt);
      asks = tt;
      rests = refl;
      uncut = (refl, refl);
    }

    pub new_session_ends : (worker start : ℕ) (jobs : List Job) (policy : Policy) → IsOf shape.workers worker
        → start ≤ greatest_number shape.form
        → AllByRecursion (JobFits shape) jobs
        → 1 ≤ policy.tries
        → FitsWithin shape (jobs_bound shape policy jobs + room)
        (new_session shape (new_client worker start) jobs policy)
    new_session_ends worker start jobs policy is number fit least =
        let session : SessionState =
        record { client = new_client worker start; driver = new_driver policy; jobs = jobs } in
        let c = calls_least jobs in
        let s = settle_ends (calls_at_most jobs) session
        (new_ready worker start jobs policy is number fit least) (omega arith) in
        let b = begins_pending shape (new_driver policy) jobs least in
        (s.0, let l = s.1 in omega arith)

    -- 7. A word is taken

    verb_stands : (client : ClientState) (verb : VerbAt Field) (cut : Bool) (now : Option (Now CallPoint Answer))
        → (if cut then None else verb_of shape client now) ≡ Some verb
        → (cut ≡ false) × ((at : CallPoint) × (now ≡ Some (At at)))
    verb_stands client verb true now e = absurd (cc)
    verb_stands client verb false None e = absurd (cc)
    verb_stands client verb false (Some (At at)) e = (refl, (at, refl))
    verb_stands client verb false (Some (Over end)) e = absurd (cc)

    -- what is known of a session that takes a word: its call's point and its job, and what the client does then
    pub record TakesWord (session : SessionState) (found : ℕ) : Type 0 where
      pub at : CallPoint
      pub is : session.client.call ≡ Some (At at)
      pub uncut : IsUncut session.client
      pub place : CallPointFits shape session.client.txn at
      pub job : Job
      pub here : slice_get session.jobs session.driver.job ≡ Some job
      pub after : call_after shape session.client at found ≡ client_after shape session.client found
      pub falls : ClientFits shape (client_after shape session.client found)
          × (client_left shape (client_after shape session.client found) < client_left shape session.client)
      pub does : ClientDoes shape session.driver.place job.ops (client_after shape session.client found)

    pub takes_word : (session : SessionState) (verb : VerbAt Field) (found : ℕ) → SessionFits shape session
        → client_verb shape session.client ≡ Some verb
        → TakesWord session found
    takes_word session verb found fits e =
        let driver = session.driver in
        let stands = verb_stands session.client verb session.client.cut session.client.call e in
        let at = stands.1.0 in
        let is = stands.1.1 in
        let some = some_of (slice_get session.jobs driver.job) (sym fits.stands ∙ ap is_running is) in
        let place : CallPointFits shape session.client.txn at =
        subst (NowFits shape session.client.txn) is fits.client.2 in
        let runs = subst (NowRuns driver.place
        (ops_of (slice_get session.jobs driver.job)) session.client.txn) is fits.runs
        in
        let runs_here = subst (λ o. NowRuns driver.place (ops_of o) session.client.txn (Some (At at))) some.1 runs in
        let after : call_after shape session.client at found ≡ client_after shape session.client found =
        ap (λ (now : Option (Now CallPoint Answer)). after_call shape session.client now found) (sym is) in
        let does = word_does shape limits some.0.ops session.client fits.client.1 found driver.place at place
        runs_here in
        record {
          at = at;
          is = is;
          uncut = uncut_of session fits stands.0;
          place = place;
          job = some.0;
          here = some.1;
          after = after;
          falls = client_falls shape limits session.client at found fits.client stands.0 is;
          does = subst (ClientDoes shape driver.place some.0.ops) after does;
        }

    call_word : (session : SessionState) (verb : VerbAt Field) (found : ℕ) → SessionFits shape session
        → client_verb shape session.client ≡ Some verb
        → SessionFits shape (call_taken shape session found)
        × (session_left shape (call_taken shape session found) < left_by shape session None)
    call_word session verb found fits e =
        let t = takes_word session verb found fits e in
        let driver = session.driver in
        let client = client_after shape session.client found in
        let few = calls_suffice session.jobs driver.job t.job t.here in
        let most = calls_after_most t.job.ops driver.place in
        let uncut = still_uncut session.client client (word_stays shape session.client found) t.uncut in
        let g = goes_on session fits.jobs fits.driver t.job t.here client (calls_at_most session.jobs)
        (settle_ends (calls_at_most session.jobs)) t.falls.0 uncut client.call refl t.does
        (few_any t.job.ops driver.place (calls_at_most session.jobs) client.call (omega arith)) in
        let left : left_by shape session None ≡ client_left shape session.client
        + rest_bound shape driver (drop driver.job session.jobs) + room =
        ap (λ (cut : Bool). if cut then 0
        else client_left shape session.client + rest_bound shape driver (drop driver.job session.jobs) + room)
        t.uncut.0 in
        (g.0, let l = g.1 in let m = t.falls.1 in omega arith)

    -- 8. The word is the medic's

    pub treated_fits : (session : SessionState) (medic : Now MedicPoint Finish) → SessionFits shape session
        → MedicStands shape (Some medic) → (session.client.cut && has_intents shape.form) ≡ true
        → SessionFits shape (treated session medic)
    treated_fits session medic fits stands is = record {
      client = fits.client;
      jobs = fits.jobs;
      driver = fits.driver;
      runs = fits.runs;
      medic = stands;
      treats = sym is;
      stands = fits.stands;
    }

    medic_word : (session : SessionState) (place : MedicPoint) (found : ℕ) → SessionFits shape session
        → session.client.medic ≡ Some (At place) → (medic : Now MedicPoint Finish)
        → Falls (MedicFits shape) Any (medic_left shape) (medic_left shape place) medic
        → SessionFits shape (treated session medic)
        × (session_left shape (treated session medic) < medic_left shape place)
    medic_word session place found fits is (At next) falls =
        let held = (subst (MedicStands shape) is fits.medic).0 in (
          treated_fits session (At next) fits (held, falls.0)
              (sym fits.treats ∙ ap (λ (medic : Option (Now MedicPoint Finish)). is_some medic) is),
          falls.1,
        )
    medic_word session place found fits is (Over how) falls = (
      treated_fits session (Over how) fits tt
          (sym fits.treats ∙ ap (λ (medic : Option (Now MedicPoint Finish)). is_some medic) is),
      falls.1,
    )

    -- the word of a verb that stands is the client's or the medic's
    pub by_medic : (session : SessionState) (verb : VerbAt Field) (found : ℕ) (P : SessionState → Type 0)
        → session_verb shape session ≡ Some verb
        → (session.client.medic ≡ None → client_verb shape session.client ≡ Some verb
        → P (call_taken shape session found))
        → ((place : MedicPoint) → session.client.medic ≡ Some (At place)
        → P (treated session (medic_after shape session.client.worker place found)))
        → P (session_after shape session found)
    by_medic session verb found P e of_call of_medic = at session.client.medic refl e
      where
        at : (medic : Option (Now MedicPoint Finish)) → session.client.medic ≡ medic
            → verb_by shape session medic ≡ Some verb → P (after_by shape session found medic)
        at None is stands = of_call is stands
        at (Some (At place)) is stands = of_medic place is
        at (Some (Over how)) is stands = absurd (cc)

    pub session_word : (session : SessionState) (verb : VerbAt Field) (found : ℕ) → SessionFits shape session
        → session_verb shape session ≡ Some verb
        → SessionFits shape (session_after shape session found)
        × (session_left shape (session_after shape session found) < session_left shape session)
    session_word session verb found fits e =
        by_medic session verb found
        (λ s. SessionFits shape s × (session_left shape s < session_left shape session)) e
        (λ none stands.
        let after = call_taken shape session found in
        subst (λ medic. SessionFits shape after × (session_left shape after < left_by shape session medic)) (sym none)
        (call_word session verb found fits stands))
        (λ place is.
        let medic = medic_after shape session.client.worker place found in
        let after = treated session medic in
        subst (λ m. SessionFits shape after × (session_left shape after < left_by shape session m)) (sym is)
        (medic_word session place found fits is medic
        (falls_law shape session.client.worker limits place found (subst (MedicStands shape) is fits.medic).1)))
