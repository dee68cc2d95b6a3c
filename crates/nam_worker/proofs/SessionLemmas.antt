-- A session between two calls, and how its next call is asked.
use Rattle.std.proofs.Common.{◌≡◌, ◌≤◌, ◌+◌, ◌-◌, ℕ, suc, zero, List, [], ◌∷◌, length, Option, Some, None}
use Rattle.std.proofs.Common.{refl, ap, subst, ◌∙◌, arith}
use Rattle.std.specs.Prelude.{slice_get, is_some}
use Rattle.si_model.specs.declared.op.Op.{Op}
use Rattle.si_model.specs.declared.op.Policy.{Policy}
use Rattle.nam_verbs.specs.declared.now.Now.{Now}
use Rattle.nam_verbs.specs.declared.now.Now.TheVariants.{At, Over}
use Rattle.nam_catalog.specs.declared.shape.Shape.{Shape}
use Rattle.nam_catalog.specs.Fits.{FitsLimits}
use Rattle.nam_protocol.specs.declared.client.Answer.{Answer}
use Rattle.nam_protocol.specs.declared.client.Call.{Call}
use Rattle.nam_protocol.specs.declared.client.CallPoint.{CallPoint}
use Rattle.nam_protocol.specs.declared.client.ClientState.{ClientState}
use Rattle.nam_protocol.specs.declared.session.DriverPoint.{DriverPoint}
use Rattle.nam_protocol.specs.declared.session.DriverPoint.TheVariants.{ToBegin, ToAsk, ToTidy, ToCollect}
use Rattle.nam_protocol.specs.declared.session.DriverState.{DriverState}
use Rattle.nam_protocol.specs.declared.session.Job.{Job}
use Rattle.nam_protocol.specs.declared.session.SessionState.{SessionState}
use Rattle.nam_protocol.specs.Client.{client_after, client_ask}
use Rattle.nam_protocol.specs.ClientEvents.{ClientLists}
use Rattle.nam_protocol.specs.Driver.{driver_next, driver_take, job_call, place_call}
use Rattle.nam_protocol.specs.EventsLaw.{IsReached}
use Rattle.nam_protocol.specs.Own.{MayAsk}
use Rattle.nam_protocol.specs.Session.{answer_now, calls_at_most, settle, taken}
use Rattle.nam_protocol.specs.SessionFits.{JobFits, SessionFits, ops_of}
use Rattle.nam_protocol.proofs.AskedSession.{AsksSo, session_asks}
use Rattle.nam_protocol.proofs.EndsDriver.{AsksFrom, calls_from, takes}
use Rattle.nam_protocol.proofs.EndsSession.{Asked, Few, IsReady, asks, new_ready, nth_holds, taken_ready}
use Rattle.nam_protocol.proofs.EndsSession.{takes_word}
use Rattle.nam_protocol.proofs.EventsClient.{ask_lists, word_lists}
use Rattle.nam_protocol.proofs.GoesSession.{NextHolds, Steps, reached_kept}
use Rattle.nam_protocol.proofs.KeptSession.{may_ask}
use Rattle.nam_protocol.proofs.OpensDriver.{needs_open}
use Rattle.nam_protocol.proofs.RunsClient.{NowDoes}
use Rattle.nam_protocol.proofs.StaysLemmas.{IsUncut, asked_stays, still_uncut, word_stays}
use Rattle.nam_worker.specs.Session.{CanServeJobs, IsBetween, at_first, after_word, at_once}

-- 1. Calls and answers

pub over_of : (now : Option (Now CallPoint Answer)) (end : Answer) → answer_now now ≡ Some end → now ≡ Some (Over end)
over_of None end e = absurd (cc)
over_of (Some (At place)) end e = absurd (cc)
over_of (Some (Over answer)) end e = let same : answer ≡ end = cc in ap (λ a. Some (Over a)) same

-- the call that a driver asks, of its job
pub record NextOf (session : SessionState) (asked : Call) : Type 0 where
  pub job : Job
  pub here : slice_get session.jobs session.driver.job ≡ Some job
  pub is : place_call job session.driver.nth session.driver.place ≡ asked

next_at : (session : SessionState) (asked : Call) (o : Option Job) → slice_get session.jobs session.driver.job ≡ o
    → job_call session.driver o ≡ Some asked → NextOf session asked
next_at session asked None here e = absurd (cc)
next_at session asked (Some job) here e = record { job = job; here = here; is = cc }

pub next_of : (session : SessionState) (asked : Call) → driver_next session.jobs session.driver ≡ Some asked
    → NextOf session asked
next_of session asked e = next_at session asked (slice_get session.jobs session.driver.job) refl e

-- 2. So many calls are asked

calls_least : (jobs : List Job) → 2 ≤ calls_at_most jobs
calls_least [] = omega arith
calls_least (job ∷ jobs) = let l = calls_least jobs in omega arith

calls_most : (shape : Shape) (ops : List Op) (place : DriverPoint) → calls_from shape ops place ≤ length ops + 2
calls_most shape ops ToBegin = omega arith
calls_most shape ops (ToAsk nth) = omega arith
calls_most shape ops (ToTidy keys nth again retry) = omega arith
calls_most shape ops (ToCollect bucket keys nth retry) = omega arith

pub calls_start : (shape : Shape) (ops : List Op) (place : DriverPoint) → 1 ≤ calls_from shape ops place
calls_start shape ops ToBegin = omega arith
calls_start shape ops (ToAsk nth) = omega arith
calls_start shape ops (ToTidy keys nth again retry) = omega arith
calls_start shape ops (ToCollect bucket keys nth retry) = omega arith

calls_within : (jobs : List Job) (n : ℕ) → length (ops_of (slice_get jobs n)) + 2 ≤ calls_at_most jobs
calls_within [] n = omega arith
calls_within (job ∷ jobs) zero = let l = calls_least jobs in omega arith
calls_within (job ∷ jobs) (suc n) = let l = calls_within jobs n in omega arith

module _ (shape : Shape) where
  -- how many calls may follow without a verb, the next one included
  abbrev pub calls_left : List Job → DriverState → ℕ
  calls_left jobs driver = calls_from shape (ops_of (slice_get jobs driver.job)) driver.place

  pub calls_enough : (jobs : List Job) (driver : DriverState) → calls_left jobs driver ≤ calls_at_most jobs
  calls_enough jobs driver =
      let m = calls_most shape (ops_of (slice_get jobs driver.job)) driver.place in
      let w = calls_within jobs driver.job in
      omega arith

  -- 3. A call is asked of a session that is ready

  module _ (limits : FitsLimits shape) (session : SessionState) (ready : IsReady shape session) (asked : Call)
      (next : NextOf session asked) where
    abbrev client : ClientState
    client = client_ask shape session.client asked

    asks_here : AsksFrom shape session.driver.place next.job.ops session.client.txn
    asks_here = subst (λ o. AsksFrom shape session.driver.place (ops_of o) session.client.txn) next.here ready.asks

    asked_now : (calls : ℕ) → calls_from shape next.job.ops session.driver.place ≤ suc calls
        → Asked shape limits session.client ready.client next.job.ops session.driver.place calls client
    asked_now calls few =
        subst (λ c. Asked shape limits session.client ready.client next.job.ops session.driver.place calls
        (client_ask shape session.client c)) next.is
        (asks shape limits session.client ready.client next.job.ops next.job.txn session.driver.nth
        session.driver.policy.tries session.driver.place calls ready.driver.2 asks_here
        (nth_holds (JobFits shape) session.jobs session.driver.job next.job ready.jobs next.here) few)

    abbrev all_calls : ℕ
    all_calls = calls_from shape next.job.ops session.driver.place

    pub asked_steps : Steps shape session next.job client
    asked_steps =
        let a = asked_now all_calls (omega arith) in
        record {
          here = next.here;
          fits = a.stands;
          does = a.does;
          lists =
              subst (λ c. ClientLists (length session.client.log.events) (is_some session.client.txn)
              (client_ask shape session.client c)) next.is
              (ask_lists (length session.client.log.events) shape session.client (omega arith)
              (place_call next.job session.driver.nth session.driver.place)
              (needs_open shape session.client next.job.ops next.job.txn session.driver.nth session.driver.place
              asks_here));
        }

    pub asked_uncut : IsUncut client
    asked_uncut = still_uncut session.client client (asked_stays shape session.client asked) ready.uncut

    pub asked_may : AsksSo session → MayAsk shape session.client asked
    asked_may so =
        subst (MayAsk shape session.client) next.is
        (may_ask shape session next.job ready ready.uncut.0 so.opened next.here)

    pub asked_so : AsksSo session → NextHolds shape AsksSo session client client.call
    asked_so so =
        subst (λ c. let after = client_ask shape session.client c in
        Steps shape session next.job after → NextHolds shape AsksSo session after after.call) next.is
        (λ s. (session_asks shape).asked session next.job ready ready.uncut.0 so s) asked_steps

    -- it is answered at once
    module _ (end : Answer) (answered : client.call ≡ Some (Over end)) where
      pub once_ready : IsReady shape (taken session client end)
      once_ready =
          let s = asked_steps in
          taken_ready shape session ready.jobs ready.driver next.job next.here client end s.fits asked_uncut answered
          (subst (NowDoes shape session.driver.place next.job.ops client.txn) answered s.does)

      pub once_so : AsksSo session → AsksSo (taken session client end)
      once_so so = subst (NextHolds shape AsksSo session client) answered (asked_so so)

      -- then fewer calls may follow
      pub once_fewer : (calls : ℕ) → calls_left session.jobs session.driver ≤ suc calls
          → calls_left session.jobs (driver_take session.jobs session.driver end) ≤ calls
      once_fewer calls few =
          let driver = session.driver in
          let a = asked_now calls (subst (λ o. calls_from shape (ops_of o) driver.place ≤ suc calls) next.here few) in
          let does = subst (NowDoes shape driver.place next.job.ops client.txn) answered a.does in
          let after = subst (λ now. Few shape next.job.ops driver.place calls now) answered a.few in
          let g = takes shape session.jobs client.txn driver next.job next.here ready.driver.0 ready.driver.1
          (nth_holds (JobFits shape) session.jobs driver.job next.job ready.jobs next.here) driver.place end
          ready.driver.2 does in
          let f = g.few in
          omega arith

  -- 4. What settling does

  abbrev at_answer : ℕ → SessionState → ClientState → Option Answer → SessionState
  at_answer n session client o = elim o [
    | None ↦ record session { client = client }
    | Some answer ↦ settle shape n (taken session client answer)
  ]

  abbrev at_next : ℕ → SessionState → Option Call → SessionState
  at_next n session o = elim o [
    | None ↦ session
    | Some call ↦ elim (answer_now (client_ask shape session.client call).call) [
      | None ↦ record session { client = client_ask shape session.client call }
      | Some answer ↦ settle shape n (taken session (client_ask shape session.client call) answer)
    ]
  ]

  pub settle_ends : (n : ℕ) (session : SessionState) → driver_next session.jobs session.driver ≡ None
      → settle shape n session ≡ session
  unfolding settle
  settle_ends zero session e = refl
  settle_ends (suc n) session e = ap (at_next n session) e

  pub settle_stops : (n : ℕ) (session : SessionState) (asked : Call)
      → driver_next session.jobs session.driver ≡ Some asked
      → answer_now (client_ask shape session.client asked).call ≡ None
      → settle shape (suc n) session ≡ record session { client = client_ask shape session.client asked }
  unfolding settle
  settle_stops n session asked e none =
      ap (at_next n session) e ∙ ap (at_answer n session (client_ask shape session.client asked)) none

  pub settle_goes : (n : ℕ) (session : SessionState) (asked : Call) (end : Answer)
      → driver_next session.jobs session.driver ≡ Some asked
      → answer_now (client_ask shape session.client asked).call ≡ Some end
      → settle shape (suc n) session ≡ settle shape n (taken session (client_ask shape session.client asked) end)
  unfolding settle
  settle_goes n session asked end e answered =
      ap (at_next n session) e ∙ ap (at_answer n session (client_ask shape session.client asked)) answered

-- 5. Between two calls

module _ (shape : Shape) (limits : FitsLimits shape) (worker start : ℕ) (jobs : List Job) (policy : Policy)
    (serves : CanServeJobs shape worker start jobs policy) where
  pub reached_so : (session : SessionState) → IsReached shape worker start jobs policy session
      → SessionFits shape session × AsksSo session
  reached_so session reached =
      reached_kept shape limits AsksSo (session_asks shape) worker start jobs policy serves.worker_is serves.start_is
      serves.jobs_fit serves.tries record { opened = refl; attempt = λ job h. tt; call = λ job h. tt } session reached

  pub between_ready : (session : SessionState) → IsBetween shape worker start jobs policy session
      → IsReady shape session × AsksSo session
  between_ready session at_first = (
    new_ready shape limits worker start jobs policy serves.worker_is serves.start_is serves.jobs_fit serves.tries,
    record { opened = refl; attempt = λ job h. tt; call = λ job h. tt },
  )
  between_ready session (after_word before verb found end reached stands none answered) =
      let s = reached_so before reached in
      let t = takes_word shape limits before verb found s.0 stands in
      let client = client_after shape before.client found in
      let over = over_of client.call end answered in
      let steps : Steps shape before t.job client = record {
        here = t.here;
        fits = t.falls.0;
        does = t.does;
        lists =
            subst (ClientLists (length before.client.log.events) (is_some before.client.txn)) t.after
            (word_lists (length before.client.log.events) shape before.client (omega arith) t.at found t.place);
      } in (
        taken_ready shape before s.0.jobs s.0.driver t.job t.here client end t.falls.0
            (still_uncut before.client client (word_stays shape before.client found) t.uncut) over
            (subst (NowDoes shape before.driver.place t.job.ops client.txn) over t.does),
        subst (NextHolds shape AsksSo before client) over
            ((session_asks shape).word before t.at found t.job s.0 t.uncut.0 t.is s.1 steps),
      )
  between_ready session (at_once before asked end between next answered) =
      let b = between_ready before between in
      let n = next_of before asked next in
      let over = over_of (client_ask shape before.client asked).call end answered in
      (once_ready shape limits before b.0 asked n end over, once_so shape limits before b.0 asked n end over b.1)
