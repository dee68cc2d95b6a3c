-- Where a session goes on. For any property of sessions: if each word of its client keeps it, and each call that its
-- driver asks, and a stop, then it holds of each session that occurs.
use Rattle.std.proofs.Common.{◌≡◌, ℕ, zero, suc, ◌≤◌, List, length, refl, subst, arith}
use Rattle.std.proofs.Common.{false, Option, Some, None}
use Rattle.std.specs.Prelude.{◌||◌, slice_get, is_some}
use Rattle.si_model.specs.declared.log.Finish.{Finish}
use Rattle.std.specs.List.{AllByRecursion}
use Rattle.si_model.specs.declared.op.Policy.{Policy}
use Rattle.nam_verbs.specs.declared.now.Now.{Now}
use Rattle.nam_verbs.specs.declared.now.Now.TheVariants.{At, Over}
use Rattle.nam_verbs.specs.VerbAt.{VerbAt}
use Rattle.nam_catalog.specs.declared.shape.Shape.{Shape}
use Rattle.nam_catalog.specs.Fits.{FitsLimits}
use Rattle.nam_catalog.specs.Greatest.{greatest_number}
use Rattle.nam_layout.specs.declared.field.Field.{Field}
use Rattle.nam_calls.specs.declared.medic.MedicPoint.{MedicPoint}
use Rattle.nam_calls.specs.Fits.{IsOf}
use Rattle.nam_calls.specs.Medic.{medic_begin, medic_after}
use Rattle.nam_calls.proofs.FallsTests.{either}
use Rattle.nam_protocol.specs.declared.client.Answer.{Answer}
use Rattle.nam_protocol.specs.declared.client.CallPoint.{CallPoint}
use Rattle.nam_protocol.specs.declared.client.ClientState.{ClientState}
use Rattle.nam_protocol.specs.declared.session.Job.{Job}
use Rattle.nam_protocol.specs.declared.session.SessionState.{SessionState}
use Rattle.nam_protocol.specs.Client.{client_after, client_ask, client_verb}
use Rattle.nam_protocol.specs.ClientEvents.{ClientLists}
use Rattle.nam_protocol.specs.ClientFits.{ClientFits}
use Rattle.nam_protocol.specs.Driver.{job_call, new_driver, place_call}
use Rattle.nam_protocol.specs.EventsLaw.{IsReached, by_cut, by_word, is_new}
use Rattle.nam_protocol.specs.Session.{answer_now, calls_at_most, call_taken, treated, new_session, session_after}
use Rattle.nam_protocol.specs.Commit.{has_intents}
use Rattle.nam_protocol.specs.Session.{session_cut, session_verb, settle, taken, jobs_over, stopped, cut_in}
use Rattle.nam_protocol.specs.SessionFits.{DriverFits, JobFits, SessionFits, ops_of}
use Rattle.nam_protocol.specs.Telling.{new_client}
use Rattle.nam_protocol.proofs.EndsDriver.{AsksFrom, calls_from}
use Rattle.nam_protocol.proofs.EndsSession.{IsReady, asks, new_ready, new_session_ends, nth_holds}
use Rattle.nam_protocol.proofs.EndsSession.{by_medic, session_word, taken_ready, takes_word}
use Rattle.nam_protocol.proofs.EndsSettled.{session_cut_ends}
use Rattle.nam_protocol.proofs.StaysLemmas.{IsUncut, still_uncut, asked_stays, word_stays}
use Rattle.nam_protocol.proofs.EventsClient.{ask_lists, word_lists}
use Rattle.nam_protocol.proofs.OpensDriver.{needs_open}
use Rattle.nam_protocol.proofs.RunsClient.{ClientDoes, NowDoes}

-- 1. A session's client has taken a word, or was asked

-- what is known of it then, where this is the driver's job
pub record Steps (shape : Shape) (session : SessionState) (job : Job) (after : ClientState) : Type 0 where
  pub here : slice_get session.jobs session.driver.job ≡ Some job
  pub fits : ClientFits shape after
  pub does : ClientDoes shape session.driver.place job.ops after
  pub lists : ClientLists (length session.client.log.events) (is_some session.client.txn) after

module _ (shape : Shape) (P : SessionState → Type 0) where
  -- the session after it: its call runs, or its answer is taken
  abbrev pub NextHolds : SessionState → ClientState → Option (Now CallPoint Answer) → Type 0
  NextHolds session client None = Unit {0}
  NextHolds session client (Some (At at)) = P (record session { client = client })
  NextHolds session client (Some (Over end)) = P (taken session client end)

  pub record SessionKeeps : Type 0 where
    pub word : (session : SessionState) (place : CallPoint) (found : ℕ) (job : Job) → SessionFits shape session
        → session.client.cut ≡ false → session.client.call ≡ Some (At place) → P session
        → let after = client_after shape session.client found in Steps shape session job after
        → NextHolds session after after.call
    pub asked : (session : SessionState) (job : Job) → IsReady shape session → session.client.cut ≡ false → P session
        → let after = client_ask shape session.client (place_call job session.driver.nth session.driver.place) in
        Steps shape session job after → NextHolds session after after.call
    pub cut : (session : SessionState) → P session → P (stopped session)
    pub treated : (session : SessionState) (medic : Now MedicPoint Finish) → P session → P (treated session medic)

-- 2. So it is kept

module _ (shape : Shape) (limits : FitsLimits shape) (P : SessionState → Type 0) (keeps : SessionKeeps shape P) where
  -- so many calls are asked
  abbrev KeepsAsked : ℕ → Type 0
  KeepsAsked calls = (session : SessionState) → IsReady shape session → P session
      → P (settle shape calls session)

  goes_on : (session : SessionState) → AllByRecursion (JobFits shape) session.jobs → DriverFits shape session.driver
      → (job : Job) (client : ClientState) → Steps shape session job client → (calls : ℕ) → KeepsAsked calls
      → IsUncut client → (now : Option (Now CallPoint Answer)) → client.call ≡ now
      → NowDoes shape session.driver.place job.ops client.txn now → NextHolds shape P session client now
      → P (elim (answer_now now) [
        | None ↦ record session { client = client }
        | Some answer ↦ settle shape calls (taken session client answer)
      ])
  goes_on session jobs driver job client s calls later uncut None e does p = absurd does
  goes_on session jobs driver job client s calls later uncut (Some (At at)) e does p = p
  goes_on session jobs driver job client s calls later uncut (Some (Over end)) e does p =
      later (taken session client end)
      (taken_ready shape session jobs driver job s.here client end s.fits uncut e does) p

  next_kept : (calls : ℕ) (session : SessionState) → IsReady shape session → P session
      → KeepsAsked calls → (o : Option Job) → slice_get session.jobs session.driver.job ≡ o
      → P (elim (job_call session.driver o) [
        | None ↦ session
        | Some call ↦ elim (answer_now (client_ask shape session.client call).call) [
          | None ↦ record session { client = client_ask shape session.client call }
          | Some answer ↦ settle shape calls (taken session (client_ask shape session.client call) answer)
        ]
      ])
  next_kept calls session ready p later None here = p
  next_kept calls session ready p later (Some job) here =
      let driver = session.driver in
      let asked = subst (λ o. AsksFrom shape driver.place (ops_of o) session.client.txn) here ready.asks in
      let a = asks shape limits session.client ready.client job.ops job.txn driver.nth driver.policy.tries driver.place
      (calls_from shape job.ops driver.place) ready.driver.2 asked
      (nth_holds (JobFits shape) session.jobs driver.job job ready.jobs here) (omega arith) in
      let c = place_call job driver.nth driver.place in
      let client = client_ask shape session.client c in
      let s : Steps shape session job client = record {
        here = here;
        fits = a.stands;
        does = a.does;
        lists =
            ask_lists (length session.client.log.events) shape session.client (omega arith) c
            (needs_open shape session.client job.ops job.txn driver.nth driver.place asked);
      } in
      goes_on session ready.jobs ready.driver job client s calls later
      (still_uncut session.client client (asked_stays shape session.client c) ready.uncut) client.call refl a.does
      (keeps.asked session job ready ready.uncut.0 p s)

  settle_kept : (calls : ℕ) → KeepsAsked calls
  unfolding settle
  settle_kept zero session ready p = p
  settle_kept (suc calls) session ready p =
      next_kept calls session ready p (settle_kept calls) (slice_get session.jobs session.driver.job) refl

  -- a word is taken
  call_kept : (session : SessionState) (verb : VerbAt Field) (found : ℕ) → SessionFits shape session
      → client_verb shape session.client ≡ Some verb → P session → P (call_taken shape session found)
  call_kept session verb found fits e p =
      let t = takes_word shape limits session verb found fits e in
      let n = length session.client.log.events in
      let client = client_after shape session.client found in
      let s : Steps shape session t.job client = record {
        here = t.here;
        fits = t.falls.0;
        does = t.does;
        lists =
            subst (ClientLists n (is_some session.client.txn)) t.after
            (word_lists n shape session.client (omega arith) t.at found t.place);
      } in
      goes_on session fits.jobs fits.driver t.job client s (calls_at_most session.jobs)
      (settle_kept (calls_at_most session.jobs))
      (still_uncut session.client client (word_stays shape session.client found) t.uncut)
      client.call refl t.does (keeps.word session t.at found t.job fits t.uncut.0 t.is p s)

  pub word_kept : (session : SessionState) (verb : VerbAt Field) (found : ℕ) → SessionFits shape session
      → session_verb shape session ≡ Some verb → P session → P (session_after shape session found)
  word_kept session verb found fits e p =
      by_medic shape limits session verb found P e (λ none stands. call_kept session verb found fits stands p)
      (λ place is. keeps.treated session (medic_after shape session.client.worker place found) p)

  pub cut_kept : (session : SessionState) → P session → P (session_cut shape.form session)
  cut_kept session p =
      let stop = keeps.cut session p in
      either P (jobs_over session || session.client.cut) session (cut_in shape.form session) p
      (either P (has_intents shape.form) (treated (stopped session) (At medic_begin)) (stopped session)
      (keeps.treated (stopped session) (At medic_begin) stop) stop)

  -- 3. The sessions that occur

  module _ (worker start : ℕ) (jobs : List Job) (policy : Policy) (is : IsOf shape.workers worker)
      (number : start ≤ greatest_number shape.form) (fit : AllByRecursion (JobFits shape) jobs)
      (least : 1 ≤ policy.tries) where
    abbrev unasked : SessionState
    unasked = record { client = new_client worker start; driver = new_driver policy; jobs = jobs }

    pub new_kept : P unasked → P (new_session shape (new_client worker start) jobs policy)
    new_kept p =
        settle_kept (calls_at_most jobs) unasked (new_ready shape limits worker start jobs policy is number fit least) p

    pub reached_kept : P unasked → (session : SessionState) → IsReached shape worker start jobs policy session
        → SessionFits shape session × P session
    reached_kept p session is_new =
        ((new_session_ends shape limits worker start jobs policy is number fit least).0, new_kept p)
    reached_kept p session (by_word before verb found reached e) =
        let s = reached_kept p before reached in
        ((session_word shape limits before verb found s.0 e).0, word_kept before verb found s.0 e s.1)
    reached_kept p session (by_cut before reached) =
        let s = reached_kept p before reached in
        ((session_cut_ends shape limits before s.0).fits, cut_kept before s.1)
