-- The calls that a session's driver asks, one after another, are steps of its client.
use Rattle.std.proofs.Common.{List, None, Option, Some, ap, arith, length, refl, subst, suc, sym}
use Rattle.std.proofs.Common.{zero, ℕ, ◌∙◌, ◌∷◌, ◌≡◌, ◌≤◌, []}
use Rattle.std.specs.List.{AllByRecursion}
use Rattle.std.specs.Prelude.{is_some, slice_get}
use Rattle.si_model.specs.declared.op.Op.{Op}
use Rattle.si_model.specs.declared.op.Policy.{Policy}
use Rattle.nam_verbs.specs.declared.now.Now.{Now}
use Rattle.nam_verbs.specs.declared.now.Now.TheVariants.{At, Over}
use Rattle.nam_verbs.specs.VerbAt.{VerbAt}
use Rattle.nam_catalog.specs.declared.shape.Shape.{Shape}
use Rattle.nam_catalog.specs.Fits.{FitsLimits}
use Rattle.nam_layout.specs.declared.field.Field.{Field}
use Rattle.nam_calls.specs.Fits.{IsOf}
use Rattle.nam_protocol.specs.declared.client.Answer.{Answer}
use Rattle.nam_protocol.specs.declared.client.Call.{Call}
use Rattle.nam_protocol.specs.declared.client.CallPoint.{CallPoint}
use Rattle.nam_protocol.specs.declared.client.ClientState.{ClientState}
use Rattle.nam_protocol.specs.declared.session.DriverPoint.{DriverPoint}
use Rattle.nam_protocol.specs.declared.session.DriverPoint.TheVariants.{ToAsk, ToBegin, ToCollect, ToTidy}
use Rattle.nam_protocol.specs.declared.session.Job.{Job}
use Rattle.nam_protocol.specs.declared.session.SessionState.{SessionState}
use Rattle.nam_protocol.specs.Client.{client_after, client_ask, client_verb}
use Rattle.nam_protocol.specs.ClientEvents.{ClientLists, NowLists, is_open_after}
use Rattle.nam_protocol.specs.Driver.{call_of, job_call, new_driver, op_call, place_call}
use Rattle.nam_protocol.specs.HoldsWords.{CallHolds, JobHolds}
use Rattle.nam_protocol.specs.Own.{MayAsk}
use Rattle.nam_protocol.specs.Session.{answer_now, call_taken, calls_at_most}
use Rattle.nam_protocol.specs.Session.{settle, taken}
use Rattle.nam_protocol.specs.Session.{new_session}
use Rattle.nam_protocol.specs.SessionFits.{DriverFits, JobFits, ops_of}
use Rattle.nam_protocol.specs.SessionKeeps.{OpensAsked}
use Rattle.nam_protocol.specs.Telling.{new_client}
use Rattle.nam_protocol.proofs.EndsDriver.{AsksFrom, calls_from}
use Rattle.nam_protocol.proofs.EndsSession.{IsReady, asks, new_ready, nth_holds}
use Rattle.nam_protocol.proofs.EndsSession.{taken_ready, takes_word}
use Rattle.nam_protocol.proofs.EventsClient.{ask_lists, word_lists}
use Rattle.nam_protocol.proofs.GoesSession.{Steps}
use Rattle.nam_protocol.proofs.KeptSession.{may_ask}
use Rattle.nam_protocol.proofs.OpensDriver.{asks_after, needs_open}
use Rattle.nam_protocol.proofs.RunsClient.{NowDoes}
use Rattle.nam_protocol.proofs.StaysLemmas.{IsUncut, asked_stays, still_uncut, word_stays}
use Rattle.nam_store.specs.Store.{Asks, Store, client_at, with_client}
use Rattle.nam_store.specs.Turns.{Goes, RunsJobs, StepsOn}
use Rattle.nam_store.proofs.Lists.{get_set, set_twice}

-- 1. What a driver asks brings words

op_asked : (ops : List Op) (nth : ℕ) → AllByRecursion (λ op. CallHolds (call_of op)) ops
    → CallHolds (op_call (slice_get ops nth))
op_asked [] nth all = tt
op_asked (op ∷ ops) zero all = all.0
op_asked (op ∷ ops) (suc nth) all = op_asked ops nth all.1

place_asked : (job : Job) (nth : ℕ) (place : DriverPoint) → JobHolds job → CallHolds (place_call job nth place)
place_asked job nth ToBegin all = tt
place_asked job nth (ToAsk op) all = op_asked job.ops op all
place_asked job nth (ToTidy keys key again retry) all = tt
place_asked job nth (ToCollect bucket keys key retry) all = tt

-- 2. Calls that are asked one after another

module _ (shape : Shape) (limits : FitsLimits shape) (first store : Store) (nth : ℕ) (old : ClientState)
    (has : client_at store nth ≡ Some old) where
  -- the client of the session has come about by steps, in its place
  pub record Along (session : SessionState) : Type 0 where
    pub path : StepsOn shape first (with_client store nth session.client)
    pub opens : OpensAsked session
    pub words : AllByRecursion JobHolds session.jobs
    pub untreated : session.client.medic ≡ None

  abbrev Next : SessionState → ClientState → Option (Now CallPoint Answer) → Type 0
  Next session client None = Unit {0}
  Next session client (Some (At at)) = Along (record session { client = client })
  Next session client (Some (Over end)) = Along (taken session client end)

  next_along : (session : SessionState) (job : Job) (client : ClientState) → OpensAsked session
      → AllByRecursion JobHolds session.jobs → IsUncut client → StepsOn shape first (with_client store nth client)
      → (now : Option (Now CallPoint Answer)) → NowDoes shape session.driver.place job.ops client.txn now
      → NowLists (length session.client.log.events) (is_some session.client.txn) client.log.events client.txn now
      → Next session client now
  next_along session job client opens words uncut path None does lists = tt
  next_along session job client opens words uncut path (Some (At at)) does lists =
      record { path = path; opens = lists.1 ∙ opens; words = words; untreated = uncut.1 }
  next_along session job client opens words uncut path (Some (Over end)) does lists =
      let after = asks_after shape session.jobs session.driver job.ops client.txn session.driver.place end does in
      record {
        path = path;
        opens = lists.1 ∙ ap (λ was. is_open_after was end) opens ∙ sym after;
        words = words;
        untreated = uncut.1;
      }

  asked_path : (client : ClientState) (asked : Call) → StepsOn shape first (with_client store nth client)
      → MayAsk shape client asked → CallHolds asked
      → StepsOn shape first (with_client store nth (client_ask shape client asked))
  asked_path client asked path may words =
      subst (λ clients. StepsOn shape first (record { words = store.words; clients = clients }))
      (set_twice store.clients nth client (client_ask shape client asked))
      (Goes (with_client store nth client) _ path
      (Asks nth client asked (get_set store.clients nth old client has) may words))

  abbrev Settles : ℕ → Type 0
  Settles calls = (session : SessionState) → IsReady shape session → Along session
      → Along (settle shape calls session)

  goes_on : (session : SessionState) → AllByRecursion (JobFits shape) session.jobs → DriverFits shape session.driver
      → (job : Job) (client : ClientState) → Steps shape session job client → (calls : ℕ) → Settles calls
      → IsUncut client → (now : Option (Now CallPoint Answer)) → client.call ≡ now
      → NowDoes shape session.driver.place job.ops client.txn now → Next session client now
      → Along (elim (answer_now now) [
        | None ↦ record session { client = client }
        | Some answer ↦ settle shape calls (taken session client answer)
      ])
  goes_on session jobs driver job client s calls later uncut None e does next = absurd does
  goes_on session jobs driver job client s calls later uncut (Some (At at)) e does next = next
  goes_on session jobs driver job client s calls later uncut (Some (Over end)) e does next =
      later (taken session client end)
      (taken_ready shape session jobs driver job s.here client end s.fits uncut e does) next

  asks_along : (calls : ℕ) (session : SessionState) → IsReady shape session → Along session → Settles calls
      → (o : Option Job) → slice_get session.jobs session.driver.job ≡ o
      → Along (elim (job_call session.driver o) [
        | None ↦ session
        | Some call ↦ elim (answer_now (client_ask shape session.client call).call) [
          | None ↦ record session { client = client_ask shape session.client call }
          | Some answer ↦ settle shape calls (taken session (client_ask shape session.client call) answer)
        ]
      ])
  asks_along calls session ready along later None here = along
  asks_along calls session ready along later (Some job) here =
      let driver = session.driver in
      let asked = subst (λ o. AsksFrom shape driver.place (ops_of o) session.client.txn) here ready.asks in
      let a = asks shape limits session.client ready.client job.ops job.txn driver.nth driver.policy.tries driver.place
      (calls_from shape job.ops driver.place) ready.driver.2 asked
      (nth_holds (JobFits shape) session.jobs driver.job job ready.jobs here) (omega arith) in
      let c = place_call job driver.nth driver.place in
      let client = client_ask shape session.client c in
      let s : Steps shape session job client = record {
        here = here;
        fits = a.stands;
        does = a.does;
        lists =
            ask_lists (length session.client.log.events) shape session.client (omega arith) c
            (needs_open shape session.client job.ops job.txn driver.nth driver.place asked);
      } in
      let words = nth_holds JobHolds session.jobs driver.job job along.words here in
      let may = may_ask shape session job ready ready.uncut.0 along.opens here in
      let path = asked_path session.client c along.path may (place_asked job driver.nth driver.place words) in
      let uncut = still_uncut session.client client (asked_stays shape session.client c) ready.uncut in
      goes_on session ready.jobs ready.driver job client s calls later uncut client.call refl a.does
      (next_along session job client along.opens along.words uncut path client.call a.does s.lists)

  settles_along : (calls : ℕ) → Settles calls
  unfolding settle
  settles_along zero session ready along = along
  settles_along (suc calls) session ready along =
      asks_along calls session ready along (settles_along calls) (slice_get session.jobs session.driver.job) refl

  -- a new session, whose client stands new in its place
  pub new_along : (worker : ℕ) (jobs : List Job) (policy : Policy) → IsOf shape.workers worker
      → AllByRecursion (JobFits shape) jobs → AllByRecursion JobHolds jobs → 1 ≤ policy.tries
      → StepsOn shape first (with_client store nth (new_client worker shape.start))
      → Along (new_session shape (new_client worker shape.start) jobs policy)
  new_along worker jobs policy is fit words least path =
      settles_along (calls_at_most jobs)
      record { client = new_client worker shape.start; driver = new_driver policy; jobs = jobs }
      (new_ready shape limits worker shape.start jobs policy is limits.start fit least)
      record { path = path; opens = refl; words = words; untreated = refl }

  -- 3. A word that is taken

  pub word_along : (session : SessionState) (verb : VerbAt Field) (found : ℕ) → RunsJobs shape session
      → client_verb shape session.client ≡ Some verb
      → StepsOn shape first (with_client store nth (client_after shape session.client found))
      → Along (call_taken shape session found)
  word_along session verb found runs e path =
      let t = takes_word shape limits session verb found runs.fits e in
      let n = length session.client.log.events in
      let client = client_after shape session.client found in
      let s : Steps shape session t.job client = record {
        here = t.here;
        fits = t.falls.0;
        does = t.does;
        lists =
            subst (ClientLists n (is_some session.client.txn)) t.after
            (word_lists n shape session.client (omega arith) t.at found t.place);
      } in
      let uncut = still_uncut session.client client (word_stays shape session.client found) t.uncut in
      goes_on session runs.fits.jobs runs.fits.driver t.job client s (calls_at_most session.jobs)
      (settles_along (calls_at_most session.jobs)) uncut client.call refl t.does
      (next_along session t.job client runs.opens runs.words uncut path client.call t.does s.lists)
