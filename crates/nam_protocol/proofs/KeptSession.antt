-- Whatever each word of a client and each call that it may be asked keep, its session keeps.
use Rattle.std.proofs.Common.{take, subst, ◌≡◌, ℕ, ◌≤◌, List, length, refl, sym, ◌∙◌, ap}
use Rattle.std.proofs.Common.{true, false, Option, Some, None}
use Rattle.std.specs.Prelude.{slice_get, is_some, IsSome}
use Rattle.std.specs.List.{AllByRecursion}
use Rattle.std.proofs.lemmas.Bool.{false≢true}
use Rattle.si_model.specs.declared.op.Op.{Op}
use Rattle.si_model.specs.declared.op.Policy.{Policy}
use Rattle.si_model.specs.Rows.{key_at}
use Rattle.si_model.specs.declared.op.Op.TheVariants as op
use Rattle.nam_verbs.specs.declared.now.Now.{Now}
use Rattle.nam_verbs.specs.declared.now.Now.TheVariants.{At, Over}
use Rattle.nam_verbs.specs.VerbAt.{VerbAt}
use Rattle.nam_catalog.specs.declared.shape.Shape.{Shape}
use Rattle.nam_catalog.specs.Fits.{FitsLimits}
use Rattle.nam_catalog.specs.Greatest.{greatest_number}
use Rattle.nam_layout.specs.declared.field.Field.{Field}
use Rattle.nam_calls.specs.Fits.{IsOf}
use Rattle.nam_protocol.specs.declared.client.Answer.{Answer}
use Rattle.nam_protocol.specs.declared.client.CallPoint.{CallPoint}
use Rattle.nam_protocol.specs.declared.client.ClientState.{ClientState}
use Rattle.nam_protocol.specs.declared.client.Open.{Open}
use Rattle.nam_protocol.specs.declared.session.DriverPoint.{DriverPoint}
use Rattle.nam_protocol.specs.declared.session.DriverPoint.TheVariants.{ToBegin, ToAsk, ToTidy, ToCollect}
use Rattle.nam_protocol.specs.declared.session.Job.{Job}
use Rattle.nam_protocol.specs.declared.session.SessionState.{SessionState}
use Rattle.nam_protocol.specs.Client.{client_after, client_ask}
use Rattle.nam_protocol.specs.ClientEvents.{NowLists, is_open_after}
use Rattle.nam_protocol.specs.ClientFits.{CallFits, OpenFits}
use Rattle.nam_protocol.specs.Driver.{op_call, place_call}
use Rattle.nam_protocol.specs.EventsLaw.{IsReached}
use Rattle.nam_protocol.specs.Own.{MayAsk, Rests}
use Rattle.nam_protocol.specs.Session.{new_session, session_after, session_cut}
use Rattle.nam_protocol.specs.Session.{session_verb}
use Rattle.nam_protocol.specs.SessionFits.{DriverPointFits, JobFits, OpenAsked, OpsFit, SessionFits, is_running, ops_of}
use Rattle.nam_protocol.specs.TxnFits.{IsKeyOf}
use Rattle.nam_protocol.specs.AnswersLaw.{SessionCarriesLaw}
use Rattle.nam_protocol.specs.Carries.{Carries}
use Rattle.nam_protocol.specs.Own.{OpenClient, OwnOk, StageClient}
use Rattle.nam_protocol.specs.SessionKeeps.{ClientKeeps, OpensAsked, SessionKeepsLaw, is_asking}
use Rattle.nam_protocol.proofs.AnswersClient.{asked_carries, cut_carries, treated_carries, new_carries, word_carries}
use Rattle.nam_protocol.proofs.GoesSession.{NextHolds, SessionKeeps, cut_kept, new_kept, reached_kept, word_kept}
use Rattle.nam_protocol.proofs.OpenLemmas.{open_asked, open_cut, open_word}
use Rattle.nam_protocol.proofs.OwnLemmas.{own_asked, own_cut, own_word}
use Rattle.nam_protocol.proofs.StageLemmas.{stage_asked, stage_cut, stage_word}
use Rattle.nam_protocol.specs.Telling.{new_client}
use Rattle.nam_protocol.proofs.EndsSession.{IsReady, nth_holds, on_key, on_table}
use Rattle.nam_protocol.proofs.EndsDriver.{AsksFrom}
use Rattle.nam_protocol.proofs.OpensDriver.{asks_after}
use Rattle.nam_protocol.proofs.FallsKeys.{all_at}
use Rattle.nam_protocol.proofs.RunsClient.{NowDoes}

module _ (shape : Shape) where
  -- 1. The driver's calls may be asked

  op_fits : (opened : Option Open) (ops : List Op) (nth : ℕ) (o : Option Op) → slice_get ops nth ≡ o
      → OpenFits shape opened → OpenAsked opened (take nth ops) → OpsFit shape ops → IsSome opened
      → CallFits shape opened (op_call o)
  op_fits None ops nth o here f a fit some = absurd a
  op_fits (Some attempt) ops nth None here f a fit some = tt
  op_fits (Some attempt) ops nth (Some (op.Get t k)) here f a fit some =
      on_key shape ops nth (op.Get t k) here fit refl attempt f a
  op_fits (Some attempt) ops nth (Some (op.Put t k v)) here f a fit some =
      on_key shape ops nth (op.Put t k v) here fit refl attempt f a
  op_fits (Some attempt) ops nth (Some (op.Add t k i up by)) here f a fit some =
      on_key shape ops nth (op.Add t k i up by) here fit refl attempt f a
  op_fits (Some attempt) ops nth (Some (op.Del t k)) here f a fit some =
      on_key shape ops nth (op.Del t k) here fit refl attempt f a
  op_fits (Some attempt) ops nth (Some (op.Need t k i least)) here f a fit some =
      on_key shape ops nth (op.Need t k i least) here fit refl attempt f a
  op_fits (Some attempt) ops nth (Some (op.Guard t k)) here f a fit some =
      on_key shape ops nth (op.Guard t k) here fit refl attempt f a
  op_fits (Some attempt) ops nth (Some (op.Scan t low high)) here f a fit some =
      (some, on_table shape ops nth (op.Scan t low high) here fit t low high refl)

  place_fits : (opened : Option Open) (ops : List Op) (txn try tries : ℕ) (place : DriverPoint)
      → DriverPointFits shape tries try place → OpenFits shape opened → AsksFrom shape place ops opened
      → OpsFit shape ops → is_some opened ≡ is_asking place
      → CallFits shape opened (place_call record { txn = txn; ops = ops } try place)
  place_fits opened ops txn try tries ToBegin d f a fit is = is
  place_fits opened ops txn try tries (ToAsk nth) d f a fit is =
      op_fits opened ops nth (slice_get ops nth) refl f a fit is
  place_fits opened ops txn try tries (ToTidy keys nth again retry) d f a fit is =
      (is, all_at (IsKeyOf shape) (key_at 0 0) keys nth d.0 d.1)
  place_fits opened ops txn try tries (ToCollect bucket keys nth retry) d f a fit is = (is, d.0)

  rests_now : (now : Option (Now CallPoint Answer)) → is_running now ≡ false → Rests now
  rests_now None e = tt
  rests_now (Some (At place)) e = absurd (false≢true (sym e))
  rests_now (Some (Over end)) e = tt

  -- the call that its driver asks may be asked
  pub may_ask : (session : SessionState) (job : Job) → IsReady shape session → session.client.cut ≡ false
      → OpensAsked session → slice_get session.jobs session.driver.job ≡ Some job
      → MayAsk shape session.client (place_call job session.driver.nth session.driver.place)
  may_ask session job ready uncut opened here = record {
    runs = uncut;
    rests = rests_now session.client.call ready.rests;
    fits = place_fits session.client.txn job.ops job.txn session.driver.nth session.driver.policy.tries
        session.driver.place ready.driver.2 ready.client.1
        (subst (λ j. AsksFrom shape session.driver.place (ops_of j) session.client.txn) here ready.asks)
        (nth_holds (JobFits shape) session.jobs session.driver.job job ready.jobs here) opened;
  }

-- 2. A session

module _ (shape : Shape) (limits : FitsLimits shape) (P : ClientState → Type 0) (keeps : ClientKeeps shape P) where
  -- a transaction is open exactly for its calls, and the client is so
  pub record Holds (session : SessionState) : Type 0 where
    pub opened : OpensAsked session
    pub client : P session.client

  next_holds : (session : SessionState) (job : Job) (client : ClientState) → Holds session → P client
      → (now : Option (Now CallPoint Answer)) → NowDoes shape session.driver.place job.ops client.txn now
      → NowLists (length session.client.log.events) (is_some session.client.txn) client.log.events client.txn now
      → NextHolds shape Holds session client now
  next_holds session job client holds p None does lists = tt
  next_holds session job client holds p (Some (At at)) does lists =
      record { opened = lists.1 ∙ holds.opened; client = p }
  next_holds session job client holds p (Some (Over end)) does lists =
      let asks = asks_after shape session.jobs session.driver job.ops client.txn session.driver.place end does in
      record { opened = lists.1 ∙ ap (λ was. is_open_after was end) holds.opened ∙ sym asks; client = p }

  pub session_holds : SessionKeeps shape Holds
  session_holds = record {
    word = λ session place found job fits uncut e holds s.
        let client = client_after shape session.client found in
        next_holds session job client holds (keeps.word session.client place found fits.client uncut e holds.client)
        client.call s.does s.lists;
    asked = λ session job ready uncut holds s.
        let c = place_call job session.driver.nth session.driver.place in
        let client = client_ask shape session.client c in
        next_holds session job client holds
        (keeps.asked session.client c ready.client (may_ask shape session job ready uncut holds.opened s.here)
        holds.client)
        client.call s.does s.lists;
    cut = λ session holds. record { opened = holds.opened; client = keeps.cut session.client holds.client };
    treated = λ session medic holds.
        record { opened = holds.opened; client = keeps.treated session.client medic holds.client };
  }

  -- so by each word of a verb that stands, by a stop, and of each session that occurs
  pub word_holds : (session : SessionState) (verb : VerbAt Field) (found : ℕ) → SessionFits shape session
      → session_verb shape session ≡ Some verb → Holds session → Holds (session_after shape session found)
  word_holds = word_kept shape limits Holds session_holds

  pub cut_holds : (session : SessionState) → Holds session → Holds (session_cut shape.form session)
  cut_holds = cut_kept shape limits Holds session_holds

  module _ (worker start : ℕ) (jobs : List Job) (policy : Policy) (is : IsOf shape.workers worker)
      (number : start ≤ greatest_number shape.form) (fit : AllByRecursion (JobFits shape) jobs)
      (least : 1 ≤ policy.tries) where
    pub new_holds : P (new_client worker start) → Holds (new_session shape (new_client worker start) jobs policy)
    new_holds p =
        new_kept shape limits Holds session_holds worker start jobs policy is number fit least
        record { opened = refl; client = p }

    pub reached_holds : P (new_client worker start) → (session : SessionState)
        → IsReached shape worker start jobs policy session → SessionFits shape session × Holds session
    reached_holds p =
        reached_kept shape limits Holds session_holds worker start jobs policy is number fit least
        record { opened = refl; client = p }

-- 3. Tests, and what is known of clients

pub session_keeps : SessionKeepsLaw
session_keeps shape limits worker start jobs policy is number fit least test keeps new session reached =
    (reached_holds shape limits (λ client. test client ≡ true) keeps worker start jobs policy is number fit least new
    session reached).1.client

pub carries_keeps : (shape : Shape) → ClientKeeps shape Carries
carries_keeps shape = record {
  word = λ client place found fits uncut e. word_carries shape client found fits;
  asked = λ client asked fits. asked_carries shape client asked;
  cut = cut_carries;
  treated = treated_carries;
}

pub own_keeps : (shape : Shape) (worker : ℕ) → ClientKeeps shape (OwnOk shape worker)
own_keeps shape worker = record {
  word = λ client place found fits uncut. own_word shape worker client place found fits;
  asked = λ client asked fits. own_asked shape worker client asked;
  cut = own_cut shape worker;
  treated = λ client medic own.
      record { worker_is = own.worker_is; start_is = own.start_is; opened = own.opened };
}

pub stage_keeps : (shape : Shape) → ClientKeeps shape StageClient
stage_keeps shape = record {
  word = λ client place found fits uncut. stage_word shape client place found fits;
  asked = λ client asked fits may stage. stage_asked shape client asked may;
  cut = stage_cut;
  treated = λ client medic stage. stage;
}

pub open_keeps : (shape : Shape) → ClientKeeps shape OpenClient
open_keeps shape = record {
  word = λ client place found fits uncut e. open_word shape client found;
  asked = λ client asked fits may opens. open_asked shape client asked may;
  cut = open_cut;
  treated = λ client medic open_. open_;
}

pub session_carries : SessionCarriesLaw
session_carries shape limits worker start jobs policy is number fit least session reached =
    (reached_holds shape limits Carries (carries_keeps shape) worker start jobs policy is number fit least
    (new_carries worker start) session reached).1.client
