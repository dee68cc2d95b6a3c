-- A session lists no more events than the room for its jobs has.
use Rattle.std.proofs.Common.{◌≡◌, ℕ, ◌+◌, ◌≤◌, List, ◌∷◌, length, drop, refl, sym, ◌∙◌, ap}
use Rattle.std.proofs.Common.{arith, true, false, Option, Some, None}
use Rattle.std.specs.Prelude.{slice_get, is_some}
use Rattle.nam_verbs.specs.declared.now.Now.{Now}
use Rattle.nam_verbs.specs.declared.now.Now.TheVariants.{At, Over}
use Rattle.nam_catalog.specs.declared.shape.Shape.{Shape}
use Rattle.nam_protocol.specs.declared.client.Answer.{Answer}
use Rattle.nam_protocol.specs.declared.client.CallPoint.{CallPoint}
use Rattle.nam_protocol.specs.declared.client.CallPoint.TheVariants.{Beginning, InTxn, Scanning, Seeking, Moving}
use Rattle.nam_protocol.specs.declared.client.CallPoint.TheVariants.{Snapping, Collecting}
use Rattle.nam_protocol.specs.declared.client.Open.{Open}
use Rattle.nam_protocol.specs.declared.client.ClientState.{ClientState}
use Rattle.nam_protocol.specs.declared.session.Job.{Job}
use Rattle.nam_protocol.specs.declared.session.DriverPoint.{DriverPoint}
use Rattle.nam_protocol.specs.declared.session.DriverPoint.TheVariants.{ToBegin, ToAsk, ToTidy, ToCollect}
use Rattle.nam_protocol.specs.declared.session.SessionState.{SessionState}
use Rattle.nam_protocol.specs.Client.{client_ask, client_after}
use Rattle.nam_protocol.specs.Session.{taken}
use Rattle.nam_protocol.specs.Session.{session_log}
use Rattle.nam_protocol.specs.Driver.{place_call, job_call, driver_next}
use Rattle.nam_protocol.specs.Left.{Room, room_for}
use Rattle.nam_protocol.specs.CutClient.{finish_of}
use Rattle.nam_protocol.specs.declared.session.DriverState.{DriverState}
use Rattle.si_model.specs.declared.log.Finish.{Finish}
use Rattle.nam_protocol.specs.SessionFits.{is_running, SessionFits}
use Rattle.nam_protocol.specs.RoomLaw.{DriverCounts, driver_room, room_left}
use Rattle.nam_protocol.specs.SessionKeeps.{is_asking}
use Rattle.nam_protocol.specs.ClientEvents.{listed, is_open_after, NowLists, closing}
use Rattle.nam_protocol.specs.EventsLaw.{EventsLaw}
use Rattle.nam_protocol.proofs.OpensDriver.{asks_after, is_paid, one, one_at_most}
use Rattle.nam_protocol.proofs.EndsDriver.{drop_from}
use Rattle.nam_protocol.proofs.EndsSession.{some_of}
use Rattle.nam_protocol.proofs.GoesSession.{NextHolds, SessionKeeps, reached_kept}
use Rattle.nam_protocol.proofs.RunsClient.{NowDoes}
use Rattle.nam_protocol.proofs.RoomDriver.{room_suffices}
use Rattle.nam_protocol.proofs.EventsClient.{log_lists}
use Rattle.nam_protocol.proofs.RunsClient.{IsAnswered}

module _ (shape : Shape) (whole : ℕ) where
  -- 1. A session

  -- the events, those of the calls to come, and that of an open attempt are within the whole
  record Holds (session : SessionState) : Type 0 where
    counts : DriverCounts session.driver
    opened : is_some session.client.txn ≡ is_asking session.driver.place
    within : length session.client.log.events + (room_left shape session.jobs session.driver).attempts
        + (room_left shape session.jobs session.driver).tidies + one (is_asking session.driver.place) ≤ whole

  module _ (session : SessionState) (job : Job) (holds : Holds session)
      (here : slice_get session.jobs session.driver.job ≡ Some job) (client : ClientState) where
    abbrev events : ℕ
    events = length session.client.log.events

    taken_holds : (end : Answer) → IsAnswered shape session.driver.place job.ops client.txn end
        → length client.log.events ≤ events + listed end
        → is_some client.txn ≡ is_open_after (is_some session.client.txn) end
        → Holds (taken session client end)
    taken_holds end does many opened =
        let place = session.driver.place in
        let call = place_call job session.driver.nth place in
        let next : driver_next session.jobs session.driver ≡ Some call = ap (job_call session.driver) here in
        let r = (room_suffices shape).1 session.jobs session.driver call end holds.counts next in
        let asks = asks_after shape session.jobs session.driver job.ops client.txn place end does in
        let paid = is_paid shape session.jobs session.driver job.ops client.txn job.txn session.driver.nth place end
        does in
        let flag = ap one asks in
        record {
          counts = r.0;
          opened = opened ∙ ap (λ was. is_open_after was end) holds.opened ∙ sym asks;
          within = let h = holds.within in let a = r.1.attempts in let t = r.1.tidies in omega arith;
        }

    next_holds : (now : Option (Now CallPoint Answer)) → NowDoes shape session.driver.place job.ops client.txn now
        → NowLists events (is_some session.client.txn) client.log.events client.txn now
        → NextHolds shape Holds session client now
    next_holds None does lists = tt
    next_holds (Some (At at)) does lists = record {
      counts = holds.counts;
      opened = lists.1 ∙ holds.opened;
      within = let h = holds.within in let l = lists.0 in omega arith;
    }
    next_holds (Some (Over end)) does lists = taken_holds end does lists.0 lists.1

  session_holds : SessionKeeps shape Holds
  session_holds = record {
    word = λ session place found job fits uncut e holds s.
        let client = client_after shape session.client found in
        next_holds session job holds s.here client client.call s.does s.lists;
    asked = λ session job ready uncut holds s.
        let client = client_ask shape session.client (place_call job session.driver.nth session.driver.place) in
        next_holds session job holds s.here client client.call s.does s.lists;
    cut = λ session holds. record { counts = holds.counts; opened = holds.opened; within = holds.within };
    treated = λ session medic holds. record { counts = holds.counts; opened = holds.opened; within = holds.within };
  }

  -- 2. The log at the end

  closing_most : (finish : Option Finish) (txn : Option Open) (place : CallPoint)
      → closing finish txn (Some (At place)) ≤ 2
  closing_most finish txn (InTxn at) = omega arith
  closing_most finish txn (Beginning t n at) = let l = one_at_most (is_some finish) in omega arith
  closing_most finish txn (Scanning table low high at) = let l = one_at_most (is_some finish) in omega arith
  closing_most finish txn (Seeking table key passed) = let l = one_at_most (is_some finish) in omega arith
  closing_most finish txn (Moving table key position at) = let l = one_at_most (is_some finish) in omega arith
  closing_most finish txn (Snapping bucket at) = let l = one_at_most (is_some finish) in omega arith
  closing_most finish txn (Collecting bucket prefix seen at) = let l = one_at_most (is_some finish) in omega arith

  -- the call that the driver has asked has room still
  abbrev to_pay : SessionState → ℕ
  to_pay session = (room_left shape session.jobs session.driver).attempts
      + (room_left shape session.jobs session.driver).tidies + one (is_asking session.driver.place)

  abbrev place_to_pay : DriverState → Job → List Job → DriverPoint → ℕ
  place_to_pay driver job jobs place =
      (driver_room shape (record driver { place = place }) (job ∷ jobs)).attempts
      + (driver_room shape (record driver { place = place }) (job ∷ jobs)).tidies + one (is_asking place)

  place_pays : (driver : DriverState) (job : Job) (jobs : List Job) (place : DriverPoint)
      → 1 ≤ place_to_pay driver job jobs place
  place_pays driver job jobs ToBegin = omega arith
  place_pays driver job jobs (ToAsk nth) = omega arith
  place_pays driver job jobs (ToTidy keys nth false retry) = omega arith
  place_pays driver job jobs (ToTidy keys nth true retry) = omega arith
  place_pays driver job jobs (ToCollect bucket keys nth retry) = omega arith

  call_pays : (session : SessionState) (job : Job) → slice_get session.jobs session.driver.job ≡ Some job
      → 1 ≤ to_pay session
  call_pays session job here =
      let driver = session.driver in
      let rest = drop (driver.job + 1) session.jobs in
      let same = ap (driver_room shape driver) (drop_from session.jobs driver.job job here) in
      let a = ap (λ (r : Room). r.attempts) same in
      let t = ap (λ (r : Room). r.tidies) same in
      let l = place_pays driver job rest driver.place in
      omega arith

  -- what closing the client lists is paid by the call that runs or by the open attempt, and by one event
  closing_paid : (session : SessionState) → Holds session → (now : Option (Now CallPoint Answer))
      → is_running now ≡ is_some (slice_get session.jobs session.driver.job)
      → closing (finish_of session.client.medic) session.client.txn now ≤ to_pay session + 1
  closing_paid session holds None runs =
      let e = ap one holds.opened in
      let l = one_at_most (is_some (finish_of session.client.medic)) in
      omega arith
  closing_paid session holds (Some (Over end)) runs =
      let e = ap one holds.opened in
      let l = one_at_most (is_some (finish_of session.client.medic)) in
      omega arith
  closing_paid session holds (Some (At place)) runs =
      let job = some_of (slice_get session.jobs session.driver.job) (sym runs) in
      let p = call_pays session job.0 job.1 in
      let l = closing_most (finish_of session.client.medic) session.client.txn place in
      omega arith

  log_within : (session : SessionState) → SessionFits shape session → Holds session
      → length (session_log shape session).events ≤ whole + 1
  log_within session fits holds =
      let closed = log_lists shape session.client in
      let paid = closing_paid session holds session.client.call fits.stands in
      let h = holds.within in
      omega arith

pub events_within : EventsLaw
events_within shape limits worker start jobs policy is number fit least session reached =
    let room = (room_suffices shape).0 policy jobs least in
    let whole = (room_for shape policy jobs).attempts + (room_for shape policy jobs).tidies in
    let s = reached_kept shape limits (Holds shape whole) (session_holds shape whole) worker start jobs policy is
    number fit least record {
      counts = room.0;
      opened = refl;
      within = let a = room.1.attempts in let t = room.1.tidies in omega arith;
    } session reached in
    log_within shape whole session s.0 s.1
