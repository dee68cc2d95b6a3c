-- The calls of a session's driver are asked of its client, for which there is room.
use Rattle.std.proofs.Common.{◌≡◌, ◌≤◌, ◌<◌, ◌+◌, ◌-◌, ◌^◌, ℕ, suc, zero, List, Option, Some, None}
use Rattle.std.proofs.Common.{Bool, true, false, refl, sym, ap, subst, ◌∙◌, arith}
use Rattle.std.specs.Prelude.{slice_get, IsSome, if◌then◌else◌, option_map}
use Rattle.nam_verbs.specs.declared.now.Now.{Now}
use Rattle.nam_verbs.specs.declared.now.Now.TheVariants.{At, Over}
use Rattle.nam_verbs.specs.VerbAt.{VerbAt}
use Rattle.nam_catalog.specs.declared.shape.Shape.{Shape}
use Rattle.nam_layout.specs.declared.field.Field.{Field}
use Rattle.nam_protocol.specs.declared.client.Answer.{Answer}
use Rattle.nam_protocol.specs.declared.client.Answer.TheVariants.{Nothing}
use Rattle.nam_protocol.specs.declared.client.Call.{Call}
use Rattle.nam_protocol.specs.declared.client.CallPoint.{CallPoint}
use Rattle.nam_protocol.specs.declared.client.ClientState.{ClientState}
use Rattle.nam_protocol.specs.declared.session.DriverPoint.{DriverPoint}
use Rattle.nam_protocol.specs.declared.session.DriverPoint.TheVariants.{ToBegin, ToAsk, ToTidy, ToCollect}
use Rattle.nam_protocol.specs.declared.session.DriverState.{DriverState}
use Rattle.nam_protocol.specs.declared.session.Job.{Job}
use Rattle.nam_protocol.specs.declared.session.SessionState.{SessionState}
use Rattle.nam_protocol.specs.AskedLaw.{call_at}
use Rattle.nam_calls.specs.Memory.{verb_there}
use Rattle.nam_protocol.specs.Client.{client_after, client_ask, client_verb, verb_of as verb_in}
use Rattle.nam_protocol.specs.Driver.{driver_next, driver_take, job_call, place_call}
use Rattle.nam_protocol.specs.Left.{Room}
use Rattle.nam_protocol.specs.Own.{MayAsk}
use Rattle.nam_protocol.specs.RoomLaw.{DriverCounts, IsWithin, PlaceCounts, both_rooms, call_room, room_left}
use Rattle.nam_protocol.specs.Session.{answer_now, call_taken, calls_at_most, settle, settled, taken}
use Rattle.nam_protocol.specs.SessionFits.{DriverFits, DriverPointFits, ops_of}
use Rattle.nam_protocol.proofs.AskedSession.{AsksSo, NowOf}
use Rattle.nam_protocol.proofs.EndsSession.{IsReady, takes_word}
use Rattle.nam_protocol.proofs.RoomDriver.{room_suffices}
use Rattle.nam_protocol.proofs.StaysLemmas.{still_uncut as same_uncut, word_stays}
use Rattle.nam_client.specs.declared.registers.Registers.{Registers}
use Rattle.nam_client.specs.Client.{less_room, ops_so_far, spare_of, verb_of}
use Rattle.nam_client.specs.Fits.{IsClientOf}
use Rattle.nam_client.specs.Registers.{call_of, client_of}
use Rattle.nam_worker.specs.Answering.{AnswersNext, AreJobs, IsAnswerTo}
use Rattle.nam_worker.specs.CallAnswers.{AnswersAs, NowAnswers}
use Rattle.nam_worker.specs.Session.{CanAskNext, HasRoomAfter, IsUncut, MayTakeAnswer, Occurs, after_word, asking}
use Rattle.nam_worker.specs.Session.{answered, at_once}
use Rattle.nam_worker.proofs.CallAnswers.{ask_answers, word_answers}
use Rattle.nam_worker.proofs.OpsCounted.{asked_ops, asked_worker, word_ops, word_worker}
use Rattle.nam_worker.proofs.SessionLemmas.{asked_uncut}
use Rattle.nam_worker.proofs.SessionLemmas.{NextOf, asked_may, between_ready, calls_enough, calls_left, calls_start}
use Rattle.nam_worker.proofs.SessionLemmas.{next_of, once_fewer, over_of, reached_so, settle_ends, settle_goes}
use Rattle.nam_worker.proofs.SessionLemmas.{settle_stops}

-- 1. Rooms

within_small : (small next total spare : Room) → IsWithin (both_rooms small next) total → IsWithin total spare
    → IsWithin small spare
within_small small next total spare both has = record {
  attempts = let l = both.attempts in let m = has.attempts in omega arith;
  ops = let l = both.ops in let m = has.ops in omega arith;
  tidies = let l = both.tidies in let m = has.tidies in omega arith;
}

within_less : (small next total spare : Room) → IsWithin (both_rooms small next) total → IsWithin total spare
    → IsWithin next (less_room spare small)
within_less small next total spare both has = record {
  attempts = let l = both.attempts in let m = has.attempts in omega arith;
  ops = let l = both.ops in let m = has.ops in omega arith;
  tidies = let l = both.tidies in let m = has.tidies in omega arith;
}

counts_at : (shape : Shape) (tries try : ℕ) (place : DriverPoint) → DriverPointFits shape tries try place
    → PlaceCounts tries try place
counts_at shape tries try ToBegin d = tt
counts_at shape tries try (ToAsk nth) d = tt
counts_at shape tries try (ToTidy keys nth again retry) d = (d.1, d.2)
counts_at shape tries try (ToCollect bucket keys nth retry) d = (d.1.1, d.1.2)

driver_counts : (shape : Shape) (driver : DriverState) → DriverFits shape driver → DriverCounts driver
driver_counts shape driver f = (f.0, f.1, counts_at shape driver.policy.tries driver.nth driver.place f.2)

-- 2. A call is asked

module _ (shape : Shape) (client : Registers) (driver : DriverState) (jobs : List Job)
    (can : CanAskNext shape client driver jobs) where
  abbrev session : SessionState
  session = asking client driver jobs

  ready : IsReady shape session × AsksSo session
  ready = between_ready shape can.of.limits can.worker can.start jobs can.policy can.serves session can.between

  pub counts : DriverCounts driver
  counts = driver_counts shape driver ready.0.driver

  module _ (asked : Call) (next : driver_next jobs driver ≡ Some asked) where
    next_is : NextOf session asked
    next_is = next_of session asked next

    pub may_be_asked : MayAsk shape (client_of client) asked
    may_be_asked = asked_may shape can.of.limits session ready.0 asked next_is ready.1

    takes : (end : Answer)
        → IsWithin (both_rooms (call_room shape asked) (room_left shape jobs (driver_take jobs driver end)))
        (room_left shape jobs driver)
    takes end = ((room_suffices shape).1 jobs driver asked end counts next).1

    pub has_room : IsWithin (call_room shape asked) (spare_of client)
    has_room =
        within_small (call_room shape asked) (room_left shape jobs (driver_take jobs driver Nothing))
        (room_left shape jobs driver) (spare_of client) (takes Nothing) can.room

    pub is_counted : ops_so_far (client_of client).txn + (call_room shape asked).ops < 2 ^ 32
    is_counted = let r = (takes Nothing).ops in let c = can.counted in omega arith

    -- the client after it was asked
    module _ (after : Registers) (client_is : client_of after ≡ client_ask shape (client_of client) asked)
        (spare_is : spare_of after ≡ less_room (spare_of client) (call_room shape asked)) where
      left_over : (end : Answer)
          → IsWithin (room_left shape jobs (driver_take jobs driver end)) (spare_of after)
      left_over end =
          subst (IsWithin (room_left shape jobs (driver_take jobs driver end))) (sym spare_is)
          (within_less (call_room shape asked) (room_left shape jobs (driver_take jobs driver end))
          (room_left shape jobs driver) (spare_of client) (takes end) can.room)

      still_counted : (end : Answer)
          → ops_so_far (client_of after).txn + (room_left shape jobs (driver_take jobs driver end)).ops < 2 ^ 32
      still_counted end =
          let o = subst (λ c. ops_so_far c.txn ≤ ops_so_far (client_of client).txn + (call_room shape asked).ops)
          (sym client_is) (asked_ops shape (client_of client) asked) in
          let r = (takes end).ops in
          let c = can.counted in
          omega arith

      pub room_after : HasRoomAfter shape after driver jobs
      room_after = record { room = λ end some. left_over end; counted = λ end some. still_counted end }

      module _ (end : Answer) (answered : answer_now (client_of after).call ≡ Some end) where
        asked_answered : answer_now (client_ask shape (client_of client) asked).call ≡ Some end
        asked_answered = ap (λ (c : ClientState). answer_now c.call) (sym client_is) ∙ answered

        answers_call : (now : Option (Now CallPoint Answer)) → now ≡ Some (Over end) → NowAnswers asked now
            → IsAnswerTo asked end
        answers_call now e answers = subst (NowAnswers asked) e answers

        pub answers : AnswersNext (driver_next jobs driver) end
        answers =
            subst (λ n. AnswersNext n end) (sym next)
            (answers_call (client_ask shape (client_of client) asked).call
            (over_of (client_ask shape (client_of client) asked).call end asked_answered)
            (ask_answers shape (client_of client) asked may_be_asked.fits))

        pub next_after : (driver_after : DriverState) → driver_after ≡ driver_take jobs driver end
            → IsClientOf shape after → CanAskNext shape after driver_after jobs
        next_after driver_after is of = record {
          of = of;
          worker = can.worker;
          start = can.start;
          policy = can.policy;
          serves = can.serves;
          between =
              rw (is, client_is) (at_once session asked end can.between next asked_answered);
          room = rw is (left_over end);
          counted = rw is (still_counted end);
          jobs_are = can.jobs_are;
        }

-- 3. Calls are asked one after another

-- so many more of them come to the same
pub record Settles (shape : Shape) (jobs : List Job) (start : SessionState) (client : Registers) (driver : DriverState)
    : Type 0 where
  pub can : CanAskNext shape client driver jobs
  pub calls : ℕ
  pub few : calls_left shape jobs driver ≤ calls
  pub same : settle shape calls (asking client driver jobs) ≡ settled shape start
  pub worker : (client_of client).worker ≡ start.client.worker

pub settles_first : (shape : Shape) (jobs : List Job) (client : Registers) (driver : DriverState)
    → CanAskNext shape client driver jobs → Settles shape jobs (asking client driver jobs) client driver
settles_first shape jobs client driver can =
    record { can = can; calls = calls_at_most jobs; few = calls_enough shape jobs driver; same = refl; worker = refl }

module _ (shape : Shape) (jobs : List Job) (start : SessionState) (client : Registers) (driver : DriverState)
    (s : Settles shape jobs start client driver) where
  pub settled_over : driver_next jobs driver ≡ None → asking client driver jobs ≡ settled shape start
  settled_over over = sym (settle_ends shape s.calls (asking client driver jobs) over) ∙ s.same

  pub still_uncut : IsUncut (client_of client)
  still_uncut =
      (between_ready shape s.can.of.limits s.can.worker s.can.start jobs s.can.policy s.can.serves
      (asking client driver jobs) s.can.between).0.uncut

  pub over_room : driver_next jobs driver ≡ None → HasRoomAfter shape client driver jobs
  over_room over = record {
    room = λ end some. absurd (let none = subst IsSome over some in cc);
    counted = λ end some. absurd (let none = subst IsSome over some in cc);
  }

  at_least_one : (n : ℕ) → calls_left shape jobs driver ≤ n → (m : ℕ) × (n ≡ suc m)
  at_least_one zero l =
      let o = calls_start shape (ops_of (slice_get jobs driver.job)) driver.place in
      absurd (omega arith)
  at_least_one (suc m) l = (m, refl)

  module _ (asked : Call) (next : driver_next jobs driver ≡ Some asked) (after : Registers)
      (client_is : client_of after ≡ client_ask shape (client_of client) asked)
      (spare_is : spare_of after ≡ less_room (spare_of client) (call_room shape asked)) where
    pub settled_here : answer_now (client_of after).call ≡ None → asking after driver jobs ≡ settled shape start
    settled_here none =
        let one = at_least_one s.calls s.few in
        let session = asking client driver jobs in
        ap (λ c. record session { client = c }) client_is
        ∙ sym (settle_stops shape one.0 session asked next
        (ap (λ (c : ClientState). answer_now c.call) (sym client_is) ∙ none))
        ∙ ap (λ n. settle shape n session) (sym one.1) ∙ s.same

    pub uncut_here : IsUncut (client_of after)
    uncut_here =
        let session = asking client driver jobs in
        let ready = between_ready shape s.can.of.limits s.can.worker s.can.start jobs s.can.policy s.can.serves session
        s.can.between in
        subst IsUncut (sym client_is)
        (asked_uncut shape s.can.of.limits session ready.0 asked (next_of session asked next))

    pub worker_here : (client_of after).worker ≡ start.client.worker
    worker_here =
        ap (λ (c : ClientState). c.worker) client_is ∙ asked_worker shape (client_of client) asked ∙ s.worker

    module _ (end : Answer) (answered : answer_now (client_of after).call ≡ Some end) (driver_after : DriverState)
        (driver_is : driver_after ≡ driver_take jobs driver end) where
      here_answered : answer_now (client_ask shape (client_of client) asked).call ≡ Some end
      here_answered = ap (λ (c : ClientState). answer_now c.call) (sym client_is) ∙ answered

      few_after : (calls : ℕ) → calls_left shape jobs driver ≤ suc calls → calls_left shape jobs driver_after ≤ calls
      few_after calls few =
          let session = asking client driver jobs in
          let ready = between_ready shape s.can.of.limits s.can.worker s.can.start jobs s.can.policy s.can.serves session
          s.can.between in
          subst (λ d. calls_left shape jobs d ≤ calls) (sym driver_is)
          (once_fewer shape s.can.of.limits session ready.0 asked (next_of session asked next) end
          (over_of (client_ask shape (client_of client) asked).call end here_answered) calls few)

      pub settles_on : IsClientOf shape after → Settles shape jobs start after driver_after
      settles_on of =
          let one = at_least_one s.calls s.few in
          let session = asking client driver jobs in
          record {
            can =
                next_after shape client driver jobs s.can asked next after client_is spare_is end answered driver_after
                driver_is of;
            calls = one.0;
            few = few_after one.0 (subst (λ n. calls_left shape jobs driver ≤ n) one.1 s.few);
            same =
                rw (driver_is, client_is) (sym (settle_goes shape one.0 session asked end next here_answered)
                ∙ ap (λ n. settle shape n session) (sym one.1) ∙ s.same);
            worker = worker_here;
          }

      pub calls_fall : calls_left shape jobs driver_after < calls_left shape jobs driver
      calls_fall =
          let one = at_least_one (calls_left shape jobs driver) (omega arith) in
          let l = few_after one.0 (let e = one.1 in omega arith) in
          let e = one.1 in
          omega arith

-- 4. A word is taken

module _ (shape : Shape) (client : Registers) (driver : DriverState) (jobs : List Job) (of : IsClientOf shape client)
    (occurs : Occurs shape (asking client driver jobs)) (room : HasRoomAfter shape client driver jobs)
    (verb : VerbAt Field) (stands : client_verb shape (client_of client) ≡ Some verb) (found : ℕ) (after : Registers)
    (client_is : client_of after ≡ client_after shape (client_of client) found)
    (spare_is : spare_of after ≡ spare_of client) where
  abbrev now_session : SessionState
  now_session = asking client driver jobs

  word_counted : (end : Answer) → IsSome (driver_next jobs driver)
      → ops_so_far (client_of after).txn + (room_left shape jobs (driver_take jobs driver end)).ops < 2 ^ 32
  word_counted end some =
      let o = subst (λ c. ops_so_far c.txn ≤ ops_so_far (client_of client).txn) (sym client_is)
      (word_ops shape (client_of client) found) in
      let c = room.counted end some in
      omega arith

  pub word_uncut : IsUncut (client_of after)
  word_uncut =
      let s = reached_so shape of.limits occurs.worker occurs.start jobs occurs.policy occurs.serves now_session
      occurs.reached in
      let t = takes_word shape of.limits now_session verb found s.0 stands in
      subst IsUncut (sym client_is)
      (same_uncut (client_of client) (client_after shape (client_of client) found)
      (word_stays shape (client_of client) found) t.uncut)

  pub word_worker_is : (client_of after).worker ≡ (client_of client).worker
  word_worker_is = ap (λ (c : ClientState). c.worker) client_is ∙ word_worker shape (client_of client) found

  pub word_room : HasRoomAfter shape after driver jobs
  word_room = record { room = λ end some. rw spare_is (room.room end some); counted = word_counted }

  module _ (end : Answer) (answered : answer_now (client_of after).call ≡ Some end) where
    word_answered : answer_now (client_after shape (client_of client) found).call ≡ Some end
    word_answered = ap (λ (c : ClientState). answer_now c.call) (sym client_is) ∙ answered

    answers_at : (o : Option Job) → slice_get jobs driver.job ≡ o → (job : Job) → o ≡ Some job
        → IsAnswerTo (place_call job driver.nth driver.place) end → AnswersNext (driver_next jobs driver) end
    answers_at o here job is a =
        subst (λ p. AnswersNext (job_call driver p) end) (sym (here ∙ is)) a

    pub word_answers_next : AnswersNext (driver_next jobs driver) end
    word_answers_next =
        let s = reached_so shape of.limits occurs.worker occurs.start jobs occurs.policy occurs.serves now_session
        occurs.reached in
        let t = takes_word shape of.limits now_session verb found s.0 stands in
        let call = place_call t.job driver.nth driver.place in
        let is : call_at t.at ≡ call = subst (NowOf call) t.is (s.1.call t.job t.here) in
        let a = subst (AnswersAs (call_at t.at)) t.after (word_answers shape (client_of client) t.at found t.place) in
        let b = subst (NowAnswers (call_at t.at))
        (over_of (client_after shape (client_of client) found).call end word_answered) a in
        answers_at (slice_get jobs driver.job) refl t.job t.here (subst (λ c. IsAnswerTo c end) is b)

    next_stands : IsSome (driver_next jobs driver)
    next_stands = some_next (driver_next jobs driver) word_answers_next
      where
        some_next : (o : Option Call) → AnswersNext o end → IsSome o
        some_next None a = absurd a
        some_next (Some asked) a = refl

    pub word_next : (client_of client).medic ≡ None → AreJobs jobs → IsClientOf shape after
        → (driver_after : DriverState) → driver_after ≡ driver_take jobs driver end
        → CanAskNext shape after driver_after jobs
    word_next none are of_after driver_after is = record {
      of = of_after;
      worker = occurs.worker;
      start = occurs.start;
      policy = occurs.policy;
      serves = occurs.serves;
      between =
          rw (is, client_is) (after_word now_session verb found end occurs.reached stands none word_answered);
      room = rw (is, spare_is) (room.room end next_stands);
      counted = rw is (word_counted end next_stands);
      jobs_are = are;
    }

  pub may_take_answer : (client_of client).medic ≡ None → AreJobs jobs → IsClientOf shape after
      → MayTakeAnswer shape after driver jobs
  may_take_answer none are of_after = record {
    of = of_after;
    room = word_room;
    uncut = word_uncut;
    jobs_are = are;
    answers = word_answers_next;
    next = λ end answered driver_after is. word_next end answered none are of_after driver_after is;
  }

-- 5. A call that has a verb isn't answered

module _ (shape : Shape) (a : Registers) where
  running : (call : Option (Now CallPoint Answer))
      → IsSome (option_map (verb_there shape) (verb_in shape (client_of a) call)) → answer_now call ≡ None
  running None some = refl
  running (Some (At at)) some = refl
  running (Some (Over end)) some = absurd (cc)

  running_unless : (cut : Bool) → (call : Option (Now CallPoint Answer))
      → IsSome (option_map (verb_there shape) (if cut then None else verb_in shape (client_of a) call))
      → answer_now call ≡ None
  running_unless true call some = absurd (cc)
  running_unless false call some = running call some

  pub unanswered : IsSome (verb_of shape a) → answer_now (client_of a).call ≡ None
  unanswered some = running_unless a.is_cut (call_of a.step a) some

-- 6. A word was taken, and then its answer

pub word_taken : (shape : Shape) (client after : ClientState) (driver : DriverState) (jobs : List Job) (found : ℕ)
    → after ≡ client_after shape client found
    → answered shape (record { client = after; driver = driver; jobs = jobs })
    ≡ call_taken shape (record { client = client; driver = driver; jobs = jobs }) found
word_taken shape client after driver jobs found is = rw is refl
