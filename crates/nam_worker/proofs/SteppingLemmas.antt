-- A session that begins, and that takes a word.
use Rattle.std.proofs.Common.{◌≡◌, ◌<◌, ℕ, Bool, true, false, List, [], ◌∷◌, Option, Some, None, inl}
use Rattle.std.proofs.Common.{refl, sym, ap, subst, ◌∙◌, arith}
use Rattle.std.proofs.lemmas.Bool.{false≢true}
use Rattle.std.specs.Prelude.{IsSome, if◌then◌else◌}
use Rattle.std.specs.List.{AllByRecursion}
use Rattle.si_model.specs.declared.log.Finish.{Finish}
use Rattle.nam_verbs.specs.VerbAt.{VerbAt}
use Rattle.nam_verbs.specs.Now.{after_now}
use Rattle.nam_verbs.specs.declared.now.Now.{Now}
use Rattle.nam_verbs.specs.declared.now.Now.TheVariants.{At, Over}
use Rattle.nam_catalog.specs.declared.shape.Shape.{Shape}
use Rattle.nam_layout.specs.declared.field.Field.{Field}
use Rattle.nam_calls.specs.declared.medic.MedicPoint.{MedicPoint}
use Rattle.nam_calls.specs.Medic.{medic_after}
use Rattle.nam_protocol.specs.declared.client.ClientState.{ClientState}
use Rattle.nam_protocol.specs.declared.session.DriverState.{DriverState}
use Rattle.nam_protocol.specs.declared.session.Job.{Job}
use Rattle.nam_protocol.specs.declared.session.SessionState.{SessionState}
use Rattle.nam_protocol.specs.Client.{client_verb, verb_of}
use Rattle.nam_protocol.specs.Driver.{new_driver}
use Rattle.nam_protocol.specs.EventsLaw.{by_word, is_new}
use Rattle.nam_protocol.specs.Left.{Room, room_for, session_left}
use Rattle.nam_protocol.specs.RoomLaw.{IsWithin, room_left}
use Rattle.nam_protocol.specs.Session.{after_by, call_taken, new_session, session_after, session_verb}
use Rattle.nam_protocol.specs.Session.{settled, verb_by}
use Rattle.nam_protocol.specs.SessionFits.{JobFits}
use Rattle.nam_protocol.proofs.EndsSession.{session_word, some_of}
use Rattle.nam_protocol.proofs.RoomDriver.{room_suffices}
use Rattle.nam_client.specs.declared.registers.Registers.{Registers}
use Rattle.nam_client.specs.Client.{ops_so_far, spare_of}
use Rattle.nam_client.specs.Fits.{IsClientOf}
use Rattle.nam_client.specs.Registers.{client_of}
use Rattle.nam_medic.specs.Medic.{Finishing, Serves}
use Rattle.nam_worker.specs.Needs.{FitsTables}
use Rattle.nam_worker.specs.Session.{CanAskNext, HasRoomAfter, Holds, IsMedicOf, IsNewSession, IsReadyFor, IsSessionOf}
use Rattle.nam_worker.specs.Session.{IsUncut, Occurs, SessionParts, asking, at_first, medic_in}
use Rattle.nam_worker.specs.Session.{session_of, unasked}
use Rattle.nam_worker.proofs.MedicLemmas.{fits}

-- 1. A session begins

pub tables_fit : (shape : Shape) (jobs : List Job) → AllByRecursion (JobFits shape) jobs
    → AllByRecursion (FitsTables shape) jobs
tables_fit shape [] all = tt
tables_fit shape (job ∷ jobs) all = (all.0.fit, tables_fit shape jobs all.1)

within_all : (small some great : Room) → IsWithin small some → IsWithin some great → IsWithin small great
within_all small some great a b = record {
  attempts = let l = a.attempts in let m = b.attempts in omega arith;
  ops = let l = a.ops in let m = b.ops in omega arith;
  tidies = let l = a.tidies in let m = b.tidies in omega arith;
}

module _ (shape : Shape) (a : SessionParts) (is : IsNewSession shape a) where
  -- not prepared
  pub still_plain : (client : Registers)
      → Holds record { client = client; driver = a.driver; jobs = a.jobs; ready = a.ready; medic = a.medic }
  still_plain client = inl (is.medic, is.ready)

  -- with the room for the jobs
  module _ (client : Registers) (of : IsClientOf shape client) (client_is : client_of client ≡ client_of a.client) where
    abbrev first : SessionState
    first = unasked shape (client_of a.client).worker (client_of a.client).start a.jobs a.driver.policy

    first_is : asking client a.driver a.jobs ≡ first
    first_is =
        ap (λ (c : ClientState). record { client = c; driver = a.driver; jobs = a.jobs }) (client_is ∙ is.client)
        ∙ ap (λ (d : DriverState). record {
          client = first.client;
          driver = d;
          jobs = a.jobs;
        }) is.driver

    within_jobs : IsWithin (room_left shape a.jobs a.driver) (room_for shape a.driver.policy a.jobs)
    within_jobs =
        rw is.driver ((room_suffices shape).0 a.driver.policy a.jobs is.serves.tries).1

    pub can_begin : IsWithin (room_for shape a.driver.policy a.jobs) (spare_of client)
        → CanAskNext shape client a.driver a.jobs
    can_begin has = record {
      of = of;
      worker = (client_of a.client).worker;
      start = (client_of a.client).start;
      policy = a.driver.policy;
      serves = is.serves;
      between = rw first_is at_first;
      room =
          within_all (room_left shape a.jobs a.driver) (room_for shape a.driver.policy a.jobs) (spare_of client)
          within_jobs has;
      counted =
          let none = ap (λ (c : ClientState). ops_so_far c.txn) (client_is ∙ is.client) in
          let l = within_jobs.ops in
          let s = is.small.ops in
          omega arith;
      jobs_are = is.jobs;
    }

    -- its first call is asked
    module _ (after : Registers) (driver : DriverState) (jobs : List Job) (jobs_are : jobs ≡ a.jobs)
        (value_of : asking after driver jobs ≡ settled shape (asking client a.driver jobs))
        (of_after : IsClientOf shape after) (room_of : HasRoomAfter shape after driver jobs)
        (uncut : IsUncut (client_of after)) (worker_is : (client_of after).worker ≡ (client_of client).worker)
        (ready : Option Finishing) (medic : IsReadyFor shape (client_of client).worker ready) where
      abbrev begun : SessionParts
      begun = record { client = after; driver = driver; jobs = a.jobs; ready = ready; medic = a.medic }

      value : asking after driver a.jobs ≡ settled shape (asking client a.driver a.jobs)
      value =
          subst (λ js. asking after driver js ≡ settled shape (asking client a.driver js)) jobs_are value_of

      plain : session_of begun ≡ asking after driver a.jobs
      plain =
          ap (λ m. record {
            client = record (client_of after) { medic = medic_in m (client_of after).medic };
            driver = driver;
            jobs = a.jobs;
          }) is.medic

      pub begun_is : session_of begun ≡ new_session shape (client_of a.client) a.jobs a.driver.policy
      begun_is =
          plain ∙ value ∙ ap (settled shape) (first_is
          ∙ ap (λ (c : ClientState). record {
            client = c;
            driver = new_driver a.driver.policy;
            jobs = a.jobs;
          }) (sym is.client))

      pub begun_of : IsSessionOf shape begun
      begun_of = record {
        of = of_after;
        occurs = record {
          worker = (client_of a.client).worker;
          start = (client_of a.client).start;
          policy = a.driver.policy;
          serves = is.serves;
          reached = rw (plain ∙ value ∙ ap (settled shape) first_is) is_new;
        };
        room = subst (HasRoomAfter shape after driver) jobs_are room_of;
        jobs = is.jobs;
        medic = rw is.medic tt;
        ready = λ e. rw worker_is medic;
        unfinished = uncut.1;
        stopped = λ cut. absurd (false≢true (sym uncut.0 ∙ cut));
      }

-- 2. A session takes a word

uncut_by : (cut : Bool) (verb : Option (VerbAt Field)) → IsSome (if cut then None else verb) → cut ≡ false
uncut_by false verb some = refl
uncut_by true verb some = absurd (cc)

module _ (shape : Shape) (a : SessionParts) (is : IsSessionOf shape a) where
  pub falls : (found : ℕ) (after : SessionState) → IsSome (session_verb shape (session_of a))
      → after ≡ session_after shape (session_of a) found → session_left shape after < session_left shape (session_of a)
  falls found after stands value =
      let verb = some_of (session_verb shape (session_of a)) stands in
      rw value (session_word shape is.of.limits (session_of a) verb.0 found (fits shape a is) verb.1).1

  -- 2.1 of its client
  module _ (none : a.medic ≡ None) where
    plain_is : session_of a ≡ asking a.client a.driver a.jobs
    plain_is = rw none refl

    pub plain_occurs : Occurs shape (asking a.client a.driver a.jobs)
    plain_occurs = subst (Occurs shape) plain_is is.occurs

    plain_verb : session_verb shape (session_of a) ≡ client_verb shape (client_of a.client)
    plain_verb =
        ap (session_verb shape) plain_is ∙ ap (λ m. verb_by shape (asking a.client a.driver a.jobs) m) is.unfinished

    pub plain_stands : IsSome (session_verb shape (session_of a)) → IsSome (client_verb shape (client_of a.client))
    plain_stands some = subst (λ v. IsSome v) plain_verb some

    module _ (found : ℕ) (client : Registers) (driver : DriverState) (jobs : List Job) (jobs_are : jobs ≡ a.jobs)
        (value_of : asking client driver jobs ≡ call_taken shape (asking a.client a.driver jobs) found)
        (of : IsClientOf shape client) (room_of : HasRoomAfter shape client driver jobs)
        (uncut : IsUncut (client_of client)) (worker_is : (client_of client).worker ≡ (client_of a.client).worker)
        (stands : IsSome (session_verb shape (session_of a))) where
      abbrev gone : SessionParts
      gone = record { client = client; driver = driver; jobs = a.jobs; ready = a.ready; medic = a.medic }

      word_value : asking client driver a.jobs ≡ call_taken shape (asking a.client a.driver a.jobs) found
      word_value =
          subst (λ js. asking client driver js ≡ call_taken shape (asking a.client a.driver js) found) jobs_are value_of

      word_room : HasRoomAfter shape client driver a.jobs
      word_room = subst (HasRoomAfter shape client driver) jobs_are room_of

      pub gone_is : session_of gone ≡ session_after shape (session_of a) found
      gone_is =
          ap (λ m. record {
            client = record (client_of client) { medic = medic_in m (client_of client).medic };
            driver = driver;
            jobs = a.jobs;
          }) none
          ∙ word_value ∙ sym (ap (λ s. session_after shape s found) plain_is
          ∙ ap (λ m. after_by shape (asking a.client a.driver a.jobs) found m) is.unfinished)

      was_uncut : (client_of a.client).cut ≡ false
      was_uncut =
          uncut_by (client_of a.client).cut (verb_of shape (client_of a.client) (client_of a.client).call)
          (plain_stands stands)

      pub gone_of : IsSessionOf shape gone
      gone_of =
          let verb = some_of (session_verb shape (session_of a)) stands in
          record {
            of = of;
            occurs = record {
              worker = is.occurs.worker;
              start = is.occurs.start;
              policy = is.occurs.policy;
              serves = is.occurs.serves;
              reached = rw gone_is (by_word (session_of a) verb.0 found is.occurs.reached verb.1);
            };
            room = word_room;
            jobs = is.jobs;
            medic = rw none tt;
            ready = λ e. rw worker_is (is.ready was_uncut);
            unfinished = uncut.1;
            stopped = λ cut. absurd (false≢true (sym uncut.0 ∙ cut));
          }

      pub gone_falls : (was : SessionParts) → a ≡ was
          → session_left shape (session_of gone) < session_left shape (session_of was)
      gone_falls was same =
          subst (λ s. session_left shape (session_of gone) < session_left shape (session_of s)) same
          (falls found (session_of gone) stands gone_is)

  -- 2.2 of its medic
  module _ (medic : Finishing) (has : a.medic ≡ Some medic) where
    pub medic_serves : Serves shape medic
    medic_serves = (subst (IsMedicOf shape (client_of a.client).worker) has is.medic).0

    abbrev with_state : Now MedicPoint Finish → SessionState
    with_state state = record (session_of a) { client = record (client_of a.client) { medic = Some state } }

    by_state : (found : ℕ) (state : Now MedicPoint Finish)
        → with_state (after_now (medic_after shape (client_of a.client).worker) state found)
        ≡ session_after shape (with_state state) found
    by_state found (At place) = refl
    by_state found (Over how) = refl

    pub treated_is : (after : Finishing) (found : ℕ)
        → after.state ≡ after_now (medic_after shape medic.worker) medic.state found
        → session_of record {
          client = a.client;
          driver = a.driver;
          jobs = a.jobs;
          ready = a.ready;
          medic = Some after;
        } ≡ session_after shape (session_of a) found
    treated_is after found state_is =
        let worker = (subst (IsMedicOf shape (client_of a.client).worker) has is.medic).1 in
        ap with_state (state_is ∙ ap (λ w. after_now (medic_after shape w) medic.state found) worker)
        ∙ by_state found medic.state
        ∙ ap (λ m. session_after shape (record (session_of a) {
          client = record (client_of a.client) { medic = medic_in m (client_of a.client).medic };
        }) found) (sym has)

    pub treated_of : (after : Finishing) → Serves shape after → after.worker ≡ medic.worker
        → (found : ℕ) → IsSome (session_verb shape (session_of a))
        → let next : SessionParts =
        record { client = a.client; driver = a.driver; jobs = a.jobs; ready = a.ready; medic = Some after } in
        session_of next ≡ session_after shape (session_of a) found → IsSessionOf shape next
    treated_of after serves same found stands value =
        let verb = some_of (session_verb shape (session_of a)) stands in
        record {
          of = is.of;
          occurs = record {
            worker = is.occurs.worker;
            start = is.occurs.start;
            policy = is.occurs.policy;
            serves = is.occurs.serves;
            reached = rw value (by_word (session_of a) verb.0 found is.occurs.reached verb.1);
          };
          room = is.room;
          jobs = is.jobs;
          medic = (serves, same ∙ (subst (IsMedicOf shape (client_of a.client).worker) has is.medic).1);
          ready = is.ready;
          unfinished = is.unfinished;
          stopped = is.stopped;
        }
