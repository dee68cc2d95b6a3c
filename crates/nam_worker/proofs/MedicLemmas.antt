-- A session that is stopped, and its medic.
use Rattle.std.proofs.Common.{◌≡◌, ◌<◌, ◌+◌, ◌^◌, ℕ, Bool, true, false, Option, Some, None, inl, inr}
use Rattle.std.proofs.Common.{refl, sym, ap, subst, ◌∙◌}
use Rattle.std.proofs.lemmas.Bool.{false≢true}
use Rattle.std.specs.Prelude.{◌&&◌, ◌||◌, not, is_some, slice_get, if◌then◌else◌, IfSome}
use Rattle.si_model.specs.declared.log.Finish.{Finish}
use Rattle.si_model.specs.declared.log.Log.{Log}
use Rattle.nam_verbs.specs.Verb.{address_of}
use Rattle.nam_verbs.specs.declared.verb.Verb.{Verb}
use Rattle.nam_verbs.specs.declared.now.Now.{Now}
use Rattle.nam_verbs.specs.declared.now.Now.TheVariants.{At, Over}
use Rattle.nam_verbs.specs.Now.{FitsNow, end_now}
use Rattle.nam_verbs.specs.Running.{next_verb}
use Rattle.nam_catalog.specs.declared.shape.Shape.{Shape}
use Rattle.nam_catalog.specs.Words.{words_of}
use Rattle.nam_calls.specs.declared.medic.MedicPoint.{MedicPoint}
use Rattle.nam_calls.specs.MedicFits.{MedicFits}
use Rattle.nam_protocol.specs.declared.client.Answer.{Answer}
use Rattle.nam_protocol.specs.declared.client.CallPoint.{CallPoint}
use Rattle.nam_protocol.specs.declared.client.CallPoint.TheVariants.{Beginning, InTxn, Scanning, Seeking, Moving}
use Rattle.nam_protocol.specs.declared.client.CallPoint.TheVariants.{Snapping, Collecting}
use Rattle.nam_protocol.specs.declared.client.ClientState.{ClientState}
use Rattle.nam_protocol.specs.declared.client.Open.{Open}
use Rattle.nam_protocol.specs.declared.session.DriverState.{DriverState}
use Rattle.nam_protocol.specs.declared.session.Job.{Job}
use Rattle.nam_protocol.specs.declared.session.SessionState.{SessionState}
use Rattle.nam_protocol.specs.declared.txn.CommitPoint.{CommitPoint}
use Rattle.nam_protocol.specs.declared.txn.CommitPoint.TheVariants as commit
use Rattle.nam_protocol.specs.declared.txn.TxnPoint.{TxnPoint}
use Rattle.nam_protocol.specs.declared.txn.TxnPoint.TheVariants.{Finding, Reading, Claiming, Committing}
use Rattle.nam_protocol.specs.Client.{verb_of}
use Rattle.nam_protocol.specs.Commit.{has_intents}
use Rattle.nam_protocol.specs.CutClient.{client_cut, closed_call, cut_in_txn, cut_move, cut_open, into_log, left_open}
use Rattle.nam_protocol.specs.Driver.{driver_take, job_call}
use Rattle.nam_protocol.specs.EventsLaw.{by_cut}
use Rattle.nam_protocol.specs.RoomLaw.{room_left}
use Rattle.nam_protocol.specs.Session.{cut_in, jobs_over, session_cut, session_log, session_verb, stopped}
use Rattle.nam_protocol.specs.Session.{verb_by}
use Rattle.nam_protocol.specs.SessionFits.{SessionFits, is_running}
use Rattle.nam_medic.specs.Medic.{Finishing, Serves, running}
use Rattle.nam_medic.proofs.MedicLemmas.{verb_within}
use Rattle.nam_client.specs.declared.registers.Registers.{Registers}
use Rattle.nam_client.specs.Client.{ops_so_far, spare_of}
use Rattle.nam_client.specs.Fits.{IsClientOf}
use Rattle.nam_client.specs.Registers.{client_of}
use Rattle.nam_worker.specs.Session.{Holds, IsMedicOf, IsReadyFor, IsSessionOf, SessionParts, medic_in}
use Rattle.nam_worker.specs.Session.{finish_in, session_of}
use Rattle.nam_worker.proofs.SessionLemmas.{reached_so}

-- 1. Tests

and_true : (a b : Bool) → true ≡ (a && b) → a ≡ true
and_true true b e = refl
and_true false b e = absurd (false≢true (sym e))

call_is : (driver : DriverState) (o : Option Job) → is_some (job_call driver o) ≡ is_some o
call_is driver None = refl
call_is driver (Some job) = refl

not_false : (b : Bool) → not b ≡ false → b ≡ true
not_false true e = refl
not_false false e = absurd (false≢true (sym e))

-- 2. A session of a shape

module _ (shape : Shape) (a : SessionParts) (is : IsSessionOf shape a) where
  pub fits : SessionFits shape (session_of a)
  fits =
      (reached_so shape is.of.limits is.occurs.worker is.occurs.start a.jobs is.occurs.policy is.occurs.serves
      (session_of a) is.occurs.reached).0

  medic_counts : (medic : Option Finishing) → a.medic ≡ medic
      → is_some (medic_in medic (client_of a.client).medic)
      ≡ ((client_of a.client).cut && has_intents shape.form)
  medic_counts medic e =
      subst (λ m. is_some (medic_in m (client_of a.client).medic)
      ≡ ((client_of a.client).cut && has_intents shape.form)) e fits.treats

  -- only a session that was stopped has a medic
  pub medic_cut : (medic : Finishing) → a.medic ≡ Some medic → (client_of a.client).cut ≡ true
  medic_cut medic e = and_true (client_of a.client).cut (has_intents shape.form) (medic_counts (Some medic) e)

  uncut_at : (medic : Option Finishing) → a.medic ≡ medic → (client_of a.client).cut ≡ false → a.medic ≡ None
  uncut_at None e uncut = e
  uncut_at (Some medic) e uncut = absurd (false≢true (sym uncut ∙ medic_cut medic e))

  pub uncut_medic : (client_of a.client).cut ≡ false → a.medic ≡ None
  uncut_medic = uncut_at a.medic refl

  -- and in one that was stopped a call runs
  pub cut_runs : (client_of a.client).cut ≡ true → is_running (client_of a.client).call ≡ true
  cut_runs cut =
      fits.stands ∙ sym (call_is a.driver (slice_get a.jobs a.driver.job))
      ∙ not_false (is_some (job_call a.driver (slice_get a.jobs a.driver.job))) (is.stopped cut)

  -- where no verb is to come, no call runs, or it was stopped
  rests_at : (cut : Bool) → (client_of a.client).cut ≡ cut → session_verb shape (session_of a) ≡ None
      → is_running (client_of a.client).call ≡ true → (client_of a.client).cut ≡ true
  rests_at true e none runs = e
  rests_at false e none runs =
      let verb = verb_of shape (client_of a.client) (client_of a.client).call in
      let medic = ap (λ m. medic_in m (client_of a.client).medic) (uncut_medic e) ∙ is.unfinished in
      let stands = ap (λ m. verb_by shape (session_of a) m) (sym medic) ∙ none in
      let open_verb = ap (λ (c : Bool). if c then None else verb) (sym e) ∙ stands in
      absurd (no_verb (client_of a.client).call runs open_verb)
    where
      no_verb : (now : Option (Now CallPoint Answer)) → is_running now ≡ true
          → verb_of shape (client_of a.client) now ≡ None → ⊥
      no_verb None runs none = false≢true runs
      no_verb (Some (At place)) runs none = absurd (cc)
      no_verb (Some (Over end)) runs none = false≢true runs

  pub rests_or_cut : session_verb shape (session_of a) ≡ None → is_running (client_of a.client).call ≡ true
      → (client_of a.client).cut ≡ true
  rests_or_cut = rests_at (client_of a.client).cut refl

  -- 3. The verb of its medic

  medic_verb_at : (medic : Finishing) → Serves shape medic → (state : Now MedicPoint Finish) → medic.state ≡ state
      → IfSome (next_verb (record (running shape medic) { state = state })) (λ verb. address_of verb < words_of shape)
  medic_verb_at medic serves (At at) e =
      verb_within shape medic.worker is.of.limits serves.form serves.worker at
      (subst (FitsNow (MedicFits shape)) e serves.fits)
  medic_verb_at medic serves (Over how) e = tt

  pub medic_within : (medic : Finishing) → a.medic ≡ Some medic
      → IfSome medic.verb (λ verb. address_of verb < words_of shape)
  medic_within medic e =
      let of = subst (IsMedicOf shape (client_of a.client).worker) e is.medic in
      subst (λ (v : Option Verb). IfSome v (λ verb. address_of verb < words_of shape)) (sym of.0.verb)
      (medic_verb_at medic of.0 medic.state refl)

  -- 4. It is stopped

  module _ (left : jobs_over (session_of a) ≡ false) (uncut : (client_of a.client).cut ≡ false) (after : Registers)
      (client_is : client_of after ≡ client_cut (client_of a.client)) (spare_is : spare_of after ≡ spare_of a.client)
      (of : IsClientOf shape after) (ready : Option Finishing) where
    abbrev cut_parts : SessionParts
    cut_parts = record { client = after; driver = a.driver; jobs = a.jobs; ready = ready; medic = a.ready }

    abbrev uncut_session : SessionState
    uncut_session = record { client = client_of a.client; driver = a.driver; jobs = a.jobs }

    abbrev if_cut : Bool → Bool → SessionState
    if_cut over cut = if over || cut then session_of a else cut_in shape.form (session_of a)

    session_is : session_of a ≡ uncut_session
    session_is = rw (uncut_medic uncut) refl

    is_cut_in : session_cut shape.form (session_of a) ≡ cut_in shape.form uncut_session
    is_cut_in =
        ap (λ b. if_cut b (client_of a.client).cut) left ∙ ap (λ b. if_cut false b) uncut
        ∙ ap (cut_in shape.form) session_is

    with_medic : (medic : Option Finishing) → IsReadyFor shape (client_of a.client).worker medic
        → record {
          client = record (client_cut (client_of a.client)) { medic = medic_in medic (client_of a.client).medic };
          driver = a.driver;
          jobs = a.jobs;
        } ≡ cut_in shape.form uncut_session
    with_medic None is_ready = rw is_ready refl
    with_medic (Some medic) is_ready = rw (is_ready.0, is_ready.3) refl

    cut_is : session_of cut_parts ≡ session_cut shape.form (session_of a)
    cut_is =
        ap (λ (c : ClientState). record {
          client = record c { medic = medic_in a.ready c.medic };
          driver = a.driver;
          jobs = a.jobs;
        }) client_is
        ∙ with_medic a.ready (is.ready uncut) ∙ sym is_cut_in

    medic_stands : (medic : Option Finishing) → IsReadyFor shape (client_of a.client).worker medic
        → IsMedicOf shape (client_of after).worker medic
    medic_stands None is_ready = tt
    medic_stands (Some medic) is_ready =
        (is_ready.1, is_ready.2 ∙ ap (λ (c : ClientState). c.worker) (sym client_is))

    pub cut_of : IsSessionOf shape cut_parts
    cut_of = record {
      of = of;
      occurs = record {
        worker = is.occurs.worker;
        start = is.occurs.start;
        policy = is.occurs.policy;
        serves = is.occurs.serves;
        reached = rw cut_is (by_cut (session_of a) is.occurs.reached);
      };
      room = record {
        room = λ end some. rw spare_is (is.room.room end some);
        counted = λ end some.
            subst (λ (c : ClientState). ops_so_far c.txn
            + (room_left shape a.jobs (driver_take a.jobs a.driver end)).ops < 2 ^ 32) (sym client_is)
            (is.room.counted end some);
      };
      jobs = is.jobs;
      medic = medic_stands a.ready (is.ready uncut);
      ready = λ e. absurd (false≢true (sym e ∙ ap (λ (c : ClientState). c.cut) client_is));
      unfinished = ap (λ (c : ClientState). c.medic) client_is ∙ is.unfinished;
      stopped = λ cut. left;
    }

-- 5. Whatever its shape is

pub record StoppedHere (a : SessionParts) : Type 0 where
  pub cut : (client_of a.client).cut ≡ true
  pub runs : is_running (client_of a.client).call ≡ true
  pub unfinished : (client_of a.client).medic ≡ None

-- the medic that has finished it
record FinishedBy (medic : Option Finishing) (how : Finish) : Type 0 where
  medic_is : Finishing
  is : medic ≡ Some medic_is
  over : medic_is.state ≡ Over how

over_is : (state : Now MedicPoint Finish) (how : Finish) → end_now state ≡ Some how → state ≡ Over how
over_is (At at) how e = absurd (cc)
over_is (Over other) how e = let same : other ≡ how = cc in ap (λ h. Over h) same

finished_by : (medic : Option Finishing) (how : Finish) → finish_in medic ≡ Some how → FinishedBy medic how
finished_by None how e = absurd (cc)
finished_by (Some medic) how e = record { medic_is = medic; is = refl; over = over_is medic.state how e }

pub medic_stopped : (a : SessionParts) (how : Finish) → Holds a → finish_in a.medic ≡ Some how → StoppedHere a
medic_stopped a how (inl plain) e =
    let by = finished_by a.medic how e in
    absurd (let none = sym plain.0 ∙ by.is in cc)
medic_stopped a how (inr holds) e =
    let by = finished_by a.medic how e in
    let cut = medic_cut holds.0 a holds.1 by.medic_is by.is in
    record { cut = cut; runs = cut_runs holds.0 a holds.1 cut; unfinished = holds.1.unfinished }

pub cut_holds : (a : SessionParts) → Holds a → jobs_over (session_of a) ≡ false → (client_of a.client).cut ≡ false
    → (after : Registers) → client_of after ≡ client_cut (client_of a.client) → spare_of after ≡ spare_of a.client
    → ((shape : Shape) → IsClientOf shape a.client → IsClientOf shape after)
    → Holds record { client = after; driver = a.driver; jobs = a.jobs; ready = None; medic = a.ready }
cut_holds a (inl plain) left uncut after client_is spare_is of = inl (plain.1, refl)
cut_holds a (inr holds) left uncut after client_is spare_is of =
    inr (holds.0, cut_of holds.0 a holds.1 left uncut after client_is spare_is (of holds.0 holds.1.of) None)

-- 6. The log: a medic that has not ended doesn't matter

module _ (shape : Shape) (client : ClientState) (medic : Option (Now MedicPoint Finish)) where
  abbrev under : ClientState
  under = record client { medic = medic }

  commit_log : (attempt : Open) (at : CommitPoint)
      → (cut_in_txn under attempt (Committing at)).log ≡ (cut_in_txn client attempt (Committing at)).log
  commit_log attempt (commit.Listing at) = refl
  commit_log attempt (commit.Locking at) = refl
  commit_log attempt (commit.Checking at) = refl
  commit_log attempt (commit.Returning given full) = refl
  commit_log attempt (commit.Counting nth) = refl
  commit_log attempt commit.Deciding = refl
  commit_log attempt (commit.Saving nth got) = refl
  commit_log attempt (commit.Copying nth old at) = refl
  commit_log attempt (commit.Installing nth at) = refl
  commit_log attempt commit.Publishing = refl
  commit_log attempt (commit.Freeing nth) = refl
  commit_log attempt (commit.Clearing refusal) = refl
  commit_log attempt commit.Ending = refl

  txn_log : (attempt : Open) (at : TxnPoint) → (cut_in_txn under attempt at).log ≡ (cut_in_txn client attempt at).log
  txn_log attempt (Finding op passed) = refl
  txn_log attempt (Reading op position at) = refl
  txn_log attempt (Claiming op at) = refl
  txn_log attempt (Committing at) = commit_log attempt at

  open_log : (at : TxnPoint) (opened : Option Open) → (cut_open under at opened).log ≡ (cut_open client at opened).log
  open_log at None = refl
  open_log at (Some attempt) = txn_log attempt at

  left_log : (opened : Option Open) → (left_open under opened).log ≡ (left_open client opened).log
  left_log None = refl
  left_log (Some attempt) = refl

  call_log : (now : Option (Now CallPoint Answer))
      → (closed_call shape under now).log ≡ (closed_call shape client now).log
  call_log None = left_log client.txn
  call_log (Some (Over end)) = left_log client.txn
  call_log (Some (At (Beginning txn nth at))) = refl
  call_log (Some (At (InTxn at))) = open_log at client.txn
  call_log (Some (At (Scanning table low high at))) = left_log client.txn
  call_log (Some (At (Seeking table key passed))) = refl
  call_log (Some (At (Moving table key position at))) = move_log _ _ _ _
    where
      move_log : (table key bucket : ℕ) (stamp : Option _)
          → (cut_move under table key bucket stamp).log ≡ (cut_move client table key bucket stamp).log
      move_log table key bucket None = refl
      move_log table key bucket (Some stamp) = refl
  call_log (Some (At (Snapping bucket at))) = refl
  call_log (Some (At (Collecting bucket prefix seen at))) = refl

abbrev pub session_log_of : Shape → SessionParts → Log
session_log_of shape a = session_log shape (session_of a)

module _ (shape : Shape) (a : SessionParts) (is : IsSessionOf shape a) where
  under_way : (state : Now MedicPoint Finish) → end_now state ≡ None
      → into_log shape (client_of a.client) ≡ into_log shape (record (client_of a.client) { medic = Some state })
  under_way (Over how) e = absurd (cc)
  under_way (At at) e =
      ap (λ (m : Option (Now MedicPoint Finish)). into_log shape (record (client_of a.client) { medic = m }))
      is.unfinished
      ∙ sym (call_log shape (record (client_of a.client) { medic = None }) (Some (At at)) (client_of a.client).call)

  -- where no medic has ended
  log_plain : (medic : Option Finishing) → a.medic ≡ medic → finish_in medic ≡ None
      → into_log shape (client_of a.client) ≡ session_log_of shape a
  log_plain None e none = rw e refl
  log_plain (Some medic) e none = under_way medic.state none ∙ rw e refl

  pub log_unfinished : finish_in a.medic ≡ None → into_log shape (client_of a.client) ≡ session_log_of shape a
  log_unfinished = log_plain a.medic refl

  -- where it has ended so
  pub log_finished : (how : Finish) → finish_in a.medic ≡ Some how
      → into_log shape (record (client_of a.client) { medic = Some (Over how) }) ≡ session_log_of shape a
  log_finished how e =
      let by = finished_by a.medic how e in
      ap (λ (state : Now MedicPoint Finish). into_log shape (record (client_of a.client) { medic = Some state }))
      (sym by.over)
      ∙ ap (λ m. into_log shape (record (client_of a.client) { medic = medic_in m (client_of a.client).medic }))
      (sym by.is)
