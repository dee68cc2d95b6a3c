-- The words of a session and of a world stay below 2^64.
use Rattle.std.specs.List.{AllByRecursion}
use Rattle.std.specs.Prelude.{◌||◌, slice_get, slice_index, slice_set}
use Rattle.std.proofs.Common.{List, None, Option, Some, [], arith, refl, sym, subst, suc, zero, ℕ, ◌-◌, ◌==◌, ◌∷◌, ◌≡◌}
use Rattle.std.proofs.lemmas.Option.{none-some, same_Some}
use Rattle.si_model.specs.declared.op.Op.{Op}
use Rattle.si_model.specs.declared.log.Finish.{Finish}
use Rattle.nam_verbs.specs.declared.now.Now.{Now}
use Rattle.nam_verbs.specs.declared.now.Now.TheVariants.{At, Over}
use Rattle.nam_verbs.specs.Falls.{Any}
use Rattle.nam_verbs.specs.Verb.{after_verb, found_by}
use Rattle.nam_verbs.specs.VerbAt.{VerbAt, ReadAt, WriteAt, ExchangeAt}
use Rattle.nam_catalog.specs.declared.shape.Shape.{Shape}
use Rattle.nam_catalog.specs.Fits.{FitsLimits}
use Rattle.nam_layout.specs.declared.field.Field.{Field}
use Rattle.nam_layout.specs.Address.{address}
use Rattle.nam_calls.specs.declared.medic.MedicPoint.{MedicPoint}
use Rattle.nam_calls.specs.Holds.{AreWords, HoldsNow, IsWord, WritesWord}
use Rattle.nam_calls.specs.Medic.{medic_begin, medic_verb, medic_after}
use Rattle.nam_calls.specs.MedicFits.{MedicHolds}
use Rattle.nam_calls.specs.Memory.{verb_there}
use Rattle.nam_calls.proofs.FallsTests.{either}
use Rattle.nam_calls.proofs.HoldsWords.{words_at, words_set}
use Rattle.nam_calls.proofs.MedicVerbs.{holds_law, word_law}
use Rattle.nam_protocol.specs.declared.client.Answer.{Answer}
use Rattle.nam_protocol.specs.declared.client.Call.{Call}
use Rattle.nam_protocol.specs.declared.client.ClientState.{ClientState}
use Rattle.nam_protocol.specs.declared.session.DriverPoint.TheVariants.{ToAsk, ToBegin, ToCollect, ToTidy}
use Rattle.nam_protocol.specs.declared.session.DriverPoint.{DriverPoint}
use Rattle.nam_protocol.specs.declared.session.DriverState.{DriverState}
use Rattle.nam_protocol.specs.declared.session.Job.{Job}
use Rattle.nam_protocol.specs.declared.session.SessionState.{SessionState}
use Rattle.nam_protocol.specs.Client.{client_after, client_ask}
use Rattle.nam_protocol.specs.Driver.{call_of, driver_next, job_call, new_driver, op_call, place_call}
use Rattle.nam_protocol.specs.HoldsWords.{CallHolds, JobHolds, SessionHolds, TreatmentHolds, WorldHolds, HoldsWords}
use Rattle.nam_protocol.specs.Session.{answer_now, call_taken, after_by, verb_by, session_after, session_verb, settle}
use Rattle.nam_protocol.specs.Session.{taken}
use Rattle.nam_protocol.specs.Commit.{has_intents}
use Rattle.nam_protocol.specs.Session.{calls_at_most, treated, jobs_over, stopped, cut_in, session_cut}
use Rattle.nam_protocol.specs.SessionFits.{MedicStands}
use Rattle.nam_protocol.specs.WordsLaw.{SessionKeepsWords, WorkerFits, WorldKeepsLaw}
use Rattle.nam_protocol.specs.World.{Step, Cut, World, session_of, step_by, step_of, cut_of}
use Rattle.nam_protocol.proofs.HoldsClient.{ask_holds, cut_holds, word_holds}
use Rattle.nam_protocol.proofs.HoldsVerbs.{client_writes}
use Rattle.nam_protocol.proofs.StaysLemmas.{asked_stays, word_stays}

-- 1. A session: its driver asks what its jobs bring

op_asked : (ops : List Op) (nth : ℕ) → AllByRecursion (λ op. CallHolds (call_of op)) ops
    → CallHolds (op_call (slice_get ops nth))
op_asked [] nth all = tt
op_asked (op ∷ ops) zero all = all.0
op_asked (op ∷ ops) (suc nth) all = op_asked ops nth all.1

place_asked : (job : Job) (nth : ℕ) (place : DriverPoint) → JobHolds job → CallHolds (place_call job nth place)
place_asked job nth ToBegin all = tt
place_asked job nth (ToAsk op) all = op_asked job.ops op all
place_asked job nth (ToTidy keys key again retry) all = tt
place_asked job nth (ToCollect bucket keys key retry) all = tt

job_asked : (jobs : List Job) (driver : DriverState) (nth : ℕ) → AllByRecursion JobHolds jobs
    → (call : Call) → job_call driver (slice_get jobs nth) ≡ Some call → CallHolds call
job_asked [] driver nth all call e = absurd (none-some call e)
job_asked (job ∷ jobs) driver zero all call e =
    subst CallHolds (same_Some (place_call job driver.nth driver.place) call e)
    (place_asked job driver.nth driver.place all.0)
job_asked (job ∷ jobs) driver (suc nth) all call e = job_asked jobs driver nth all.1 call e

module _ (shape : Shape) where
  abbrev Holds : SessionState → Type 0
  Holds = SessionHolds shape

  -- what stands after a call that was asked, and what a call leaves
  asked_holds : (calls : ℕ) (session : SessionState) (client : ClientState) (answer : Option Answer)
      → ((s : SessionState) → Holds s → Holds (settle shape calls s)) → HoldsWords shape client
      → AllByRecursion JobHolds session.jobs → TreatmentHolds client.medic → Holds (elim answer [
        | None ↦ record session { client = client }
        | Some answer ↦ settle shape calls (taken session client answer)
      ])
  asked_holds calls session client None later c jobs medic = (c, jobs, medic)
  asked_holds calls session client (Some answer) later c jobs medic =
      later (taken session client answer) (c, jobs, medic)

  next_holds : (calls : ℕ) (session : SessionState) (call : Option Call)
      → ((asked : Call) → call ≡ Some asked → CallHolds asked)
      → ((s : SessionState) → Holds s → Holds (settle shape calls s)) → Holds session → Holds (elim call [
        | None ↦ session
        | Some call ↦ elim (answer_now (client_ask shape session.client call).call) [
          | None ↦ record session { client = client_ask shape session.client call }
          | Some answer ↦ settle shape calls (taken session (client_ask shape session.client call) answer)
        ]
      ])
  next_holds calls session None brings later h = h
  next_holds calls session (Some call) brings later h =
      let client = client_ask shape session.client call in
      asked_holds calls session client (answer_now client.call) later
      (ask_holds shape session.client h.0 call (brings call refl)) h.1
      (subst TreatmentHolds (sym (asked_stays shape session.client call).1) h.2)

  settle_holds : (calls : ℕ) (session : SessionState) → Holds session → Holds (settle shape calls session)
  unfolding settle
  settle_holds zero session h = h
  settle_holds (suc calls) session h =
      next_holds calls session (driver_next session.jobs session.driver)
      (job_asked session.jobs session.driver session.driver.job h.1) (settle_holds calls) h

  call_word : (session : SessionState) (found : ℕ) → Holds session → IsWord found
      → Holds (call_taken shape session found)
  call_word session found h is =
      let client = client_after shape session.client found in
      asked_holds (calls_at_most session.jobs) session client (answer_now client.call)
      (settle_holds (calls_at_most session.jobs)) (word_holds shape session.client h.0 found is) h.1
      (subst TreatmentHolds (sym (word_stays shape session.client found).1) h.2)

  treated_holds : (session : SessionState) (medic : Now MedicPoint Finish) → Holds session
      → HoldsNow MedicHolds Any medic → Holds (treated session medic)
  treated_holds session (At place) h m =
      (record { last_is = h.0.last_is; opened = h.0.opened; running = h.0.running }, h.1, m)
  treated_holds session (Over how) h m =
      (record { last_is = h.0.last_is; opened = h.0.opened; running = h.0.running }, h.1, tt)

  session_word : (session : SessionState) (found : ℕ) → Holds session → IsWord found
      → Holds (session_after shape session found)
  session_word session found h is = by_medic session.client.medic h.2
    where
      by_medic : (medic : Option (Now MedicPoint Finish)) → TreatmentHolds medic
          → Holds (after_by shape session found medic)
      by_medic None m = call_word session found h is
      by_medic (Some (At place)) m =
          treated_holds session (medic_after shape session.client.worker place found) h
          (holds_law shape session.client.worker place found m is)
      by_medic (Some (Over how)) m = h

  session_cut_holds : (session : SessionState) → Holds session → Holds (session_cut shape.form session)
  session_cut_holds session h =
      let stop : Holds (stopped session) = (cut_holds shape session.client h.0, h.1, h.2) in
      either Holds (jobs_over session || session.client.cut) session (cut_in shape.form session) h
      (either Holds (has_intents shape.form) (treated (stopped session) (At medic_begin)) (stopped session)
      (treated_holds (stopped session) (At medic_begin) stop tt) stop)

  pub session_keeps : SessionKeepsWords shape
  session_keeps = record {
    new = λ client jobs policy h medic all.
        settle_holds (calls_at_most jobs) record { client = client; driver = new_driver policy; jobs = jobs }
        (h, all, medic);
    word = session_word;
    cut = session_cut_holds;
  }

-- 2. A world

module _ (shape : Shape) where
  -- what a verb finds, and the words that it leaves
  finds_word : (words : List ℕ) (verb : VerbAt Field) → AreWords words
      → IsWord (found_by words (verb_there shape verb))
  finds_word words (ReadAt at) all = words_at words (address shape at) all
  finds_word words (WriteAt at word) all = omega arith
  finds_word words (ExchangeAt at expect word) all = words_at words (address shape at) all

  leaves_words : (words : List ℕ) (verb : VerbAt Field) → AreWords words → WritesWord verb
      → AreWords (after_verb words (verb_there shape verb))
  leaves_words words (ReadAt at) all is = all
  leaves_words words (WriteAt at word) all is = words_set words (address shape at) word all is
  leaves_words words (ExchangeAt at expect word) all is =
      either AreWords (slice_index words (address shape at) == expect) (slice_set words (address shape at) word) words
      (words_set words (address shape at) word all is) all

  sessions_set : (sessions : List SessionState) (nth : ℕ) (session : SessionState)
      → AllByRecursion (SessionHolds shape) sessions → SessionHolds shape session
      → AllByRecursion (SessionHolds shape) (slice_set sessions nth session)
  sessions_set [] nth session all h = tt
  sessions_set (s ∷ ss) zero session all h = (h, all.1)
  sessions_set (s ∷ ss) (suc nth) session all h = (all.0, sessions_set ss nth session all.1 h)

  session_at : (sessions : List SessionState) (nth : ℕ) (session : SessionState)
      → AllByRecursion (SessionHolds shape) sessions → slice_get sessions nth ≡ Some session
      → SessionHolds shape session
  session_at [] nth session all e = absurd (none-some session e)
  session_at (s ∷ ss) zero session all e = subst (SessionHolds shape) (same_Some s session e) all.0
  session_at (s ∷ ss) (suc nth) session all e = session_at ss nth session all.1 e

  module _ (limits : FitsLimits shape) (world : World) (worker : ℕ) (h : WorldHolds shape world) where
    -- the verb is the client's or the medic's
    session_writes : (session : SessionState) (verb : VerbAt Field) → WorkerFits shape (Some session)
        → SessionHolds shape session → (medic : Option (Now MedicPoint Finish)) → MedicStands shape medic
        → TreatmentHolds medic → verb_by shape session medic ≡ Some verb → WritesWord verb
    session_writes session verb fits s None stands m e = client_writes shape limits session.client verb fits.0 s.0 e
    session_writes session verb fits s (Some (At place)) stands m e =
        let worker = session.client.worker in
        subst WritesWord (same_Some (medic_verb shape worker place) verb e)
        (word_law shape worker limits fits.0.0 place stands.1 m)
    session_writes session verb fits s (Some (Over how)) stands m e = absurd (none-some verb e)

    step_by_holds : (session : SessionState) (verb : Option (VerbAt Field)) → WorkerFits shape (Some session)
        → SessionHolds shape session → session_verb shape session ≡ verb
        → WorldHolds shape (step_by shape world worker session verb)
    step_by_holds session None fits s e = h
    step_by_holds session (Some verb) fits s e =
        let found = finds_word world.words verb h.0 in (
          leaves_words world.words verb h.0
              (session_writes session verb fits s session.client.medic fits.1 s.2 e),
          sessions_set world.sessions (worker - 1) _ h.1 (session_word shape session _ s found),
        )

    step_holds : (session : Option SessionState) → session_of world worker ≡ session → WorkerFits shape session
        → WorldHolds shape (step_of shape world worker session)
    step_holds None e fits = h
    step_holds (Some session) e fits =
        step_by_holds session (session_verb shape session) fits
        (session_at world.sessions (worker - 1) session h.1 e) refl

    cut_of_holds : (session : Option SessionState) → session_of world worker ≡ session
        → WorldHolds shape (cut_of shape world worker session)
    cut_of_holds None e = h
    cut_of_holds (Some session) e =
        let s = session_at world.sessions (worker - 1) session h.1 e in
        (h.0, sessions_set world.sessions (worker - 1) _ h.1 (session_cut_holds shape session s))

pub world_keeps : WorldKeepsLaw
world_keeps shape limits world (Step worker) fits h =
    step_holds shape limits world worker h (session_of world worker) refl fits
world_keeps shape limits world (Cut worker) fits h =
    cut_of_holds shape limits world worker h (session_of world worker) refl
