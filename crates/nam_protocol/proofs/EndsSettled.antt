-- Which sessions have a verb to come, and what a stop leaves of them.
use Rattle.std.proofs.Common.{◌≡◌, ◌+◌, ◌<◌, ◌≤◌, drop, refl, sym}
use Rattle.std.proofs.Common.{◌∙◌, ap, arith, Bool, true, false, not, Option, Some, None}
use Rattle.std.specs.Prelude.{◌||◌, ◌&&◌, if◌then◌else◌, slice_get, is_some, IsSome}
use Rattle.std.proofs.lemmas.Bool.{false≢true}
use Rattle.si_model.specs.declared.log.Finish.{Finish}
use Rattle.nam_verbs.specs.declared.now.Now.{Now}
use Rattle.nam_verbs.specs.declared.now.Now.TheVariants.{At, Over}
use Rattle.nam_verbs.specs.VerbAt.{VerbAt}
use Rattle.nam_verbs.proofs.TestLemmas.{by_test}
use Rattle.nam_catalog.specs.declared.form.Form.{Form}
use Rattle.nam_catalog.specs.declared.form.Form.TheVariants.{Held, Narrow, Wide}
use Rattle.nam_catalog.specs.declared.shape.Shape.{Shape}
use Rattle.nam_catalog.specs.Fits.{FitsLimits}
use Rattle.nam_layout.specs.declared.field.Field.{Field}
use Rattle.nam_calls.specs.declared.medic.MedicPoint.{MedicPoint}
use Rattle.nam_calls.specs.Medic.{medic_begin}
use Rattle.nam_calls.specs.MedicLeft.{medic_left}
use Rattle.nam_calls.proofs.MedicFalls.{begins_law}
use Rattle.nam_protocol.specs.declared.client.Answer.{Answer}
use Rattle.nam_protocol.specs.declared.client.CallPoint.{CallPoint}
use Rattle.nam_protocol.specs.declared.client.ClientState.{ClientState}
use Rattle.nam_protocol.specs.declared.session.Job.{Job}
use Rattle.nam_protocol.specs.declared.session.DriverState.{DriverState}
use Rattle.nam_protocol.specs.declared.session.SessionState.{SessionState}
use Rattle.nam_protocol.specs.Client.{verb_of}
use Rattle.nam_protocol.specs.Client.{client_verb}
use Rattle.nam_protocol.specs.CutClient.{finish_of}
use Rattle.nam_protocol.specs.Driver.{job_call, driver_next}
use Rattle.nam_protocol.specs.Session.{session_verb}
use Rattle.nam_protocol.specs.Commit.{has_intents}
use Rattle.nam_protocol.specs.Session.{verb_by, jobs_over, treated}
use Rattle.nam_protocol.specs.Session.{stopped, cut_in}
use Rattle.nam_protocol.specs.Left.{client_left}
use Rattle.nam_protocol.specs.Left.{rest_bound, left_by, medic_room, session_left}
use Rattle.nam_protocol.specs.SessionFits.{is_running}
use Rattle.nam_protocol.specs.SessionFits.{SessionFits}
use Rattle.nam_protocol.specs.EndsLaw.{SettlesLaw, SessionCutLaw}
use Rattle.nam_protocol.proofs.StaysLemmas.{IsUncut}
use Rattle.nam_protocol.proofs.EndsSession.{none_of, none_at, rests_left, uncut_of, takes_word}

-- 1. Sessions are settled

verb_runs : (shape : Shape) (client : ClientState) (now : Option (Now CallPoint Answer))
    → is_some (verb_of shape client now) ≡ is_running now
verb_runs shape client None = refl
verb_runs shape client (Some (At at)) = refl
verb_runs shape client (Some (Over end)) = refl

call_is : (driver : DriverState) (o : Option Job) → is_some (job_call driver o) ≡ is_some o
call_is driver None = refl
call_is driver (Some job) = refl

or_none : (left : Bool) → left ≡ not (not left || false)
or_none true = refl
or_none false = refl

no_verb_unless : (cut : Bool) (verb : Option (VerbAt Field)) → is_some verb ≡ false
    → (if cut then None else verb) ≡ None
no_verb_unless true verb e = refl
no_verb_unless false None e = refl
no_verb_unless false (Some verb) e = absurd (false≢true (sym e))

module _ (shape : Shape) (session : SessionState) (fits : SessionFits shape session) where
  -- a client that isn't cut has a verb to come as long as a job is left
  uncut_settled : session.client.cut ≡ false
      → is_some (client_verb shape session.client) ≡ not (jobs_over session || false)
  uncut_settled uncut =
      let verb = verb_of shape session.client session.client.call in
      ap (λ (cut : Bool). is_some (if cut then None else verb)) uncut
      ∙ verb_runs shape session.client session.client.call ∙ fits.stands
      ∙ sym (call_is session.driver (slice_get session.jobs session.driver.job))
      ∙ or_none (is_some (driver_next session.jobs session.driver))

  cut_settled : session.client.cut ≡ true → is_some (client_verb shape session.client) ≡ false
  cut_settled cut =
      ap (λ (c : Bool). is_some (if c then None else verb_of shape session.client session.client.call)) cut

  settled_by : (cut held : Bool) (medic : Option (Now MedicPoint Finish)) → session.client.cut ≡ cut
      → is_some medic ≡ (cut && held)
      → is_some (verb_by shape session medic)
      ≡ not ((if cut then is_some (finish_of medic) else jobs_over session) || (cut && not held))
  settled_by false held None e treats = uncut_settled e
  settled_by false held (Some medic) e treats = absurd (false≢true (sym treats))
  settled_by true false None e treats = cut_settled e
  settled_by true false (Some medic) e treats = absurd (false≢true (sym treats))
  settled_by true true None e treats = absurd (false≢true treats)
  settled_by true true (Some (At place)) e treats = refl
  settled_by true true (Some (Over how)) e treats = refl

pub sessions_settle : SettlesLaw
sessions_settle shape session fits =
    settled_by shape session fits session.client.cut (has_intents shape.form) session.client.medic refl fits.treats

-- 2. A session is stopped

held_of : (form : Form) → has_intents form ≡ true → form ≡ Held
held_of Held e = refl
held_of Narrow e = absurd (false≢true e)
held_of Wide e = absurd (false≢true e)

either_true : (a b : Bool) → (a || b) ≡ true → b ≡ false → a ≡ true
either_true true b e n = refl
either_true false b e n = absurd (false≢true (sym n ∙ e))

either_false : (a b : Bool) → (a || b) ≡ false → b ≡ false
either_false true b e = absurd (false≢true (sym e))
either_false false b e = e

and_false : (a b : Bool) → b ≡ false → (a && b) ≡ false
and_false true b e = e
and_false false b e = refl

no_room : (form : Form) → has_intents form ≡ false → medic_room form ≡ 0
no_room Held e = absurd (false≢true (sym e))
no_room Narrow e = refl
no_room Wide e = refl

module _ (shape : Shape) (limits : FitsLimits shape) (session : SessionState) (fits : SessionFits shape session) where
  -- where the jobs are through, no call runs and no job is left
  ended_rests : jobs_over session ≡ true
      → (is_running session.client.call ≡ false) × (slice_get session.jobs session.driver.job ≡ None)
  ended_rests e =
      let job = slice_get session.jobs session.driver.job in
      let over = none_of job (ap not (sym (call_is session.driver job)) ∙ e) in
      (fits.stands ∙ ap (λ (o : Option Job). is_some o) over, over)

  ended_verb : jobs_over session ≡ true → client_verb shape session.client ≡ None
  ended_verb e =
      no_verb_unless session.client.cut (verb_of shape session.client session.client.call)
      (verb_runs shape session.client session.client.call ∙ (ended_rests e).0)

  record Stops (s : SessionState) : Type 0 where
    stands : SessionFits shape s
    within : session_left shape s ≤ session_left shape session
    falls : session.client.cut ≡ false → IsSome (session_verb shape session)
        → session_left shape s < session_left shape session
    rests : has_intents shape.form ≡ false → (session_left shape s ≡ 0) × (session_verb shape s ≡ None)

  -- it had ended, or was cut before
  cut_rests : jobs_over session ≡ true → IsUncut session.client → has_intents shape.form ≡ false
      → (session_left shape session ≡ 0) × (session_verb shape session ≡ None)
  cut_rests over uncut none =
      let r = ended_rests over in
      let l = rests_left shape session r.0 r.1 uncut in
      let n = no_room shape.form none in
      (omega arith, ap (λ medic. verb_by shape session medic) uncut.1 ∙ ended_verb over)

  none_rests : (cut : Bool) → session.client.cut ≡ cut → (jobs_over session || cut) ≡ true
      → has_intents shape.form ≡ false → (session_left shape session ≡ 0) × (session_verb shape session ≡ None)
  none_rests false e is none =
      cut_rests (either_true (jobs_over session) false is refl) (uncut_of shape session fits e) none
  none_rests true e is none =
      let medic = none_at session.client.medic (fits.treats ∙ and_false session.client.cut _ none) in (
        ap (λ m. left_by shape session m) medic
            ∙ ap (λ (c : Bool). if c then 0 else client_left shape session.client
            + rest_bound shape session.driver (drop session.driver.job session.jobs) + medic_room shape.form) e,
        ap (λ m. verb_by shape session m) medic
            ∙ ap (λ (c : Bool). if c then None else verb_of shape session.client session.client.call) e,
      )

  unstopped : (jobs_over session || session.client.cut) ≡ true → Stops session
  unstopped is = record {
    stands = fits;
    within = omega arith;
    falls = λ uncut some.
        let over = either_true (jobs_over session) session.client.cut is uncut in
        let u = uncut_of shape session fits uncut in
        let none = ap (λ medic. verb_by shape session medic) u.1 ∙ ended_verb over in
        absurd (false≢true (sym (ap (λ (v : Option (VerbAt Field)). is_some v) none) ∙ some));
    rests = none_rests session.client.cut refl is;
  }

  -- a verb of a client that is to come counts
  verb_left : IsUncut session.client → (verb : Option (VerbAt Field)) → session_verb shape session ≡ verb
      → IsSome verb → 0 < client_left shape session.client
  verb_left uncut None e some = absurd (false≢true some)
  verb_left uncut (Some verb) e some =
      let stands = sym (ap (λ medic. verb_by shape session medic) uncut.1) ∙ e in
      let t = takes_word shape limits session verb 0 fits stands in
      let l = t.falls.1 in
      omega arith

  left_is : IsUncut session.client → session_left shape session ≡ client_left shape session.client
      + rest_bound shape session.driver (drop session.driver.job session.jobs) + medic_room shape.form
  left_is uncut =
      ap (λ medic. left_by shape session medic) uncut.1
      ∙ ap (λ (c : Bool). if c then 0 else client_left shape session.client
      + rest_bound shape session.driver (drop session.driver.job session.jobs) + medic_room shape.form) uncut.0

  stopped_fits : (held : Bool) → has_intents shape.form ≡ held → IsUncut session.client
      → Stops (if held then treated (stopped session) (At medic_begin) else stopped session)
  stopped_fits true held uncut =
      let b = begins_law shape in
      let left = left_is uncut in
      let room : medic_room shape.form ≡ medic_left shape medic_begin =
      ap (λ (h : Bool). if h then medic_left shape medic_begin else 0) held in
      record {
        stands = record {
          client = fits.client;
          jobs = fits.jobs;
          driver = fits.driver;
          runs = fits.runs;
          medic = (held_of shape.form held, b.0);
          treats = sym held;
          stands = fits.stands;
        };
        within = omega arith;
        falls = λ c some. let l = verb_left uncut (session_verb shape session) refl some in omega arith;
        rests = λ none. absurd (false≢true (sym none ∙ held));
      }
  stopped_fits false held uncut =
      let left = left_is uncut in
      let none : session_left shape (stopped session) ≡ 0 =
      ap (λ medic. left_by shape (stopped session) medic) uncut.1 in
      record {
        stands = record {
          client = fits.client;
          jobs = fits.jobs;
          driver = fits.driver;
          runs = fits.runs;
          medic = fits.medic;
          treats = ap (λ (medic : Option (Now MedicPoint Finish)). is_some medic) uncut.1 ∙ sym held;
          stands = fits.stands;
        };
        within = omega arith;
        falls = λ c some. let l = verb_left uncut (session_verb shape session) refl some in omega arith;
        rests = λ n. (none, ap (λ medic. verb_by shape (stopped session) medic) uncut.1);
      }

pub session_cut_ends : SessionCutLaw
session_cut_ends shape limits session fits =
    let s = by_test (Stops shape limits session fits) (jobs_over session || session.client.cut) session
    (cut_in shape.form session) (unstopped shape limits session fits)
    (λ e. stopped_fits shape limits session fits (has_intents shape.form) refl
    (uncut_of shape session fits (either_false (jobs_over session) session.client.cut e))) in
    record { fits = s.stands; within = s.within; falls = s.falls; rests = s.rests }
