-- What a worker's line refused in a simulated run, and how many verbs it passed.
use Rattle.std.proofs.Common.{◌≡◌, ℕ, ◌+◌, ◌-◌, ◌*◌, ◌≤◌, Bool, true, false, List, length, drop, refl, sym}
use Rattle.std.proofs.Common.{◌∙◌, subst, arith, Option, Some, None}
use Rattle.std.proofs.lemmas.Bool.{false≢true}
use Rattle.std.specs.Prelude.{slice_get}
use Rattle.nam_line.specs.Plan.{Line}
use Rattle.nam_line.specs.PassedLaw.{CanCount}
use Rattle.nam_calls.specs.Fits.{IsOf}
use Rattle.nam_protocol.specs.declared.session.Job.{Job}
use Rattle.nam_protocol.specs.declared.session.SessionState.{SessionState}
use Rattle.nam_protocol.specs.EndsLaw.{ScenarioFits}
use Rattle.nam_protocol.specs.Left.{jobs_bound, medic_room, session_left}
use Rattle.nam_protocol.specs.Schedule.{Run, Scenario, after_workers, jobs_of, opened, scheduled, simulated}
use Rattle.nam_protocol.specs.Session.{new_session}
use Rattle.nam_protocol.specs.SessionFits.{SessionFits}
use Rattle.nam_protocol.specs.Telling.{new_client}
use Rattle.nam_protocol.specs.World.{session_of}
use Rattle.nam_protocol.proofs.EndsSession.{new_session_ends}
use Rattle.nam_cuts.specs.Cuts.{PassedAll, passed_since}
use Rattle.nam_cuts.specs.CutsLaw.{IsWhole, LineCuts, LineCutsLaw, PassedBounds, PassedBoundsLaw, begun_bound}
use Rattle.nam_cuts.proofs.BoundLemmas.{bound_parts, left_least}
use Rattle.nam_cuts.proofs.ClosedLemmas.{log_snaps, log_tells, log_told}
use Rattle.nam_cuts.proofs.LineSteps.{passed_within}
use Rattle.nam_cuts.proofs.OpenedLemmas.{opened_at, owned_fit}
use Rattle.nam_cuts.proofs.SessionSteps.{new_goes}
use Rattle.nam_cuts.proofs.Stands.{AskedSo, Common, Frozen, Lined, SoFar, Unlined}
use Rattle.nam_cuts.proofs.Stands.{frozen_keeps, lined_keeps, unlined_keeps}
use Rattle.nam_cuts.proofs.Turns.{HoldsAt, TurnKeeps, rounds_keep, workers_keep}

-- 1. The worker's session and its line in the run

same_some : {A : Type 0} (x y : A) (o : Option A) → o ≡ Some x → o ≡ Some y → x ≡ y
same_some x y o e f = cc

module _ (c : Scenario) (fits : ScenarioFits c) (worker : ℕ) (is : IsOf c.shape.workers worker) where
  abbrev jobs : List Job
  jobs = jobs_of worker 1 c.txns

  abbrev new : SessionState
  new = new_session c.shape (new_client worker c.shape.start) jobs c.policy

  new_ends : SessionFits c.shape new × (session_left c.shape new
      ≤ jobs_bound c.shape c.policy jobs + medic_room c.shape.form)
  new_ends =
      new_session_ends c.shape fits.limits worker c.shape.start jobs c.policy is fits.limits.start
      (owned_fit c.shape worker 1 c.txns fits.txns) fits.tries

  new_common : Common c.shape fits.limits c.policy jobs new
  new_common =
      let goes = new_goes c.shape worker c.shape.start jobs c.policy in
      record {
        fits = new_ends.0;
        jobs_are = goes.jobs;
        policy_is = goes.policy;
        tells = goes.client.tells tt;
        runs = λ cut. absurd (false≢true (sym goes.client.cut ∙ cut));
      }

  module _ (lines : List Line) (rounds : ℕ) where
    abbrev run : Run
    run = simulated c lines rounds

    module _ (P : Option Line → SessionState → Type 0) (keeps : TurnKeeps c.shape P) where
      run_holds : P (slice_get lines (worker - 1)) new → HoldsAt c.shape P (worker - 1) run
      run_holds p =
          rounds_keep c.shape P keeps (worker - 1) rounds
          (after_workers c.shape (opened c lines) (scheduled c.shape c.schedule))
          (workers_keep c.shape P keeps (worker - 1) (opened c lines) (scheduled c.shape c.schedule)
          record { session = new; here = opened_at c.shape c.policy c.txns worker is; holds = p })

      session_holds : P (slice_get lines (worker - 1)) new → (session : SessionState)
          → session_of run.world worker ≡ Some session → P (slice_get run.lines (worker - 1)) session
      session_holds p session here =
          let h = run_holds p in
          subst (P (slice_get run.lines (worker - 1)))
          (same_some h.session session (session_of run.world worker) h.here here) h.holds

    module _ (session : SessionState) (here : session_of run.world worker ≡ Some session) where
      whole_of : Common c.shape fits.limits c.policy jobs session → session.client.cut ≡ false → IsWhole c session
      whole_of common uncut = record {
        uncut = uncut;
        log = λ none. log_tells c.shape session common.fits uncut none common.tells;
      }

      -- without a line
      unlined_whole : (o : Option Line) → Unlined c.shape fits.limits c.policy jobs o session → IsWhole c session
      unlined_whole None u = whole_of u.0 u.1
      unlined_whole (Some line) u = absurd u

      without_line : slice_get lines (worker - 1) ≡ None → IsWhole c session
      without_line none =
          let P = Unlined c.shape fits.limits c.policy jobs in
          unlined_whole (slice_get run.lines (worker - 1))
          (session_holds P (unlined_keeps c.shape fits.limits c.policy jobs)
          (subst (λ o. P o new) (sym none)
          (new_common, (new_goes c.shape worker c.shape.start jobs c.policy).client.cut)) session here)

      module _ (start : Line) (begins : slice_get lines (worker - 1) ≡ Some start) (first : CanCount start) where
        abbrev IsAsked : Line → Type 0
        IsAsked now = AskedSo c.shape fits.limits c.policy jobs start first now session

        -- its line now
        record LineNow : Type 0 where
          now : Line
          there : slice_get run.lines (worker - 1) ≡ Some now
          common : Common c.shape fits.limits c.policy jobs session
          asked : IsAsked now

        new_asked : AskedSo c.shape fits.limits c.policy jobs start first start new
        new_asked =
            let goes = new_goes c.shape worker c.shape.start jobs c.policy in
            record {
              plan = refl;
              from = omega arith;
              counted = omega (arith, first);
              so = subst (SoFar c.shape fits.limits c.policy jobs start first start new) (sym goes.client.cut)
                  (λ number after most. absurd (omega (arith, after, most)), let l = new_ends.1 in omega (arith, l));
              spent = λ can. (let l = goes.client.spent in omega (arith, l));
            }

        line_at : (o : Option Line) → slice_get run.lines (worker - 1) ≡ o
            → Lined c.shape fits.limits c.policy jobs start first o session → LineNow
        line_at None there l = absurd l
        line_at (Some now) there l = record { now = now; there = there; common = l.0; asked = l.1 }

        line_now : LineNow
        line_now =
            let P = Lined c.shape fits.limits c.policy jobs start first in
            line_at (slice_get run.lines (worker - 1)) refl
            (session_holds P (lined_keeps c.shape fits.limits c.policy jobs start first)
            (subst (λ o. P o new) (sym begins) (new_common, new_asked)) session here)

        -- 2. Cuts

        abbrev So : Line → Bool → Type 0
        So now cut = SoFar c.shape fits.limits c.policy jobs start first now session cut

        uncut_where : (now : Line) (cut : Bool) → So now cut → PassedAll start now → cut ≡ false
        uncut_where now false so all = refl
        uncut_where now true so all =
            absurd (false≢true (sym (all now.asked so.0.some (omega arith)) ∙ so.0.last))

        asked_no_more : (now : Line) → slice_get run.lines (worker - 1) ≡ Some now → session.client.cut ≡ true
            → (turns : List ℕ) → slice_get (after_workers c.shape run turns).lines (worker - 1) ≡ Some now
        asked_no_more now there cut turns =
            (workers_keep c.shape (Frozen c.shape fits.limits c.policy jobs now)
            (frozen_keeps c.shape fits.limits c.policy jobs now) (worker - 1) run turns
            record { session = session; here = here; holds = (cut, there) }).holds.1

        cuts : (now : Line) → slice_get run.lines (worker - 1) ≡ Some now
            → Common c.shape fits.limits c.policy jobs session → IsAsked now
            → LineCuts c run worker session start now
        cuts now there common asked = record {
          plan = asked.plan;
          whole = λ all. whole_of common (uncut_where now session.client.cut asked.so all);
          uncut = λ uncut. (let so : So now false = subst (So now) uncut asked.so in so.0);
          cut = λ cut. (let so : So now true = subst (So now) cut asked.so in so.0);
          told = λ cut. log_told c.shape session common.fits cut (common.runs cut);
          asked_no_more = asked_no_more now there;
        }

        -- 3. Bounds

        asked_most : (now : Line) (cut : Bool) → session.client.cut ≡ cut
            → Common c.shape fits.limits c.policy jobs session → So now cut
            → now.asked ≤ start.asked + begun_bound c worker session
        asked_most now true e common so = so.1
        asked_most now false e common so =
            let n = session.driver.job + 1 in
            let room = medic_room c.shape.form in
            let left = left_least c.shape session common.fits e in
            let rest : jobs_bound c.shape c.policy (drop n jobs) + room ≤ session_left c.shape session =
            subst (λ p. jobs_bound c.shape p (drop n jobs) + room ≤ session_left c.shape session) common.policy_is
            (subst (λ js. jobs_bound c.shape session.driver.policy (drop n js) + room
            ≤ session_left c.shape session) common.jobs_are left) in
            let parts = bound_parts c.shape c.policy jobs n in
            let l = so.1 in
            omega (arith, l, rest, parts)

        bounds : (now : Line) → Common c.shape fits.limits c.policy jobs session → IsAsked now
            → PassedBounds c worker session start now
        bounds now common asked =
            let most = asked_most now session.client.cut refl common asked.so in
            record {
              snaps = λ can.
                  let l = asked.spent can in
                  subst (λ snaps. 2 * c.shape.workers * length snaps ≤ passed_since start now)
                  (sym (log_snaps c.shape session)) (omega (arith, l));
              passed = (let l = passed_within start now asked.plan asked.from in omega (arith, l, most));
              asked = most;
            }

pub line_cuts : LineCutsLaw
line_cuts c fits lines rounds worker is session here = (
  without_line c fits worker is lines rounds session here,
  λ start begins first.
      let l = line_now c fits worker is lines rounds session here start begins first in
      let cut = cuts c fits worker is lines rounds session here start begins first l.now l.there l.common l.asked in
      (l.now, l.there, cut),
)

pub passed_bounds : PassedBoundsLaw
passed_bounds c fits lines rounds worker is session here start begins first =
    let l = line_now c fits worker is lines rounds session here start begins first in
    (l.now, l.there, bounds c fits worker is lines rounds session here start begins first l.now l.common l.asked)
