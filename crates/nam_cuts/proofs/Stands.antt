-- What holds of a worker's session and its line after any turns: no cut is listed; the line passed all that it was
-- asked for, or the last was refused and the session is cut; and how many verbs it was asked for.
use Rattle.std.proofs.Common.{◌≡◌, ℕ, ◌+◌, ◌-◌, ◌^◌, ◌≤◌, Bool, true, false, List, take, drop, sym, ap, ◌∙◌}
use Rattle.std.proofs.Common.{subst, arith, Option, Some, None}
use Rattle.std.proofs.lemmas.Bool.{false≢true}
use Rattle.si_model.specs.declared.op.Policy.{Policy}
use Rattle.nam_verbs.specs.VerbAt.{VerbAt}
use Rattle.nam_line.specs.Plan.{Line, asked_once, next_asked, passed_by, refuses_next}
use Rattle.nam_line.specs.PassedLaw.{CanCount}
use Rattle.nam_line.proofs.PassedLemmas.{law}
use Rattle.nam_catalog.specs.declared.shape.Shape.{Shape}
use Rattle.nam_catalog.specs.Fits.{FitsLimits}
use Rattle.nam_layout.specs.declared.field.Field.{Field}
use Rattle.nam_protocol.specs.declared.session.DriverState.{DriverState}
use Rattle.nam_protocol.specs.declared.session.Job.{Job}
use Rattle.nam_protocol.specs.declared.session.SessionState.{SessionState}
use Rattle.nam_protocol.specs.Left.{jobs_bound, medic_room, session_left}
use Rattle.nam_protocol.specs.Session.{session_after, session_cut, session_verb}
use Rattle.nam_protocol.specs.SessionFits.{SessionFits, is_running}
use Rattle.nam_protocol.proofs.EndsSession.{session_word}
use Rattle.nam_protocol.proofs.EndsSettled.{session_cut_ends}
use Rattle.nam_cuts.specs.Cuts.{PassedAll, RefusedLast, TellsNoCut}
use Rattle.nam_cuts.proofs.BoundLemmas.{bound_parts, left_more}
use Rattle.nam_cuts.proofs.ClientSteps.{snaps_spent}
use Rattle.nam_cuts.proofs.LineSteps.{next_count, passed_next, refused_next}
use Rattle.nam_cuts.proofs.SessionSteps.{after_goes, medic_treats, stop_cuts, stop_leaves, uncut_runs}
use Rattle.nam_cuts.proofs.Turns.{TurnKeeps}

clash : (b : Bool) → b ≡ false → b ≡ true → ⊥
clash b f t = false≢true (sym f ∙ t)

module _ (shape : Shape) (limits : FitsLimits shape) (policy : Policy) (jobs : List Job) where
  -- 1. The session by itself

  pub record Common (session : SessionState) : Type 0 where
    pub fits : SessionFits shape session
    pub jobs_are : session.jobs ≡ jobs
    pub policy_is : session.driver.policy ≡ policy
    pub tells : TellsNoCut session.client.log
    -- it was stopped in a call
    pub runs : session.client.cut ≡ true → is_running session.client.call ≡ true

  common_word : (session : SessionState) (verb : VerbAt Field) (found : ℕ) → session_verb shape session ≡ Some verb
      → Common session → Common (session_after shape session found)
  common_word session verb found e c =
      let goes = after_goes shape session found in
      record {
        fits = (session_word shape limits session verb found c.fits e).0;
        jobs_are = goes.jobs ∙ c.jobs_are;
        policy_is = goes.policy ∙ c.policy_is;
        tells = goes.client.tells c.tells;
        runs = λ cut.
            let was = sym goes.client.cut ∙ cut in
            ap is_running (medic_treats shape limits session verb found was e).call ∙ c.runs was;
      }

  common_cut : (session : SessionState) (verb : VerbAt Field) → session.client.cut ≡ false
      → session_verb shape session ≡ Some verb → Common session → Common (session_cut shape.form session)
  common_cut session verb uncut e c =
      let leaves = stop_leaves shape session in
      record {
        fits = (session_cut_ends shape limits session c.fits).fits;
        jobs_are = leaves.jobs ∙ c.jobs_are;
        policy_is = ap (λ (d : DriverState). d.policy) leaves.driver ∙ c.policy_is;
        tells = subst TellsNoCut (sym leaves.log) c.tells;
        runs = λ cut. ap is_running leaves.call ∙ uncut_runs shape session verb c.fits uncut e;
      }

  -- 2. A worker without a line is not cut

  abbrev pub Unlined : Option Line → SessionState → Type 0
  Unlined None session = Common session × (session.client.cut ≡ false)
  Unlined (Some line) session = ⊥

  unlined_medic : (now : Option Line) (session after : SessionState) → session.client.cut ≡ true → Unlined now session
      → Unlined now after
  unlined_medic None session after cut u = absurd (clash session.client.cut u.1 cut)
  unlined_medic (Some line) session after cut u = u

  pub unlined_keeps : TurnKeeps shape Unlined
  unlined_keeps = record {
    medic = λ now session verb found cut e u. unlined_medic now session (session_after shape session found) cut u;
    unlined = λ session verb found uncut e u.
        (common_word session verb found e u.0, (after_goes shape session found).client.cut ∙ uncut);
    passes = λ line session verb found uncut e is u. u;
    refused = λ line session verb uncut e is u. u;
  }

  -- 3. A worker with a line

  module _ (start : Line) (first : CanCount start) where
    -- the bound of the jobs that were begun
    abbrev begun : ℕ → ℕ
    begun job = jobs_bound shape policy (take (job + 1) jobs)

    -- as long as the session isn't cut no verb was refused, and it may take what is left of the bound; once it is cut
    -- the last verb was refused
    abbrev pub SoFar : Line → SessionState → Bool → Type 0
    SoFar now session false = PassedAll start now
        × (now.asked + session_left shape session
        ≤ start.asked + jobs_bound shape policy jobs + medic_room shape.form)
    SoFar now session true = RefusedLast start now × (now.asked ≤ start.asked + begun session.driver.job)

    pub record AskedSo (now : Line) (session : SessionState) : Type 0 where
      pub plan : now.plan ≡ start.plan
      pub from : start.asked ≤ now.asked
      pub counted : now.asked ≤ 2 ^ 64 - 1
      pub so : SoFar now session session.client.cut
      pub spent : CanCount now → snaps_spent shape session.client + passed_by start ≤ passed_by now

    abbrev pub Lined : Option Line → SessionState → Type 0
    Lined None session = ⊥
    Lined (Some now) session = Common session × AskedSo now session

    -- the medic's verb
    asked_medic : (now : Line) (session : SessionState) (verb : VerbAt Field) (found : ℕ)
        → session.client.cut ≡ true → session_verb shape session ≡ Some verb → AskedSo now session
        → AskedSo now (session_after shape session found)
    asked_medic now session verb found cut e a =
        let t = medic_treats shape limits session verb found cut e in
        let after = session_after shape session found in
        let so : SoFar now session true = subst (SoFar now session) cut a.so in
        record {
          plan = a.plan;
          from = a.from;
          counted = a.counted;
          so = subst (SoFar now after) (sym (t.goes.client.cut ∙ cut))
              (so.0, subst (λ (d : DriverState). now.asked ≤ start.asked + begun d.job) (sym t.driver) so.1);
          spent = λ can. (let l = a.spent can in let m = t.goes.client.spent in omega (arith, l, m));
        }

    lined_medic : (now : Option Line) (session : SessionState) (verb : VerbAt Field) (found : ℕ)
        → session.client.cut ≡ true → session_verb shape session ≡ Some verb → Lined now session
        → Lined now (session_after shape session found)
    lined_medic None session verb found cut e l = l
    lined_medic (Some now) session verb found cut e l =
        (common_word session verb found e l.0, asked_medic now session verb found cut e l.1)

    asked_passes : (now : Line) (session : SessionState) (verb : VerbAt Field) (found : ℕ) → Common session
        → session.client.cut ≡ false → session_verb shape session ≡ Some verb → refuses_next now ≡ false
        → AskedSo now session → AskedSo (asked_once now) (session_after shape session found)
    asked_passes now session verb found c uncut e is a =
        let goes = after_goes shape session found in
        let after = session_after shape session found in
        let n = next_count now.asked a.counted in
        let so : SoFar now session false = subst (SoFar now session) uncut a.so in
        let falls = (session_word shape limits session verb found c.fits e).1 in
        record {
          plan = a.plan;
          from = (let l = n.least in let m = a.from in omega (arith, l, m));
          counted = n.within;
          so = subst (SoFar (asked_once now) after) (sym (goes.client.cut ∙ uncut)) (
            passed_next start now a.counted so.0 is,
            let l = so.1 in let m = n.most in omega (arith, l, m, falls),
          );
          spent = λ can.
              let below = n.rose can in
              let l = a.spent below in
              let m = goes.client.spent in
              let p = law.passes now below is in
              omega (arith, l, m, p);
        }

    asked_refused : (now : Line) (session : SessionState) (verb : VerbAt Field) → Common session
        → session.client.cut ≡ false → session_verb shape session ≡ Some verb → refuses_next now ≡ true
        → AskedSo now session → AskedSo (asked_once now) (session_cut shape.form session)
    asked_refused now session verb c uncut e is a =
        let leaves = stop_leaves shape session in
        let after = session_cut shape.form session in
        let n = next_count now.asked a.counted in
        let so : SoFar now session false = subst (SoFar now session) uncut a.so in
        let left = left_more shape session c.fits uncut limits verb e in
        let rest : jobs_bound shape policy (drop (session.driver.job + 1) jobs) + medic_room shape.form + 1
        ≤ session_left shape session =
        subst (λ p. jobs_bound shape p (drop (session.driver.job + 1) jobs) + medic_room shape.form + 1
        ≤ session_left shape session) c.policy_is
        (subst (λ js. jobs_bound shape session.driver.policy (drop (session.driver.job + 1) js)
        + medic_room shape.form + 1 ≤ session_left shape session) c.jobs_are left) in
        let parts = bound_parts shape policy jobs (session.driver.job + 1) in
        let within : next_asked now.asked ≤ start.asked + begun session.driver.job =
        (let l = so.1 in let m = n.most in omega (arith, l, m, rest, parts)) in
        record {
          plan = a.plan;
          from = (let l = n.least in let m = a.from in omega (arith, l, m));
          counted = n.within;
          so = subst (SoFar (asked_once now) after) (sym (stop_cuts shape session c.fits uncut verb e)) (
            refused_next start now first a.from a.counted so.0 is,
            subst (λ (d : DriverState). next_asked now.asked ≤ start.asked + begun d.job) (sym leaves.driver) within,
          );
          spent = λ can.
              let below = n.rose can in
              let l = a.spent below in
              let m = leaves.spent in
              let p = law.refuses now below is in
              omega (arith, l, m, p);
        }

    pub lined_keeps : TurnKeeps shape Lined
    lined_keeps = record {
      medic = lined_medic;
      unlined = λ session verb found uncut e l. l;
      passes = λ line session verb found uncut e is l.
          (common_word session verb found e l.0, asked_passes line session verb found l.0 uncut e is l.1);
      refused = λ line session verb uncut e is l.
          (common_cut session verb uncut e l.0, asked_refused line session verb l.0 uncut e is l.1);
    }

  -- 4. The line of a session that is cut is asked no more

  abbrev pub Frozen : Line → Option Line → SessionState → Type 0
  Frozen line now session = (session.client.cut ≡ true) × (now ≡ Some line)

  pub frozen_keeps : (line : Line) → TurnKeeps shape (Frozen line)
  frozen_keeps line = record {
    medic = λ now session verb found cut e f. ((after_goes shape session found).client.cut ∙ cut, f.1);
    unlined = λ session verb found uncut e f. absurd (clash session.client.cut uncut f.0);
    passes = λ now session verb found uncut e is f. absurd (clash session.client.cut uncut f.0);
    refused = λ now session verb uncut e is f. absurd (clash session.client.cut uncut f.0);
  }
