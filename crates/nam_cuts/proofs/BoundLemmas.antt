-- What a session that isn't cut may still take is at least the bound of the jobs that were not begun.
use Rattle.std.proofs.Common.{◌≡◌, ℕ, zero, suc, ◌+◌, ◌≤◌, Bool, false, List, [], ◌∷◌, drop, take, refl}
use Rattle.std.proofs.Common.{sym, ap, ◌∙◌, arith, Some}
use Rattle.std.proofs.Math.Numerals.{add-one}
use Rattle.std.specs.Prelude.{if◌then◌else◌}
use Rattle.si_model.specs.declared.op.Policy.{Policy}
use Rattle.nam_verbs.specs.VerbAt.{VerbAt}
use Rattle.nam_catalog.specs.declared.shape.Shape.{Shape}
use Rattle.nam_catalog.specs.Fits.{FitsLimits}
use Rattle.nam_layout.specs.declared.field.Field.{Field}
use Rattle.nam_protocol.specs.declared.session.DriverState.{DriverState}
use Rattle.nam_protocol.specs.declared.session.Job.{Job}
use Rattle.nam_protocol.specs.declared.session.SessionState.{SessionState}
use Rattle.nam_protocol.specs.Left.{client_left, jobs_bound, left_by, medic_room, rest_bound, session_left}
use Rattle.nam_protocol.specs.Session.{session_verb, verb_by}
use Rattle.nam_protocol.specs.SessionFits.{SessionFits}
use Rattle.nam_protocol.proofs.EndsSession.{takes_word, uncut_of}

module _ (shape : Shape) where
  -- jobs are begun, or not
  pub bound_parts : (policy : Policy) (jobs : List Job) (n : ℕ)
      → jobs_bound shape policy (take n jobs) + jobs_bound shape policy (drop n jobs) ≡ jobs_bound shape policy jobs
  bound_parts policy [] zero = refl
  bound_parts policy [] (suc n) = refl
  bound_parts policy (job ∷ jobs) zero = omega arith
  bound_parts policy (job ∷ jobs) (suc n) = let e = bound_parts policy jobs n in omega (arith, e)

  rest_least : (driver : DriverState) (jobs : List Job) (n : ℕ)
      → jobs_bound shape driver.policy (drop (suc n) jobs) ≤ rest_bound shape driver (drop n jobs)
  rest_least driver [] zero = omega arith
  rest_least driver [] (suc n) = omega arith
  rest_least driver (job ∷ jobs) zero = omega arith
  rest_least driver (job ∷ jobs) (suc n) = rest_least driver jobs n

  module _ (session : SessionState) (fits : SessionFits shape session) (uncut : session.client.cut ≡ false) where
    left_is : session_left shape session ≡ client_left shape session.client
        + rest_bound shape session.driver (drop session.driver.job session.jobs) + medic_room shape.form
    left_is =
        ap (λ medic. left_by shape session medic) (uncut_of shape session fits uncut).1
        ∙ ap (λ (c : Bool). if c then 0 else client_left shape session.client
        + rest_bound shape session.driver (drop session.driver.job session.jobs) + medic_room shape.form) uncut

    abbrev unbegun : ℕ
    unbegun = jobs_bound shape session.driver.policy (drop (session.driver.job + 1) session.jobs)

    unbegun_least : unbegun ≤ rest_bound shape session.driver (drop session.driver.job session.jobs)
    unbegun_least = rw add-one (rest_least session.driver session.jobs session.driver.job)

    pub left_least : unbegun + medic_room shape.form ≤ session_left shape session
    left_least = let e = left_is in let l = unbegun_least in omega (arith, e, l)

    -- a verb that is to come counts
    pub left_more : FitsLimits shape → (verb : VerbAt Field) → session_verb shape session ≡ Some verb
        → unbegun + medic_room shape.form + 1 ≤ session_left shape session
    left_more limits verb e =
        let u = uncut_of shape session fits uncut in
        let stands = sym (ap (λ medic. verb_by shape session medic) u.1) ∙ e in
        let f = (takes_word shape limits session verb 0 fits stands).falls.1 in
        let is = left_is in
        let l = unbegun_least in
        omega (arith, f, is, l)
