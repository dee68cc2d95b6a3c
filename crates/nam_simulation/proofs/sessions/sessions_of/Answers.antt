use Rattle.std.proofs.Common.{◌≡◌, ◌+◌, ◌++◌, length, map, refl, ap, subst, ◌∙◌, arith}
use Rattle.std.proofs.lemmas.List.{length_push}
use Rattle.std.proofs.lemmas.List.Elements.{All-nil, All-push}
use Rattle.std.specs.List.{AllByRecursion}
use Rattle.std.specs.Vec.Iter.{into_iter_items}
use Rattle.nam_scenario.specs.Scenario.{scenario_of}
use Rattle.nam_protocol.specs.Schedule.{all_jobs}
use Rattle.nam_protocol.specs.Session.{new_session}
use Rattle.nam_protocol.specs.Telling.{new_client}
use Rattle.nam_protocol.specs.World.{new_sessions}
use Rattle.nam_worker.specs.Session.{IsSessionOf, session_of}
use Rattle.nam_simulation.specs.Simulation.{AreJobsOf}
use Rattle.nam_simulation.proofs.OpenedLemmas.{session_pushed}
use Rattle.nam_simulation.proofs.SessionJobs.{jobs_long, workers_jobs}
use Rattle.nam_simulation.proofs.sessions.sessions_of.Goals as goal

pub loop-jobs-init : goal.loop-jobs-init
loop-jobs-init c =
    let script = c.args.script.now in
    let left = c.into_iter-jobs-iterator.ensures.into_iter_gives.0 ∙ c.in_ok-jobs-items.ensures in
    let none = c.new-sessions.ensures.items in
    record {
      of = rw none (All-nil (IsSessionOf script.shape));
      made = rw (none, left) refl;
      jobs = rw left (workers_jobs script c.requires.script);
      many =
          rw (none, left) (let long = jobs_long script.shape.workers (scenario_of script).txns in omega arith);
    }

pub loop-jobs-preserved : goal.loop-jobs-preserved
loop-jobs-preserved c =
    let script = c.args.script.now in
    let next = c.in-Some.ensures.steps.0 in
    let rest = into_iter_items c.next.new.self in
    let so_far = c.loop-jobs.invariant in
    let items = c.loop-jobs.sessions.items in
    let session = c.in_ok-session_with.field-0 in
    let more = c.in_ok-push.ensures.items in
    let all = new_sessions script.shape script.policy 1
    (all_jobs script.shape.workers (scenario_of script).txns) in
    record {
      of = rw more (All-push (IsSessionOf script.shape) items session so_far.of c.in_ok-session_with.ensures.of);
      made =
          session_pushed script c.requires.script items c.push.new.self.items session c.in-Some.jobs rest all more
          (subst (λ n. session_of session
          ≡ new_session script.shape (new_client (n + 1) script.shape.start) c.in-Some.jobs script.policy)
          (c.len.ensures ∙ c.loop-jobs.sessions.ok.0) c.in_ok-session_with.ensures.session)
          (subst (λ left. map session_of items ++ new_sessions script.shape script.policy (length items + 1) left
          ≡ all)
          next so_far.made);
      jobs = (subst (AllByRecursion (AreJobsOf script)) next so_far.jobs).1;
      many =
          let long = ap length more ∙ length_push items session in
          let count = ap length next in
          let counted = so_far.many in
          omega arith;
    }
