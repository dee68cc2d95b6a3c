use Rattle.std.proofs.Common.{◌<◌, ◌∷◌, [], length, map, take, sym, subst, arith}
use Rattle.std.specs.List.{AllByRecursion}
use Rattle.si_model.specs.Rows.{rows_of}
use Rattle.si_model.specs.Evaluation.{OpFits}
use Rattle.si_model.specs.EvaluationLaws.{IsWide}
use Rattle.si_model.specs.History.{MayFollow}
use Rattle.si_model.proofs.ListLemmas.{All-append}
use Rattle.si_model.proofs.LegalLemmas.{taken, legal_on, legal_back, jobs_fit, follow_wide}
use Rattle.si_model.proofs.legal.is_legal.Goals as goal

pub loop-place-preserved : goal.loop-place-preserved
loop-place-preserved c =
    let widths = c.args.widths.now in
    let rows = rows_of c.args.rows.now in
    let jobs = map (λ job. job.items) c.args.jobs.now in
    let history = c.args.history.now in
    let place = c.loop-place.place in
    let entry = c.index-history-place.result in
    let within : place < length history = omega arith in
    let may : MayFollow widths rows jobs (take place history) entry =
    c.in_ok-may_follow.ensures.0 c.if-not-branch.false in
    let fits = jobs_fit (λ job. job.items) (OpFits widths) c.args.jobs.now c.requires.fits in
    record {
      written = subst (AllByRecursion (λ e. AllByRecursion (IsWide widths) e.writes))
          (sym (taken widths rows jobs history place entry within c.index-history-place.is))
          (All-append (λ e. AllByRecursion (IsWide widths) e.writes) (take place history) (entry ∷ [])
          c.loop-place.invariant.written (
            follow_wide widths rows jobs (take place history) entry fits c.requires.wide c.loop-place.invariant.written
                may,
            tt,
          ));
      on = λ rest. c.loop-place.invariant.on (legal_on widths rows jobs history place entry within
          c.index-history-place.is may rest);
      back = λ legal. (legal_back widths rows jobs history place entry within c.index-history-place.is
          (c.loop-place.invariant.back legal)).1;
    }
