use Rattle.std.proofs.Common.{rules, ◌≡◌, ◌<◌, length, arith, sym, ◌∙◌, subst, true, false}
use Rattle.std.specs.List.{AllByRecursion}
use Rattle.si_model.specs.Committed.{rows_held}
use Rattle.si_model.specs.Rows.{overlay}
use Rattle.si_model.specs.Evaluation.{evaluation_of, OpFits}
use Rattle.si_model.specs.EvaluationLaws.{IsWide}
use Rattle.si_model.proofs.EvaluationLemmas.{AreWide-overlay, wide-writes_after}
use Rattle.si_model.proofs.StepLemmas.{go_on, stop}
use Rattle.si_model.proofs.evaluation.eval_on.Goals as goal

pub apply-requires-clause-wide : goal.apply-requires-clause-wide
apply-requires-clause-wide c =
    AreWide-overlay c.args.widths.now c.loop-place.progress.writes (rows_held c.args.rows.now) c.loop-place.invariant.wide
    c.requires.wide

pub returns-then-not-branch : goal.returns-then-not-branch
returns-then-not-branch c =
    let within : c.loop-place.place < length c.args.ops.now = omega arith in
    let declined : c.in_ok-apply.field-0 ≡ false = search rules in
    stop c.args.widths.now (rows_held c.args.rows.now) c.args.ops.now
    (evaluation_of c.args.widths.now (rows_held c.args.rows.now) c.args.ops.now) c.loop-place.place
    c.index-ops-place.result
    c.loop-place.progress.reads c.apply.new.self.reads c.loop-place.progress.writes c.loop-place.progress.guards within
    c.index-ops-place.is c.in_ok-apply.ensures.reads c.loop-place.invariant.so_far
    (sym c.in_ok-apply.ensures.passed ∙ declined)

pub loop-place-preserved : goal.loop-place-preserved
loop-place-preserved c =
    let within : c.loop-place.place < length c.args.ops.now = omega arith in
    let passed : c.in_ok-apply.field-0 ≡ true = search rules in
    let wrote = c.in_ok-apply.ensures.writes passed in
    let fits : OpFits c.args.widths.now c.index-ops-place.result =
    subst (OpFits c.args.widths.now) (sym c.index-ops-place.is)
    (c.requires.fits c.loop-place.place c.index-ops-place.result within) in
    let wide = AreWide-overlay c.args.widths.now c.loop-place.progress.writes (rows_held c.args.rows.now)
    c.loop-place.invariant.wide c.requires.wide in
    record {
      so_far = go_on c.args.widths.now (rows_held c.args.rows.now) c.args.ops.now
          (evaluation_of c.args.widths.now (rows_held c.args.rows.now) c.args.ops.now) c.loop-place.place
          c.index-ops-place.result
          c.loop-place.progress.reads c.apply.new.self.reads c.loop-place.progress.writes c.loop-place.progress.guards
          within c.index-ops-place.is c.in_ok-apply.ensures.reads c.loop-place.invariant.so_far
          c.apply.new.self.writes c.apply.new.self.guards (sym c.in_ok-apply.ensures.passed ∙ passed) wrote
          (c.in_ok-apply.ensures.guards passed);
      wide = subst (AllByRecursion (IsWide c.args.widths.now)) (sym wrote)
          (wide-writes_after c.args.widths.now c.index-ops-place.result
          (overlay c.loop-place.progress.writes (rows_held c.args.rows.now)) c.loop-place.progress.writes fits wide
          c.loop-place.invariant.wide);
    }
