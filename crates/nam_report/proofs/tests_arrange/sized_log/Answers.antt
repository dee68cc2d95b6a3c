use Rattle.std.proofs.Common.{◌+◌, ◌++◌, ◌∷◌, [], List, ℕ, length, ap, ◌∙◌, arith}
use Rattle.std.specs.Prelude.{replicate}
use Rattle.std.proofs.lemmas.List.{length-append, replicate_more}
use Rattle.si_model.specs.declared.row.Item.{Item}
use Rattle.si_model.specs.declared.log.Event.{Event}
use Rattle.nam_report.specs.ArrangedExamples.{commit}
use Rattle.nam_report.proofs.ArrangedExamples.{sized_more}
use Rattle.nam_report.proofs.tests_arrange.sized_log.Goals as goal

pub loop-place-preserved : goal.loop-place-preserved
loop-place-preserved c =
    let k = c.loop-place.place in
    let writes : List Item = c.loop-place.writes in
    let longer = length-append writes (c.item.result ∷ []) in
    let pushed = ap length c.in_ok-push-2.ensures.ok in
    record {
      events =
          c.in_ok-push.ensures.ok
          ∙ ap (λ (e : Event). c.loop-place.events ++ e ∷ []) c.commit.ensures
          ∙ ap (λ (es : List Event). es ++ commit 1 1 0 (k + 1) ∷ []) c.loop-place.invariant.events
          ∙ sized_more k;
      writes = omega (arith, longer, pushed, c.loop-place.invariant.writes);
      snaps =
          c.in_ok-push-3.ensures.ok
          ∙ ap (λ (s : List ℕ). c.loop-place.snaps ++ s ∷ []) c.zeros.ensures
          ∙ ap (λ (ss : List (List ℕ)). ss ++ replicate c.args.workers 0 ∷ []) c.loop-place.invariant.snaps
          ∙ replicate_more k (replicate c.args.workers 0);
    }
