use Rattle.std.specs.Prelude.{◌≡◌, length, slice_index}
use Rattle.std.proofs.lemmas.List.Elements.{recursion_from_All}
use Rattle.si_model.proofs.EvaluationLemmas.{AreWide-rows_of}
use Rattle.si_model.proofs.tests.evaluated.Goals as goal

pub eval-requires-clause-wide : goal.eval-requires-clause-wide
eval-requires-clause-wide c =
    AreWide-rows_of c.args.widths.now c.args.rows.now
    (recursion_from_All (λ r. length r.value ≡ slice_index c.args.widths.now r.table) c.args.rows.now
    (c.all_wide.ensures c.if-all_wide.true))
