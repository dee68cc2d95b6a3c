use Rattle.std.specs.Prelude.{◌≡◌, length, slice_index, ◌∷◌, []}
use Rattle.std.proofs.lemmas.List.Elements.{recursion_from_All}
use Rattle.si_model.proofs.EvaluationLemmas.{AreWide-rows_of}
use Rattle.si_model.proofs.tests.legal.legal.Goals as goal

pub is_legal-requires-clause-wide : goal.is_legal-requires-clause-wide
is_legal-requires-clause-wide c =
    AreWide-rows_of (1 ∷ []) c.args.rows.now
    (recursion_from_All (λ r. length r.value ≡ slice_index (1 ∷ []) r.table) c.args.rows.now
    (c.all_wide.ensures c.if-all_wide.true))
