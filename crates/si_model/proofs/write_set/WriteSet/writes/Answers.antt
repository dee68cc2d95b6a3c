use Rattle.std.proofs.Common.{ap, ◌∙◌, is_some}
use Rattle.si_model.specs.Rows.{writes_key}
use Rattle.si_model.proofs.PlaceLemmas.{has_place}
use Rattle.si_model.proofs.write_set.WriteSet.writes.Goals as goal

pub returns : goal.returns
returns c =
    c.contains_key.ensures ∙ ap is_some (c.self.invariant c.args.key) ∙ has_place c.self.inside.items c.args.key
    ∙ ap (λ ws. writes_key ws c.args.key) c.self.view_is
