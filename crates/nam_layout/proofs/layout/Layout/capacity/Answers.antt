use Rattle.std.proofs.Common.{◌<◌, length, ap, ◌∙◌, arith}
use Rattle.std.specs.Prelude.{slice_index}
use Rattle.nam_catalog.specs.declared.shape.Shape.{Shape}
use Rattle.nam_catalog.specs.Tables.{capacities_of}
use Rattle.nam_layout.proofs.LayoutLemmas.{length_is, is_extent}
use Rattle.nam_layout.proofs.layout.Layout.capacity.Goals as goal

pub at-requires : goal.at-requires
at-requires c =
    let less : c.args.table < length c.self.inside.shape.tables = rw (← c.self.view_is) at c.requires in
    let all = length_is _ _ _ _ _ c.self.invariant in
    (omega arith, omega arith)

pub returns : goal.returns
returns c =
    let less : c.args.table < length c.self.inside.shape.tables = rw (← c.self.view_is) at c.requires in
    let is = is_extent _ _ _ _ _ c.self.invariant c.args.table c.at.result.now less c.at.ensures in
    is.capacity_is ∙ ap (λ (shape : Shape). slice_index (capacities_of shape.tables) c.args.table) c.self.view_is
