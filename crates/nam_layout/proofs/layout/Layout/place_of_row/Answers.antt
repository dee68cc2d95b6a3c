use Rattle.std.proofs.Common.{◌∙◌, sym, ap, Some}
use Rattle.nam_catalog.specs.declared.shape.Shape.{Shape}
use Rattle.nam_layout.specs.Extent.{position_in}
use Rattle.nam_layout.proofs.LayoutLemmas.{row_position, row_found, place_found, no_place_found, position_there}
use Rattle.nam_layout.proofs.layout.Layout.place_of_row.Goals as goal

pub place-requires : goal.place-requires
place-requires c =
    let there = position_there _ _ _ _ _ c.self.invariant c.args.row
    ∙ ap (λ (shape : Shape). row_position shape.tables c.args.row) c.self.view_is in
    let found = sym there ∙ ap (λ es. position_in 0 es c.args.row) (sym c.as_slice.ensures.value)
    ∙ sym c.position_in.ensures ∙ c.in-Some.is in
    (row_found c.args.self.now.tables c.args.row _ _ found).place

pub returns-in-Some-clause-value : goal.returns-in-Some-clause-value
returns-in-Some-clause-value c =
    let there = position_there _ _ _ _ _ c.self.invariant c.args.row
    ∙ ap (λ (shape : Shape). row_position shape.tables c.args.row) c.self.view_is in
    let found = sym there ∙ ap (λ es. position_in 0 es c.args.row) (sym c.as_slice.ensures.value)
    ∙ sym c.position_in.ensures ∙ c.in-Some.is in
    ap Some c.place.ensures.value ∙ place_found c.args.self.now c.args.row _ _ found

pub returns-in-None-clause-value : goal.returns-in-None-clause-value
returns-in-None-clause-value c =
    let there = position_there _ _ _ _ _ c.self.invariant c.args.row
    ∙ ap (λ (shape : Shape). row_position shape.tables c.args.row) c.self.view_is in
    let found = sym there ∙ ap (λ es. position_in 0 es c.args.row) (sym c.as_slice.ensures.value)
    ∙ sym c.position_in.ensures ∙ c.in-None.is in
    no_place_found c.args.self.now c.args.row found
