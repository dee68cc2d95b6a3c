use Rattle.std.proofs.Common.{◌∙◌, sym, ap, subst, arith}
use Rattle.nam_catalog.specs.declared.shape.Shape.{Shape}
use Rattle.nam_layout.specs.Rows.{row_of}
use Rattle.nam_layout.specs.RowLaw.{IsPosition}
use Rattle.nam_layout.specs.Place.{place_of}
use Rattle.nam_layout.specs.PlaceFits.{FitsPlace}
use Rattle.nam_layout.proofs.PositionLemmas.{position_is_row}
use Rattle.nam_layout.proofs.LimitLemmas.{place_within_limits}
use Rattle.nam_layout.proofs.LayoutLemmas.{length_is, place_is, place_fits}
use Rattle.nam_layout.proofs.layout.Layout.place.Goals as goal

pub at-requires : goal.at-requires
at-requires c =
    let is : IsPosition c.self.inside.shape.tables c.args.table c.args.position = rw (← c.self.view_is) at c.requires in
    let less = is.0 in
    let all = length_is _ _ _ _ _ c.self.invariant in
    (omega arith, omega arith)

pub place_in-requires-clause-row : goal.place_in-requires-clause-row
place_in-requires-clause-row c =
    let is : IsPosition c.self.inside.shape.tables c.args.table c.args.position = rw (← c.self.view_is) at c.requires in
    (place_fits _ _ _ _ _ c.self.invariant c.args.table c.args.position c.at.result.now is c.at.ensures).0

pub place_in-requires-clause-address : goal.place_in-requires-clause-address
place_in-requires-clause-address c =
    let is : IsPosition c.self.inside.shape.tables c.args.table c.args.position = rw (← c.self.view_is) at c.requires in
    (place_fits _ _ _ _ _ c.self.invariant c.args.table c.args.position c.at.result.now is c.at.ensures).1

pub returns-clause-value : goal.returns-clause-value
returns-clause-value c =
    let is : IsPosition c.self.inside.shape.tables c.args.table c.args.position = rw (← c.self.view_is) at c.requires in
    c.place_in.ensures
    ∙ place_is _ _ _ _ _ c.self.invariant c.args.table c.args.position c.at.result.now is c.at.ensures
    ∙ ap (λ (shape : Shape). place_of shape c.args.table c.args.position) c.self.view_is

pub returns-clause-fits : goal.returns-clause-fits
returns-clause-fits c =
    let shape = c.self.inside.shape in
    let is : IsPosition shape.tables c.args.table c.args.position = rw (← c.self.view_is) at c.requires in
    let row = position_is_row shape.tables c.args.table c.args.position is in
    subst FitsPlace
    (sym (c.place_in.ensures
    ∙ place_is _ _ _ _ _ c.self.invariant c.args.table c.args.position c.at.result.now is c.at.ensures))
    (place_within_limits shape (row_of shape.tables c.args.table c.args.position) c.self.invariant.fits row.within)
