use Rattle.std.proofs.Common.{◌∙◌, sym, ap, subst}
use Rattle.nam_layout.specs.Extent.{IsIn, field_in_extents}
use Rattle.nam_layout.specs.FieldAt.{field_at}
use Rattle.nam_layout.proofs.LayoutLemmas.{address_in, field_there}
use Rattle.nam_layout.proofs.layout.Layout.field_of.Goals as goal

pub field_in-requires : goal.field_in-requires
field_in-requires c =
    subst (IsIn c.args.address) (sym c.as_slice.ensures.value)
    (address_in _ _ _ _ _ c.self.invariant c.args.address c.if-address-workers-2.false c.if-address-self.true)

pub returns-then-address-self : goal.returns-then-address-self
returns-then-address-self c =
    c.field_in.ensures
    ∙ ap (λ es. field_in_extents es c.args.address) c.as_slice.ensures.value
    ∙ field_there _ _ _ _ _ c.self.invariant c.args.address c.if-address-workers-2.false c.if-address-self.true
    ∙ ap (λ shape. field_at shape c.args.address) c.self.view_is
