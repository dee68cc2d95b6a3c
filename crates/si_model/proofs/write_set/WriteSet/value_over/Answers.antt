use Rattle.std.proofs.Common.{◌≡◌, Some, None, ap, sym, ◌∙◌}
use Rattle.std.specs.Option.{option_copied}
use Rattle.si_model.specs.Committed.{rows_held}
use Rattle.si_model.specs.Rows.{overlay}
use Rattle.si_model.specs.Places.{place_of}
use Rattle.si_model.proofs.PlaceLemmas.{place_says, no_place_says}
use Rattle.si_model.proofs.write_set.WriteSet.value_over.Goals as goal

pub at-requires : goal.at-requires
at-requires c =
    let is : place_of c.self.inside.items c.args.key ≡ Some c.in-Some.place.now =
    sym (c.self.invariant c.args.key) ∙ sym c.get.ensures.value ∙ ap option_copied c.in-Some.is in
    (place_says c.self.inside.items c.args.key c.in-Some.place.now is).0

pub returns-in-Some : goal.returns-in-Some
returns-in-Some c =
    let rows = rows_held c.args.rows.now in
    let is : place_of c.self.inside.items c.args.key ≡ Some c.in-Some.place.now =
    sym (c.self.invariant c.args.key) ∙ sym c.get.ensures.value ∙ ap option_copied c.in-Some.is in
    c.copy_value.ensures ∙ ap (λ i. i.value) c.at.ensures
    ∙ sym ((place_says c.self.inside.items c.args.key c.in-Some.place.now is).1 rows c.at.result.now)
    ∙ ap (λ ws. overlay ws rows c.args.key) c.self.view_is

pub returns-in-None : goal.returns-in-None
returns-in-None c =
    let rows = rows_held c.args.rows.now in
    let is : place_of c.self.inside.items c.args.key ≡ None =
    sym (c.self.invariant c.args.key) ∙ sym c.get.ensures.value ∙ ap option_copied c.in-None.is in
    c.value.ensures ∙ sym (no_place_says c.self.inside.items c.args.key is rows)
    ∙ ap (λ ws. overlay ws rows c.args.key) c.self.view_is
