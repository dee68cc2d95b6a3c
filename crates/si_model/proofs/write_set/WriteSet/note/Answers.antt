use Rattle.std.proofs.Common.{◌≡◌, Some, None, ap, sym, ◌∙◌, is_some}
use Rattle.std.proofs.lemmas.Result.{on_ok_weaker}
use Rattle.si_model.specs.Rows.{item_key, writes_key}
use Rattle.si_model.specs.Evaluation.{with_write}
use Rattle.si_model.specs.Places.{place_of}
use Rattle.si_model.proofs.PlaceLemmas.{has_place, place_says, wrote_again, wrote_first}
use Rattle.si_model.proofs.write_set.WriteSet.note.Goals as goal

pub set-requires : goal.set-requires
set-requires c =
    let is : place_of c.self.inside.items (item_key c.args.item) ≡ Some c.in-Some.place =
    ap (place_of c.self.inside.items) (sym c.key-key.ensures) ∙ sym (c.self.invariant c.key-key.result)
    ∙ sym c.get.ensures.value ∙ sym c.copied.ensures ∙ c.in-Some.is in
    (place_says c.self.inside.items (item_key c.args.item) c.in-Some.place is).0

pub invariant_of-self : goal.invariant_of-self
invariant_of-self c =
    let is : place_of c.self.inside.items (item_key c.args.item) ≡ Some c.in-Some.place =
    ap (place_of c.self.inside.items) (sym c.key-key.ensures) ∙ sym (c.self.invariant c.key-key.result)
    ∙ sym c.get.ensures.value ∙ sym c.copied.ensures ∙ c.in-Some.is in
    λ key.
    c.self.invariant key ∙ sym ((wrote_again c.self.inside.items c.args.item c.in-Some.place is).1 key)
    ∙ ap (λ ws. place_of ws key) (sym c.set.ensures)

pub returns-in-Some : goal.returns-in-Some
returns-in-Some c =
    let is : place_of c.self.inside.items (item_key c.args.item) ≡ Some c.in-Some.place =
    ap (place_of c.self.inside.items) (sym c.key-key.ensures) ∙ sym (c.self.invariant c.key-key.result)
    ∙ sym c.get.ensures.value ∙ sym c.copied.ensures ∙ c.in-Some.is in
    c.set.ensures ∙ (wrote_again c.self.inside.items c.args.item c.in-Some.place is).0
    ∙ ap (λ ws. with_write ws c.args.item) c.self.view_is

pub add-requires : goal.add-requires
add-requires c =
    let is : place_of c.self.inside.items (item_key c.args.item) ≡ None =
    ap (place_of c.self.inside.items) (sym c.key-key.ensures) ∙ sym (c.self.invariant c.key-key.result)
    ∙ sym c.get.ensures.value ∙ sym c.copied.ensures ∙ c.in-None.is in
    ap (λ ws. writes_key ws (item_key c.args.item)) (sym c.self.view_is)
    ∙ sym (has_place c.self.inside.items (item_key c.args.item)) ∙ ap is_some is

pub returns-in-None : goal.returns-in-None
returns-in-None c =
    let is : place_of c.args.self.now (item_key c.args.item) ≡ None =
    ap (λ ws. place_of ws (item_key c.args.item)) (sym c.self.view_is)
    ∙ ap (place_of c.self.inside.items) (sym c.key-key.ensures) ∙ sym (c.self.invariant c.key-key.result)
    ∙ sym c.get.ensures.value ∙ sym c.copied.ensures ∙ c.in-None.is in
    on_ok_weaker c.add.result (λ new. new ∙ wrote_first c.args.self.now c.args.item is) c.add.ensures
