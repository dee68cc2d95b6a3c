use Rattle.std.proofs.Common.{◌≡◌, ◌++◌, [], ◌∷◌, false, ap, sym, ◌∙◌}
use Rattle.std.specs.BTreeMap.{get}
use Rattle.si_model.specs.Held.{key_cmp}
use Rattle.si_model.specs.Rows.{item_key, writes_key}
use Rattle.si_model.proofs.PlaceLemmas.{place_added, place_back, ok_told, err_told}
use Rattle.si_model.proofs.write_set.WriteSet.add.Goals as goal

pub invariant_of-self-then-is_err : goal.invariant_of-self-then-is_err
invariant_of-self-then-is_err c =
    let ws = c.self.inside.items in
    let item = c.args.item in
    let absent : writes_key ws (item_key item) ≡ false =
    ap (λ us. writes_key us (item_key item)) c.self.view_is ∙ c.requires in
    let same : c.push.new.self ≡ ws =
    err_told c.push.result (sym c.is_err.ensures.value ∙ c.if-is_err.true) c.push.ensures.err in
    place_back ws c.push.new.self item c.key-key.result c.len.result (get key_cmp c.self.inside.places)
    (get key_cmp c.insert.new.self) c.self.invariant absent c.key-key.ensures (λ k. c.in_ok-insert.ensures.updates.0 k)
    (get key_cmp c.remove.new.self) (λ k. c.remove.ensures.updates.0 k) same

pub invariant_of-self-else-is_err : goal.invariant_of-self-else-is_err
invariant_of-self-else-is_err c =
    let ws = c.self.inside.items in
    let item = c.args.item in
    let absent : writes_key ws (item_key item) ≡ false =
    ap (λ us. writes_key us (item_key item)) c.self.view_is ∙ c.requires in
    let longer : c.push.new.self ≡ ws ++ item ∷ [] =
    ok_told c.push.result (sym c.is_err.ensures.value ∙ c.if-is_err.false) c.push.ensures.ok in
    place_added ws c.push.new.self item c.key-key.result c.len.result (get key_cmp c.self.inside.places)
    (get key_cmp c.insert.new.self) c.self.invariant absent c.key-key.ensures (λ k. c.in_ok-insert.ensures.updates.0 k)
    c.len.ensures longer
