use Rattle.std.proofs.Common.{◌≡◌, ◌-◌, ◌++◌, Some, refl, ap, sym, ◌∙◌, subst, arith}
use Rattle.std.proofs.lemmas.Result.{on_ok_weaker}
use Rattle.si_model.specs.Committed.{rows_held}
use Rattle.si_model.specs.Rows.{key_at, overlay, items_from}
use Rattle.si_model.specs.Places.{place_of}
use Rattle.si_model.proofs.PlaceLemmas.{place_says, no_place_says}
use Rattle.si_model.proofs.ScanLemmas.{Lists, lists_between, agree, scan_step}
use Rattle.si_model.proofs.write_set.WriteSet.add_items_before.Goals as goal

pub loop-key-init : goal.loop-key-init
loop-key-init c =
    let ws = c.args.self.now in
    let between = c.into_iter-key-iterator.ensures.into_iter_gives ∙ c.range-key-items.ensures.between tt in
    record {
      low = omega arith;
      high = c.requires;
      left = subst (Lists (place_of ws) c.args.table c.args.low c.args.end) (sym between)
          (lists_between (place_of ws) c.args.table c.args.low c.args.end c.self.inside.places.entries
          c.range-key-items.ensures.ordered
          (λ key. ap (λ us. place_of us key) (sym c.self.view_is) ∙ sym (c.self.invariant key)));
      items = refl;
    }

pub at-requires : goal.at-requires
at-requires c =
    let left = subst (Lists (place_of c.args.self.now) c.args.table c.loop-key.from c.args.end)
    c.in-Some.ensures.steps c.loop-key.invariant.left in
    let is : place_of c.self.inside.items c.in-Some.key.now ≡ Some c.in-Some.place.now =
    ap (λ us. place_of us c.in-Some.key.now) c.self.view_is ∙ left.3 in
    (place_says c.self.inside.items c.in-Some.key.now c.in-Some.place.now is).0

pub loop-key-preserved : goal.loop-key-preserved
loop-key-preserved c =
    let ws = c.args.self.now in
    let rows = rows_held c.args.rows.now in
    let table = c.args.table in
    let from = c.loop-key.from in
    let key = c.in-Some.key.now in
    let left = subst (Lists (place_of ws) table from c.args.end) c.in-Some.ensures.steps c.loop-key.invariant.left in
    let is : place_of c.self.inside.items key ≡ Some c.in-Some.place.now =
    ap (λ us. place_of us key) c.self.view_is ∙ left.3 in
    let value : c.copy_value-value.result ≡ overlay ws rows key =
    c.copy_value-value.ensures ∙ ap (λ i. i.value) c.at.ensures
    ∙ sym ((place_says c.self.inside.items key c.in-Some.place.now is).1 rows c.at.result.now)
    ∙ ap (λ us. overlay us rows key) c.self.view_is in
    record {
      low = omega (arith, c.loop-key.invariant.low, left.1);
      high = omega (arith, left.2);
      left = left.5;
      items = scan_step rows (overlay ws rows) table from c.args.end key c.copy_value-value.result c.loop-key.items
          c.add_items_before.new.items c.add_if_present.new.items left.0 left.1 left.2
          (λ k above below. no_place_says ws (key_at table k) (left.4 k above below) rows) value
          c.in_ok-add_items_before.ensures c.in_ok-add_if_present.ensures ∙ c.loop-key.invariant.items;
    }

pub returns : goal.returns
returns c =
    let ws = c.args.self.now in
    let rows = rows_held c.args.rows.now in
    let table = c.args.table in
    let from = c.loop-key.from in
    let none = subst (Lists (place_of ws) table from c.args.end) c.in-None.ensures.steps.0 c.loop-key.invariant.left in
    let rest : items_from rows table from (c.args.end - from) ≡ items_from (overlay ws rows) table from (c.args.end - from) =
    sym (agree (overlay ws rows) rows table from (c.args.end - from) (λ k above below.
    no_place_says ws (key_at table k) (none k above (omega (arith, c.loop-key.invariant.high, above, below))) rows)) in
    on_ok_weaker c.add_items_before-2.result (λ new.
    new ∙ ap (λ is. c.loop-key.items ++ is) rest ∙ c.loop-key.invariant.items) c.add_items_before-2.ensures
