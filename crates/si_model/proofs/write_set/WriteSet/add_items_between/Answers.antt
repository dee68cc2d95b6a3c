use Rattle.std.proofs.Common.{◌<◌, ◌≤◌, ◌-◌, ◌++◌, ap, sym, ◌∙◌, append-nil, arith}
use Rattle.std.proofs.lemmas.List.{append_assoc}
use Rattle.std.proofs.lemmas.Result.{on_ok_weaker}
use Rattle.si_model.specs.Committed.{rows_held}
use Rattle.si_model.specs.Rows.{key_at, overlay, items_from, present}
use Rattle.si_model.proofs.ScanLemmas.{backward, before_last}
use Rattle.si_model.proofs.write_set.WriteSet.add_items_between.Goals as goal

pub returns-then-high-low : goal.returns-then-high-low
returns-then-high-low c =
    let copy = overlay c.args.self.now (rows_held c.args.rows.now) in
    let back : c.args.high < c.args.low = omega arith in
    sym (ap (λ is. c.args.items.now ++ is) (backward copy c.args.table c.args.low c.args.high back)
    ∙ append-nil c.args.items.now)

pub returns : goal.returns
returns c =
    let copy = overlay c.args.self.now (rows_held c.args.rows.now) in
    let last = key_at c.args.table c.args.high in
    let item = present last (copy last) in
    let before = items_from copy c.args.table c.args.low (c.args.high - c.args.low) in
    let forward : c.args.low ≤ c.args.high = omega arith in
    on_ok_weaker c.add_if_present.result (λ new.
    new ∙ ap (λ v. c.add_items_before.new.items ++ present last v) c.value_over.ensures
    ∙ ap (λ is. is ++ item) c.in_ok-add_items_before.ensures ∙ append_assoc c.args.items.now before item
    ∙ ap (λ is. c.args.items.now ++ is) (sym (before_last copy c.args.table c.args.low c.args.high forward)))
    c.add_if_present.ensures
