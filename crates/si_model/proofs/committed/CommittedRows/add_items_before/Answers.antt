use Rattle.std.proofs.Common.{◌≡◌, ◌++◌, [], ap, sym, ◌∙◌, append-nil, refl}
use Rattle.std.specs.Prelude.{map}
use Rattle.std.specs.BTreeMap.Range.{entries_between}
use Rattle.std.specs.declared.ops.Bound.TheVariants.{Included, Excluded}
use Rattle.si_model.specs.Committed.{rows_held}
use Rattle.si_model.specs.Held.{key_cmp}
use Rattle.si_model.specs.Rows.{key_at}
use Rattle.si_model.proofs.ScanLemmas.{item_of, listed, lists_between}
use Rattle.si_model.proofs.committed.CommittedRows.add_items_before.Goals as goal

pub returns : goal.returns
returns c =
    let rows = rows_held c.args.self.now in
    let table = c.args.table in
    let entries = c.args.self.now.held.entries in
    let within = entries_between key_cmp (Included (key_at table c.args.low)) (Excluded (key_at table c.args.end)) entries
    in
    let left : c.loop-key.key-iterator ≡ [] = c.in-None.ensures.steps.0 in
    let between : c.into_iter-key-iterator.result ≡ within =
    c.into_iter-key-iterator.ensures.into_iter_gives ∙ c.range-key-items.ensures.between tt in
    let lists = lists_between rows table c.args.low c.args.end entries c.range-key-items.ensures.ordered (λ key. refl) in
    sym (append-nil c.loop-key.items) ∙ ap (λ es. c.loop-key.items ++ map item_of es) (sym left)
    ∙ c.loop-key.invariant ∙ ap (λ es. c.args.items.now ++ map item_of es) between
    ∙ ap (λ is. c.args.items.now ++ is) (listed rows table c.args.end within c.args.low lists)
