use Rattle.std.proofs.Common.{◌∙◌, ap}
use Rattle.nam_calls.specs.Reading.{read_most}
use Rattle.nam_calls.proofs.FallsTables.{has_capacity}
use Rattle.nam_txn.proofs.TableLemmas.{table_width, table_most}
use Rattle.nam_txn.proofs.registers.Registers.see_table.Goals as goal

pub place-place-requires : goal.place-place-requires
place-place-requires c =
    (c.requires.table, has_capacity c.args.layout.now c.requires.limits c.args.table c.requires.table)

pub returns : goal.returns
returns c =
    let shape = c.args.layout.now in
    let a = c.args.self.now in
    let width = table_width shape c.requires.limits c.args.table c.requires.table c.place-place.result
    c.place-place.ensures.value in
    let most = table_most shape c.requires.limits c.args.table c.requires.table c.place-place.result
    c.cells-cells.result c.len-workers.result c.place-place.ensures.value c.cells-cells.ensures.value
    (c.len-workers.ensures.value ∙ c.requires.workers) in
    ap (λ m. record a { width = c.place-place.result.width; read_most = m }) most
    ∙ ap (λ w. record a { width = w; read_most = read_most shape c.args.table }) width
