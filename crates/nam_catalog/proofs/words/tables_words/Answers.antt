use Rattle.std.proofs.Common.{arith}
use Rattle.std.proofs.lemmas.Grind.{common_steps}
use Rattle.std.proofs.lemmas.List.{at_drop_more}
use Rattle.nam_catalog.specs.Words.{tables_words}
use Rattle.nam_catalog.proofs.WordLemmas.{tables_le}
use Rattle.nam_catalog.proofs.words.tables_words.Goals as goal

pub overflow_add-words : goal.overflow_add-words
overflow_add-words c =
    let most = tables_le c.args.tables.now c.requires.count c.requires.fit in
    let next = at_drop_more tables_words c.args.tables.now c.loop-table.table-index
    c.table-item.result c.loop-table-test.true in
    grind (arith, common_steps)

pub returns-clause-bound : goal.returns-clause-bound
returns-clause-bound c =
    let most = tables_le c.args.tables.now c.requires.count c.requires.fit in
    grind (arith, common_steps)
