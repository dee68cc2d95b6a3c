use Rattle.std.proofs.Common.{arith}
use Rattle.std.proofs.lemmas.Nat.{mul-le}
use Rattle.nam_catalog.specs.declared.bounds.TheConstants.{MOST_WORKERS, MOST_BUCKETS, MOST_CELLS, INTENT_WORDS}
use Rattle.nam_catalog.proofs.words.words.Goals as goal

pub overflow_add-result : goal.overflow_add-result
overflow_add-result c = omega (arith, c.tables_words.ensures.bound, c.requires.workers)

pub overflow_add-result-2 : goal.overflow_add-result-2
overflow_add-result-2 c =
    let cells = mul-le c.args.shape.now.buckets c.args.shape.now.cells MOST_BUCKETS MOST_CELLS
    c.requires.buckets c.requires.cells in
    omega (arith, c.tables_words.ensures.bound, c.requires.workers)

pub overflow_add-result-3 : goal.overflow_add-result-3
overflow_add-result-3 c =
    let cells = mul-le c.args.shape.now.buckets c.args.shape.now.cells MOST_BUCKETS MOST_CELLS
    c.requires.buckets c.requires.cells in
    let intents = mul-le c.args.shape.now.workers c.intent_words.result MOST_WORKERS INTENT_WORDS
    c.requires.workers c.intent_words.ensures.bound in
    omega (arith, c.tables_words.ensures.bound, c.requires.workers)
