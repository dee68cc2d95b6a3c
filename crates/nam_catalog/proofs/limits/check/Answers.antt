use Rattle.std.proofs.Common.{sym, ◌∙◌, arith}
use Rattle.nam_catalog.proofs.FitsLemmas.{is_within}
use Rattle.nam_catalog.proofs.limits.check.Goals as goal

pub words-words-requires-clause-tables : goal.words-words-requires-clause-tables
words-words-requires-clause-tables c =
    let none = sym c.limit_fault.ensures.first ∙ c.in_default.is in
    (is_within c.args.shape.now none).tables

pub returns-clause-fits : goal.returns-clause-fits
returns-clause-fits c =
    let none = sym c.limit_fault.ensures.first ∙ c.in_default.is in
    (is_within c.args.shape.now none).fits (omega (arith, c.words-words.ensures, c.if-words-gt-MOST_WORDS.false))
