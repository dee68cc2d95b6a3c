use Rattle.std.proofs.Common.{◌∙◌, rules}
use Rattle.std.proofs.lemmas.Iterator.{YieldsList-from_slice}
use Rattle.std.proofs.lemmas.Iterator.Search.{any_from_yields_List}
use borrow.Author.Tests.{tests}
use Rattle.si_model.proofs.WriteLemmas.{is_of, writes_key_is}
use Rattle.si_model.proofs.legal.is_written.Goals as goal

pub returns : goal.returns
returns c =
    let ws = c.args.writes.now in
    any_from_yields_List (is_of c.args.key) _ _ _ c.any.ensures.ran (YieldsList-from_slice ws cc)
    (λ x b q k. search (rules, tests)) ∙ writes_key_is ws c.args.key
