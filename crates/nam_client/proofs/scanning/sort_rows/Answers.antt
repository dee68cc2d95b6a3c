use Rattle.std.proofs.Common.{◌^◌, rules}
use Rattle.std.proofs.lemmas.List.Sorted.{answers_always, length_permutation}
use Rattle.nam_client.proofs.SortLemmas.{sorted_is, place_of}
use Rattle.nam_client.proofs.scanning.sort_rows.Goals as goal

pub returns-clause-items : goal.returns-clause-items
returns-clause-items c =
    let done = c.sort_unstable_by_key.ensures in
    sorted_is (2 ^ 32) c.args.rows.now.items c.sort_unstable_by_key.new.self.items c.requires done.permutation
    (done.sorted place_of (answers_always _ _ _ (λ f a r g h. search rules)))

pub returns-clause-len : goal.returns-clause-len
returns-clause-len c =
    length_permutation c.args.rows.now.items c.sort_unstable_by_key.new.self.items
    c.sort_unstable_by_key.ensures.permutation
