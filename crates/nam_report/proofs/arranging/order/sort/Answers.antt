use Rattle.std.proofs.Common.{rules}
use Rattle.std.proofs.lemmas.Fn.{always_returns_same}
use Rattle.nam_report.specs.declared.arranging.placed.Placed.{Placed}
use Rattle.nam_report.proofs.OrderLemmas.{sort_is}
use Rattle.nam_report.proofs.arranging.order.sort.Goals as goal

pub returns : goal.returns
returns c =
    sort_is c.args.placed.now.items c.sort_by_key.new.self.items
    (c.in_ok-sort_by_key.ensures.sorted (λ (p : Placed). (p.level, p.depth, p.line.worker, p.line.number))
    (always_returns_same _ _ _ (λ a x g h. search rules)))
    (c.in_ok-sort_by_key.ensures.stable (λ (p : Placed). (p.level, p.depth, p.line.worker, p.line.number))
    (always_returns_same _ _ _ (λ a x g h. search rules)))
