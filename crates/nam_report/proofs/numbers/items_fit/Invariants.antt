use Rattle.std.proofs.Common.{drop}
use Rattle.std.specs.List.{AllByRecursion}
use Rattle.nam_report.specs.Numbers.{ItemNumbersFit}
use Rattle.nam_report.proofs.numbers.items_fit.Given as goal

-- all fit, where those do that are still to come
abbrev pub invariant-loop-item : goal.invariant-loop-item
invariant-loop-item l =
    AllByRecursion ItemNumbersFit (drop l.item-index l.items) → AllByRecursion ItemNumbersFit l.items
