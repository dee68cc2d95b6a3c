use Rattle.std.proofs.Common.{◌≡◌, ◌≤◌, ◌-◌, length}
use Rattle.std.specs.List.{AllByRecursion}
use Rattle.nam_report.specs.Arranging.{after_rounds}
use Rattle.nam_report.proofs.arranging.depths.settle.Given as goal

-- with the rounds that are left, all are done
abbrev pub invariant-loop-round : goal.invariant-loop-round
invariant-loop-round l = record {
  low : AllByRecursion (λ p. p.depth ≤ l._round) l.placed.items;
  rounds : after_rounds (length l.fn.placed.items - l._round) l.placed.items
      ≡ after_rounds (length l.fn.placed.items) l.fn.placed.items;
}
