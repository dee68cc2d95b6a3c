use Rattle.std.proofs.Common.{◌≡◌, false}
use Rattle.nam_report.specs.Depths.{at_depth, deepest, reach_in}
use Rattle.nam_report.proofs.DepthLemmas.{mapped_front}
use Rattle.nam_report.proofs.arranging.depths.deepen_each.Given as goal

abbrev pub invariant-loop-commit : goal.invariant-loop-commit
invariant-loop-commit l = record {
  done : l.placed ≡ mapped_front (λ p. at_depth (deepest (reach_in l.reached) p.level p.line.writes) p) l.commit-index
      l.fn.placed;
  same : l.changed ≡ false → l.placed ≡ l.fn.placed;
}
