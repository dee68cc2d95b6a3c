use Rattle.std.proofs.Common.{◌≡◌, drop}
use Rattle.std.specs.Prelude.{max}
use Rattle.nam_report.specs.Depths.{deepest, reach_in}
use Rattle.nam_report.proofs.arranging.depths.deepest.Given as goal

-- with the writes from here on, all are counted
abbrev pub invariant-loop-item : goal.invariant-loop-item
invariant-loop-item l = max l.depth (deepest (reach_in l.reached) l.level (drop l.item-index l.writes))
    ≡ deepest (reach_in l.reached) l.level l.writes
