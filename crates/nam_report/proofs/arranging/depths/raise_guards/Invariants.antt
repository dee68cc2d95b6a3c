use Rattle.std.proofs.Common.{◌≡◌, drop}
use Rattle.std.specs.Prelude.{max, if◌then◌else◌}
use Rattle.nam_report.specs.declared.arranging.placed.LevelKey.{LevelKey}
use Rattle.nam_report.specs.Depths.{has_guard, reach_in}
use Rattle.nam_report.proofs.arranging.depths.raise_guards.Given as goal

-- with the guards from here on, all are raised
abbrev pub invariant-loop-guard : goal.invariant-loop-guard
invariant-loop-guard l = (k : LevelKey)
    → max (if has_guard l.level (drop l.guard-index l.guards) k then l.reach else 0) (reach_in l.reached k)
    ≡ max (if has_guard l.level l.guards k then l.reach else 0) (reach_in l.fn.reached k)
