use Rattle.std.proofs.Common.{◌≡◌, drop}
use Rattle.std.specs.Prelude.{max}
use Rattle.nam_report.specs.declared.arranging.placed.LevelKey.{LevelKey}
use Rattle.nam_report.specs.Depths.{reach, reach_in}
use Rattle.nam_report.proofs.arranging.depths.reached_by.Given as goal

-- with the commits from here on, all are counted
abbrev pub invariant-loop-commit : goal.invariant-loop-commit
invariant-loop-commit l = (k : LevelKey)
    → max (reach (drop l.commit-index l.placed) k) (reach_in l.reached k) ≡ reach l.placed k
