use Rattle.std.proofs.Common.{◌≡◌, ◌++◌, drop}
use Rattle.nam_report.specs.Lines.{referents}
use Rattle.nam_report.proofs.arranging.levels.add_snapshots.Given as goal

-- with the snapshots from here on, all are there
abbrev pub invariant-loop-snapshot : goal.invariant-loop-snapshot
invariant-loop-snapshot l = referents l.found.items ++ drop l.snapshot-index l.snapshots ≡ referents l.fn.found.items
    ++ l.fn.snapshots
