use Rattle.std.proofs.Common.{◌≡◌, ◌++◌, map}
use Rattle.std.specs.Vec.Iter.{into_iter_items}
use Rattle.nam_report.specs.Depths.{line_of}
use Rattle.nam_report.proofs.arranging.order.into_entries.Given as goal

-- with the entries of the commits that are left, all are there
abbrev pub invariant-loop-commit : goal.invariant-loop-commit
invariant-loop-commit l = l.entries.items
    ++ map line_of (into_iter_items l.commit-iterator) ≡ map line_of l.fn.placed.items
