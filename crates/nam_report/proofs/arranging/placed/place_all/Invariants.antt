use Rattle.std.proofs.Common.{◌≡◌, ◌++◌, map}
use Rattle.std.specs.Vec.Iter.{into_iter_items}
use Rattle.si_model.specs.Arranged.{level_from}
use Rattle.nam_report.specs.Lines.{referents}
use Rattle.nam_report.specs.Depths.{placed_with}
use Rattle.nam_report.proofs.arranging.placed.place_all.Given as goal

-- with those of the lines that are left, all are there
abbrev pub invariant-loop-line : goal.invariant-loop-line
invariant-loop-line l = l.placed.items
    ++ map (placed_with (level_from l.levels.start l.levels.top (referents l.levels.snapshots.items))
    (map (λ job. job.items) l.jobs)) (into_iter_items l.line-iterator)
    ≡ map (placed_with (level_from l.levels.start l.levels.top (referents l.levels.snapshots.items))
    (map (λ job. job.items) l.jobs)) l.fn.lines.items
