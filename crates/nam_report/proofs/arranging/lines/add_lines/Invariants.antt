use Rattle.std.proofs.Common.{◌≡◌, ◌≤◌, ◌+◌, ◌++◌, drop, length}
use Rattle.si_model.specs.Tells.{total, writes_in}
use Rattle.nam_report.specs.Lines.{lines_from}
use Rattle.nam_report.proofs.arranging.lines.add_lines.Given as goal

-- with the entries of the events from here on, all are there
abbrev pub invariant-loop-event : goal.invariant-loop-event
invariant-loop-event l = record {
  so_far : l.lines.items ++ lines_from l.worker (drop l.event-index l.events) (drop l.at l.writes) ≡ l.fn.lines.items
      ++ lines_from l.worker l.fn.events l.fn.writes;
  room : l.at + total writes_in (drop l.event-index l.events) ≤ length l.writes;
}
