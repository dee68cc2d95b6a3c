use Rattle.std.proofs.Common.{◌≡◌, ◌+◌, ◌++◌, drop}
use Rattle.nam_report.specs.Lines.{lines_by}
use Rattle.nam_report.proofs.arranging.lines.lines_of.Given as goal

-- with the entries of the logs from here on, all are there
abbrev pub invariant-loop-i : goal.invariant-loop-i
invariant-loop-i l = l.lines.items ++ lines_by (l.i + 1) (drop l.i l.logs) ≡ lines_by 1 l.fn.logs
