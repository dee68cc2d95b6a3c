use Rattle.std.proofs.Common.{◌≡◌, ◌++◌, drop}
use Rattle.nam_report.specs.Lines.{snaps_in_logs, referents}
use Rattle.nam_report.proofs.arranging.levels.snapshots_of.Given as goal

-- with the snapshots of the logs from here on, all are there
abbrev pub invariant-loop-log : goal.invariant-loop-log
invariant-loop-log l = referents l.found.items ++ snaps_in_logs (drop l.log-index l.logs) ≡ snaps_in_logs l.fn.logs
