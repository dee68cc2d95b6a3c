use Rattle.std.proofs.Common.{◌≡◌, length}
use Rattle.std.specs.List.{AllByRecursion}
use Rattle.nam_report.specs.ArrangedExamples.{IsSized}
use Rattle.nam_report.proofs.tests_arrange.sized_logs.Given as goal

abbrev pub invariant-loop-worker : goal.invariant-loop-worker
invariant-loop-worker l = record {
  long : length l.logs.items ≡ l.worker;
  sized : AllByRecursion (IsSized l.workers l.commits) l.logs.items;
}
