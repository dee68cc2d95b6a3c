use Rattle.std.proofs.Common.{drop}
use Rattle.std.specs.List.{AllByRecursion}
use Rattle.nam_report.specs.Numbers.{LogNumbersFit}
use Rattle.nam_report.proofs.numbers.logs_fit.Given as goal

-- all fit, where those do that are still to come
abbrev pub invariant-loop-log : goal.invariant-loop-log
invariant-loop-log l =
    AllByRecursion LogNumbersFit (drop l.log-index l.logs) → AllByRecursion LogNumbersFit l.logs
