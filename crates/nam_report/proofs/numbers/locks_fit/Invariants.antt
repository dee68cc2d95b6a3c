use Rattle.std.proofs.Common.{drop}
use Rattle.std.specs.List.{AllByRecursion}
use Rattle.nam_report.specs.Numbers.{LockNumbersFit}
use Rattle.nam_report.proofs.numbers.locks_fit.Given as goal

-- all fit, where those do that are still to come
abbrev pub invariant-loop-lock : goal.invariant-loop-lock
invariant-loop-lock l =
    AllByRecursion LockNumbersFit (drop l.lock-index l.locks) → AllByRecursion LockNumbersFit l.locks
