use Rattle.std.proofs.Common.{drop}
use Rattle.std.specs.List.{AllByRecursion}
use Rattle.nam_report.specs.Numbers.{RowNumbersFit}
use Rattle.nam_report.proofs.numbers.audit_fits.Given as goal

-- all fit, where those do that are still to come
abbrev pub invariant-loop-row : goal.invariant-loop-row
invariant-loop-row l =
    AllByRecursion RowNumbersFit (drop l.row-index l.audit) → AllByRecursion RowNumbersFit l.audit
