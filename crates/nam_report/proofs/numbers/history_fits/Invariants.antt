use Rattle.std.proofs.Common.{drop}
use Rattle.std.specs.List.{AllByRecursion}
use Rattle.nam_report.specs.Numbers.{EntryNumbersFit}
use Rattle.nam_report.proofs.numbers.history_fits.Given as goal

-- all fit, where those do that are still to come
abbrev pub invariant-loop-entry : goal.invariant-loop-entry
invariant-loop-entry l =
    AllByRecursion EntryNumbersFit (drop l.entry-index l.history) → AllByRecursion EntryNumbersFit l.history
