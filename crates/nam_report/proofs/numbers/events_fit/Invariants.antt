use Rattle.std.proofs.Common.{drop}
use Rattle.std.specs.List.{AllByRecursion}
use Rattle.nam_report.specs.Numbers.{EventNumbersFit}
use Rattle.nam_report.proofs.numbers.events_fit.Given as goal

-- all fit, where those do that are still to come
abbrev pub invariant-loop-event : goal.invariant-loop-event
invariant-loop-event l =
    AllByRecursion EventNumbersFit (drop l.event-index l.events) → AllByRecursion EventNumbersFit l.events
