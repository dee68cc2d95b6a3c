use Rattle.std.proofs.Common.{◌≡◌, take}
use Rattle.nam_report.proofs.tests_arrange.snapshot.Given as goal

abbrev pub invariant-loop-number : goal.invariant-loop-number
invariant-loop-number l = l.snapshot ≡ take l.number-index l.numbers
