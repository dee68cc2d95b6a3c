use Rattle.std.proofs.Common.{◌≡◌, ◌+◌, ◌-◌, ◌<◌, ◌^◌, min, drop}
use Rattle.si_model.specs.Snapshots.{sum_above}
use Rattle.nam_report.proofs.arranging.levels.sum_above.Given as goal

-- with the entries from here on, the sum is whole
abbrev pub invariant-loop-number : goal.invariant-loop-number
invariant-loop-number l = record {
  whole : min (l.sum + sum_above l.start (drop l.number-index l.number-items)) (2 ^ 64 - 1)
      ≡ min (sum_above l.start l.fn.snapshot) (2 ^ 64 - 1);
  fits : l.sum < 2 ^ 64;
}
