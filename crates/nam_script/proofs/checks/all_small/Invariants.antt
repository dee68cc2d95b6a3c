use Rattle.std.proofs.Common.{◌≡◌, ◌≤◌, length, drop}
use Rattle.nam_script.specs.Checks.{all_small}
use Rattle.nam_script.proofs.CheckedValues.{after}
use Rattle.nam_script.proofs.checks.all_small.Given as goal

abbrev pub invariant-loop-number : goal.invariant-loop-number
invariant-loop-number l =
    (after l.values (all_small (drop l.number-index l.number-items)) ≡ all_small l.fn.numbers) ×
    (length l.values ≡ l.number-index) × (length l.number-items ≤ 8)
