use Rattle.std.proofs.Common.{◌≡◌, length, drop}
use Rattle.nam_script.specs.Checks.{all_stints}
use Rattle.nam_script.proofs.CheckedValues.{after_stints}
use Rattle.nam_script.proofs.checks.all_stints.Given as goal

-- the stints from here on are still to be tried
abbrev pub invariant-loop-place : goal.invariant-loop-place
invariant-loop-place l =
    (after_stints l.stints (all_stints l.workers (drop l.place l.spelt)) ≡ all_stints l.workers l.fn.spelt) ×
    (length l.stints ≡ l.place)
