use Rattle.std.proofs.Common.{◌-◌}
use Rattle.nam_text.proofs.Leading.{IsRun}
use Rattle.nam_text.proofs.token.leading_digits.Given as goal

abbrev pub decreases-loop-end : goal.decreases-loop-end
decreases-loop-end l = 19 - l.end

-- what was read so far
abbrev pub invariant-loop-end : goal.invariant-loop-end
invariant-loop-end l = IsRun l.text l.end l.number
