use Rattle.std.proofs.Common.{◌-◌, length}
use Rattle.nam_text.specs.Fields.{IsPassed}
use Rattle.nam_text.proofs.fields.find_newline.Given as goal

abbrev pub decreases-loop-at : goal.decreases-loop-at
decreases-loop-at l = length l.text - l.at

-- no newline so far
abbrev pub invariant-loop-at : goal.invariant-loop-at
invariant-loop-at l = IsPassed l.text l.at
