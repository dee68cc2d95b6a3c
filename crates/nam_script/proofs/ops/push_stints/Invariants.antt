use Rattle.std.proofs.Common.{◌≡◌, ◌++◌, drop}
use Rattle.nam_script.proofs.ops.push_stints.Given as goal

-- the stints from here on are still to be appended
abbrev pub invariant-loop-stint : goal.invariant-loop-stint
invariant-loop-stint l = l.stints ++ drop l.stint-index l.more ≡ l.initial.stints ++ l.more
