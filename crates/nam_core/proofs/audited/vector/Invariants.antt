use Rattle.std.proofs.Common.{◌≡◌, take}
use Rattle.nam_core.proofs.audited.vector.Given as goal

abbrev pub invariant-loop-word : goal.invariant-loop-word
invariant-loop-word l = l.vector ≡ take l.word-index (take l.workers l.words)
