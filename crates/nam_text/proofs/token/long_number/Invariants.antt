use Rattle.nam_text.proofs.Digits.{IsSoFar}
use Rattle.nam_text.proofs.token.long_number.Given as goal

-- what was read so far
abbrev pub invariant-loop-byte : goal.invariant-loop-byte
invariant-loop-byte l = IsSoFar l.field l.byte-index l.value
