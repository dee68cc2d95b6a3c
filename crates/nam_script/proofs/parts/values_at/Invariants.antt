use Rattle.std.proofs.Common.{length}
use Rattle.nam_text.specs.Token.{number_of}
use Rattle.nam_script.proofs.ReadAll.{IsPart}
use Rattle.nam_script.proofs.parts.values_at.Given as goal

-- what was read so far
abbrev pub invariant-loop-field : goal.invariant-loop-field
invariant-loop-field l = IsPart 8 number_of l.fn.fields l.values l.fields

abbrev pub decreases-loop-field : goal.decreases-loop-field
decreases-loop-field l = length l.fields
