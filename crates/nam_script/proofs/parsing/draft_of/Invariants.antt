use Rattle.std.proofs.Common.{◌≡◌, length}
use Rattle.nam_text.specs.Fields.{lines_of}
use Rattle.nam_script.specs.Parse.{draft_from, draft_of}
use Rattle.nam_script.proofs.Counting.{IsLine}
use Rattle.nam_script.proofs.parsing.draft_of.Given as goal

-- the lines that are left give what all give, and the line's number is that of the lines so far
abbrev pub invariant-loop-first : goal.invariant-loop-first
invariant-loop-first l = (draft_from l.line l.draft (lines_of l.rest) ≡ draft_of l.fn.text) × IsLine l.line l.draft

abbrev pub decreases-loop-first : goal.decreases-loop-first
decreases-loop-first l = length l.rest
