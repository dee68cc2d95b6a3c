use Rattle.std.proofs.Common.{length}
use Rattle.nam_cases.proofs.case.plan_of.Given as goal

abbrev pub decreases-loop-rest : goal.decreases-loop-rest
decreases-loop-rest l = length l.rest
