use Rattle.std.proofs.Common.{◌≡◌, ◌++◌, drop}
use Rattle.si_model.specs.Evaluation.{unwritten}
use Rattle.si_model.proofs.evaluation.unwritten.Given as goal

-- with those from here on, all are there
abbrev pub invariant-loop-guard : goal.invariant-loop-guard
invariant-loop-guard l = l.keys ++ unwritten l.writes (drop l.guard-index l.guards) ≡ unwritten l.writes l.guards
