use Rattle.std.proofs.Common.{◌≡◌, ◌+◌, drop}
use Rattle.std.specs.List.{AllByRecursion}
use Rattle.si_model.specs.Committed.{rows_held}
use Rattle.si_model.specs.Evaluation.{with_reads, evaluation_from, evaluation_of}
use Rattle.si_model.specs.EvaluationLaws.{IsWide}
use Rattle.si_model.proofs.evaluation.eval_on.Given as goal

-- the operations from here on give what all give
abbrev pub invariant-loop-place : goal.invariant-loop-place
invariant-loop-place l = record {
  so_far : with_reads l.progress.reads (evaluation_from l.widths (rows_held l.rows) (l.place + 1) l.progress.writes
      l.progress.guards (drop l.place l.ops)) ≡ evaluation_of l.fn.widths (rows_held l.fn.rows) l.fn.ops;
  wide : AllByRecursion (IsWide l.widths) l.progress.writes;
}
