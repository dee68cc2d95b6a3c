use Rattle.std.proofs.Common.{drop, take, map}
use Rattle.std.specs.List.{AllByRecursion}
use Rattle.si_model.specs.Rows.{rows_of}
use Rattle.si_model.specs.EvaluationLaws.{IsWide}
use Rattle.si_model.specs.History.{IsLegal, IsLegalAfter}
use Rattle.si_model.proofs.legal.is_legal.Given as goal

-- the history is legal exactly where the rest is, after what was tested
abbrev pub invariant-loop-place : goal.invariant-loop-place
invariant-loop-place l = record {
  written : AllByRecursion (λ e. AllByRecursion (IsWide l.widths) e.writes) (take l.place l.history);
  on :
      IsLegalAfter l.widths (rows_of l.rows) (map (λ job. job.items) l.jobs) (take l.place l.history)
      (drop l.place l.history)
      → IsLegal l.fn.widths (rows_of l.fn.rows) (map (λ job. job.items) l.fn.jobs) l.fn.history;
  back :
      IsLegal l.fn.widths (rows_of l.fn.rows) (map (λ job. job.items) l.fn.jobs) l.fn.history
      → IsLegalAfter l.widths (rows_of l.rows) (map (λ job. job.items) l.jobs) (take l.place l.history)
      (drop l.place l.history);
}
