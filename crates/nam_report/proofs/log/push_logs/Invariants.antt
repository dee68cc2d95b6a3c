use Rattle.std.proofs.Common.{◌≡◌, ◌+◌, ◌++◌, drop}
use Rattle.std.specs.Prelude.{string_bytes}
use Rattle.std.specs.List.{AllByRecursion}
use Rattle.nam_report.specs.Text.{logs_text}
use Rattle.nam_report.specs.Fits.{ItemsFit}
use Rattle.nam_report.proofs.log.push_logs.Given as goal

-- the logs from here on fit, and are still to come
abbrev pub invariant-loop-place : goal.invariant-loop-place
invariant-loop-place l = record {
  fit : AllByRecursion ItemsFit (drop l.place l.logs);
  told : string_bytes l.out ++ logs_text l.tables (l.place + 1) (drop l.place l.logs) ≡ string_bytes l.initial.out ++
      logs_text l.tables 1 l.logs;
}
