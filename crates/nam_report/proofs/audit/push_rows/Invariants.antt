use Rattle.std.proofs.Common.{◌≡◌, ◌++◌, drop}
use Rattle.std.specs.Prelude.{string_bytes}
use Rattle.nam_report.specs.Text.{audit_rows_text}
use Rattle.nam_report.proofs.audit.push_rows.Given as goal

-- the rows from here on are still to come
abbrev pub invariant-loop-row : goal.invariant-loop-row
invariant-loop-row l =
    string_bytes l.out ++ audit_rows_text l.tables (drop l.row-index l.audit) ≡ string_bytes l.initial.out ++
    audit_rows_text l.tables l.audit
