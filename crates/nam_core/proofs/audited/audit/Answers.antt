use Rattle.std.proofs.Common.{◌++◌, ◌+◌, ◌<◌, List, length, drop, sym, ap, ◌∙◌, arith, append_assoc}
use Rattle.si_model.specs.declared.report.AuditRow.{AuditRow}
use Rattle.nam_catalog.specs.declared.shape.Shape.{Shape}
use Rattle.nam_calls.specs.Words.{capacity_of}
use Rattle.nam_protocol.specs.Closed.{table_rows, tables_rows}
use Rattle.nam_core.proofs.AuditLemmas.{tables_next}
use Rattle.nam_core.proofs.audited.audit.Goals as goal

pub loop-table-preserved : goal.loop-table-preserved
loop-table-preserved c =
    let shape = c.args.shape.now in
    let words = c.args.words.now in
    let table = c.loop-table.table in
    let rows = c.loop-table.rows in
    let found = c.in_ok-table_rows.field-0 in
    let rest = tables_rows shape words (table + 1) (drop (table + 1) shape.tables) in
    let number = c.len-table-end.ensures.value in
    let test = c.loop-table-test.true in
    let less : table < length shape.tables = omega arith in
    let is = c.in_ok-table_rows.ensures
    ∙ ap (λ (s : Shape). table_rows s words table 0 (capacity_of s table)) c.requires.layout in
    ap (λ (l : List AuditRow). l ++ rest) c.in_ok-append.ensures.ok
    ∙ append_assoc rows found rest
    ∙ ap (λ (l : List AuditRow). rows ++ (l ++ rest)) is
    ∙ ap (λ (l : List AuditRow). rows ++ l) (sym (tables_next shape words table less))
    ∙ c.loop-table.invariant
