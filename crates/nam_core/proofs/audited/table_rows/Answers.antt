use Rattle.std.proofs.Common.{◌≡◌, ◌-◌, [], ap, ◌∙◌, arith, rules}
use Rattle.std.proofs.lemmas.List.Sorted.{IsNonDecreasingBy-from_sort_by_key, answers_always}
use Rattle.si_model.specs.declared.report.AuditRow.{AuditRow}
use Rattle.nam_calls.specs.Words.{capacity_of}
use Rattle.nam_protocol.specs.Closed.{table_rows}
use Rattle.nam_core.proofs.SortLemmas.{sorted_from, sorted_is}
use Rattle.nam_core.proofs.AuditLemmas.{rows_pushed}
use Rattle.nam_core.proofs.audited.table_rows.Goals as goal

pub loop-passed-preserved : goal.loop-passed-preserved
loop-passed-preserved c =
    ap (sorted_from []) c.in_ok-push_some.ensures
    ∙ rows_pushed c.args.layout.now c.args.words.now c.args.table c.capacity-capacity.result c.loop-passed.passed
    c.loop-passed.rows.items c.audit_row-row.result c.loop-passed-test.true c.loop-passed.invariant
    c.audit_row-row.ensures

pub returns : goal.returns
returns c =
    let shape = c.args.layout.now in
    let words = c.args.words.now in
    let table = c.args.table in
    let passed = c.loop-passed.passed in
    let end = c.loop-passed.auto.passed-end in
    let over = c.loop-passed-test.false in
    let same = c.capacity-capacity.ensures in
    let none : c.capacity-capacity.result - passed ≡ 0 = omega arith in
    let all : passed ≡ capacity_of shape table = omega arith in
    c.from_vec.ensures
    ∙ sorted_is c.loop-passed.rows.items c.sort_by_key.new.self.items
    (IsNonDecreasingBy-from_sort_by_key (λ (r : AuditRow). r.key) c.sort_by_key.new.self.items
    c.in_ok-sort_by_key.ensures.sorted (λ a r q k. search rules))
    (c.in_ok-sort_by_key.ensures.stable (λ (r : AuditRow). r.key)
    (answers_always _ _ _ (λ f a r g h. search rules)))
    ∙ c.loop-passed.invariant
    ∙ ap (λ n. table_rows shape words table n passed) none
    ∙ ap (λ n. table_rows shape words table 0 n) all
