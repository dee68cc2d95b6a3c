use Rattle.std.proofs.Common.{map}
use Rattle.namdb.specs.declared.status.Status.TheVariants.{Done}
use Rattle.namdb.proofs.TopLemmas.{text_done, text_fails, refusal_fails, refusal_sends, usage_ends, memory_keeps, text_answers}
use Rattle.namdb.proofs.TopLemmas.{refusal_answers}
use Rattle.namdb.proofs.top.namdb.Goals as goal

pub returns-in-Ok-clause-write_fault : goal.returns-in-Ok-clause-write_fault
returns-in-Ok-clause-write_fault g c =
    text_fails _ _ _ _ _ _ _ _ _ _ Done c.as_slice.result.now c.end_with.result
    (rw c.as_slice.ensures.value c.in-Ok.ensures.report) c.end_with.ensures (λ same. cc)

pub returns-in-Err-clause-usage_exactly : goal.returns-in-Err-clause-usage_exactly
returns-in-Err-clause-usage_exactly g c other =
    let usage = c.report_of.ensures.usage other in
    let answer = usage.0 in
    let is = c.in-Err.is in
    (usage_ends _ _ _ _ _ c.in-Err.status c.refuse.result c.refuse.ensures.line (cc), usage.1)

pub returns-in-Err-clause-write_fault : goal.returns-in-Err-clause-write_fault
returns-in-Err-clause-write_fault g c =
    refusal_fails _ _ _ _ _ _ _ _ _ _ _ c.in-Err.status c.refuse.result c.in-Err.ensures.refusal c.refuse.ensures.line
    c.refuse.ensures.memory

pub returns-in-Err-clause-memory : goal.returns-in-Err-clause-memory
returns-in-Err-clause-memory g c =
    memory_keeps _ _ _ _ _ _ _ _ _ (map (λ line. (goal.Line-dyn g (line.vtable, line.value)).state line.value) c.args.lines.items) _ c.in-Err.status c.refuse.result c.in-Err.ensures.refusal c.refuse.ensures.line
    c.refuse.ensures.memory

pub returns-in-Err-clause-bad_script : goal.returns-in-Err-clause-bad_script
returns-in-Err-clause-bad_script g c line kind is =
    let sent = refusal_sends _ _ _ _ _ _ _ _ _ (map (λ line. (goal.Line-dyn g (line.vtable, line.value)).state line.value) c.args.lines.items) _ c.in-Err.status c.refuse.result c.in-Err.ensures.refusal
    c.refuse.ensures.line c.refuse.ensures.memory (rw is tt) in
    let named = rw is at sent in
    (named.0.0, named.0.1, named.1)

pub returns-in-Ok-clause-exactly : goal.returns-in-Ok-clause-exactly
returns-in-Ok-clause-exactly g c input run is few reads writes =
    text_answers _ _ _ _ _ _ _ _ _ _ input is few run reads writes _ c.as_slice.result.now c.end_with.result
    c.in-Ok.ensures.report c.end_with.ensures

pub returns-in-Err-clause-exactly : goal.returns-in-Err-clause-exactly
returns-in-Err-clause-exactly g c input run is few reads writes =
    refusal_answers _ _ _ _ _ _ _ _ _ (map (λ line. (goal.Line-dyn g (line.vtable, line.value)).state line.value) c.args.lines.items) input is few run reads writes _ c.in-Err.status c.refuse.result
    c.in-Err.ensures.refusal c.refuse.ensures.line c.refuse.ensures.memory

pub returns-in-Ok-clause-done : goal.returns-in-Ok-clause-done
returns-in-Ok-clause-done g c =
    text_done _ _ _ 0 0 _ _ _ _ _ c.in-Ok.text.items c.as_slice.result.now c.end_with.result c.in-Ok.ensures.report
    c.as_slice.ensures.value c.end_with.ensures
