use Rattle.std.proofs.Common.{◌≡◌, List, ◌∙◌, ap, sym, subst, length, Result, Ok, Err}
use Rattle.std.specs.Prelude.{IfOk}
use Rattle.std.proofs.lemmas.List.{length-map}
use Rattle.si_model.specs.declared.row.Row.{Row}
use Rattle.si_model.specs.declared.report.Report.{Report}
use Rattle.si_model.specs.Rows.{rows_of, ListsRows}
use Rattle.si_model.specs.Committed.{rows_held}
use Rattle.si_model.specs.State.{state_at}
use Rattle.si_model.specs.Run.{IsRun}
use Rattle.nam_script.specs.declared.script.Script.{Script}
use Rattle.nam_report.specs.Fits.{FitsScript}
use Rattle.nam_report.specs.Numbers.{NumbersFit}
use Rattle.namdb.specs.declared.store.Store.{Store}
use Rattle.nam_script.specs.ScriptSetting.{setting_of}
use Rattle.namdb.specs.Store.{IsStore}
use Rattle.namdb.specs.Serial.{end_after, logs_after}
use Rattle.namdb.proofs.StoreLemmas.{store_open}
use Rattle.namdb.proofs.ServeLemmas.{held, if_ok_all}
use Rattle.namdb.proofs.SerialFitsLemmas.{serial_fits}
use Rattle.namdb.proofs.WholeRunLemmas.{serial_is_run}
use Rattle.namdb.proofs.ScriptLemmas.{in_range, reads_few}
use Rattle.namdb.proofs.serial.run_serial.Goals as goal

pub run_workers-requires-clause-in_range : goal.run_workers-requires-clause-in_range
run_workers-requires-clause-in_range c = in_range c.args.script.now c.requires

pub run_workers-requires-clause-few : goal.run_workers-requires-clause-few
run_workers-requires-clause-few c = reads_few c.args.script.now c.requires

pub run_workers-requires-clause-store : goal.run_workers-requires-clause-store
run_workers-requires-clause-store c =
    store_open (setting_of c.args.script.now) c.in_ok-store.store (in_range c.args.script.now c.requires).start
    c.in_ok-store.ensures.history c.in_ok-store.ensures.vector
    (λ key. c.in_ok-store.ensures.rows key ∙ ap (λ rows. rows_of rows key) c.as_slice.ensures)
    c.in_ok-store.ensures.stamps

-- the rows that were listed are the final state
final_rows : (script : Script) (store : Store) (r : Report) → IsStore (setting_of script) store
    → r.history ≡ store.history → (rows : List Row) → ListsRows rows (rows_held store.rows)
    → ListsRows rows (state_at (rows_of script.rows) r.history)
final_rows script store r is history rows lists =
    subst (ListsRows rows) (held (setting_of script) store is ∙ ap (state_at (rows_of script.rows)) (sym history)) lists

-- there are as many owners as transactions
owners_length : (script : Script) → length (setting_of script).owners ≡ length (setting_of script).jobs
owners_length script = length-map script.txns (λ x. x.worker) ∙ sym (length-map script.txns (λ x. x.ops))

pub returns-clause-run : goal.returns-clause-run
returns-clause-run c =
    let script = c.args.script.now in
    let s = setting_of script in
    let store = c.run_workers.new.store in
    let none = c.in_ok-store.ensures.history in
    if_ok_all c.close.result _ _ _ (IsRun s)
    (λ r h l a.
    let history = h ∙ c.in_ok-logs.ensures.history ∙ ap (λ z. end_after s 1 z s.workers) none in
    let logs = l ∙ c.in_ok-logs.ensures.logs ∙ ap (λ z. logs_after s 1 z s.workers) none in
    serial_is_run s r a.0 (owners_length script) history logs a.1
    (final_rows script store r c.in_ok-logs.ensures.store h a.0 a.2))
    c.close.ensures.history c.close.ensures.logs c.close.ensures.audit

-- a fact of an Ok, and what follows from it
if_ok_with : {A E : Type 0} (r : Result A E) (P Q : A → Type 0) → IfOk r P → IfOk r (λ a. P a → Q a) → IfOk r Q
if_ok_with (Ok a) P Q p f = f p
if_ok_with (Err e) P Q p f = tt

pub returns-clause-fits : goal.returns-clause-fits
returns-clause-fits c =
    let script = c.args.script.now in
    let s = setting_of script in
    let store = c.run_workers.new.store in
    let none = c.in_ok-store.ensures.history in
    if_ok_with c.close.result NumbersFit (FitsScript script) c.close.ensures.numbers
    (if_ok_all c.close.result _ _ _ (λ r. NumbersFit r → FitsScript script r)
    (λ r h l a.
    let history = h ∙ c.in_ok-logs.ensures.history ∙ ap (λ z. end_after s 1 z s.workers) none in
    let logs = l ∙ c.in_ok-logs.ensures.logs ∙ ap (λ z. logs_after s 1 z s.workers) none in
    serial_fits script r a.0 (in_range c.args.script.now c.requires) history logs a.1
    (final_rows script store r c.in_ok-logs.ensures.store h a.0 a.2))
    c.close.ensures.history c.close.ensures.logs c.close.ensures.audit)
