use Rattle.std.proofs.Common.{◌≡◌, ℕ, ◌+◌, ◌<◌, [], ◌∷◌, ◌++◌, length, map, sym, ap, ◌∙◌, subst, arith, refl}
use Rattle.std.specs.Prelude.{slice_index, slice_index_or, if◌then◌else◌}
use Rattle.std.specs.List.{AllByRecursion}
use Rattle.si_model.specs.Rows.{overlay, writes_key}
use Rattle.si_model.specs.Committed.{rows_held}
use Rattle.si_model.specs.Evaluation.{OpFits, AreWide}
use Rattle.si_model.specs.History.{stamp_at}
use Rattle.nam_script.specs.declared.script.ScriptTxn.{ScriptTxn}
use Rattle.nam_script.specs.declared.script.Script.{Script}
use Rattle.nam_script.specs.ScriptSetting.{setting_of}
use Rattle.namdb.specs.Stamps.{stamp_held}
use Rattle.namdb.specs.Serial.{ops_of, own_txn, writes_by, entry_by, vector_by, number_by, history_after, tells_after}
use Rattle.namdb.specs.Serial.{log_grown}
use Rattle.namdb.proofs.StoreLemmas.{store_after}
use Rattle.namdb.proofs.SerialFitsLemmas.{fit-jobs}
use Rattle.namdb.specs.Few.{reads_most, ops_count}
use Rattle.namdb.proofs.NamedLemmas.{length-named_keys}
use Rattle.namdb.proofs.ServeLemmas.{plan_reads, plan_evaluated, plan_outcome, log_after, vector_length}
use Rattle.namdb.proofs.ServeLemmas.{last_held, held_wide, same_both, all_index, index_map, index_or_map, own_here}
use Rattle.namdb.proofs.serial.serve.Goals as goal

pub attempt-requires-clause-vector : goal.attempt-requires-clause-vector
attempt-requires-clause-vector c = vector_length (setting_of c.args.script.now) c.args.store.now c.requires.store
    ∙ sym c.requires.plan.workers

pub attempt-requires-clause-number : goal.attempt-requires-clause-number
attempt-requires-clause-number c =
    let last = last_held (setting_of c.args.script.now) c.args.store.now c.requires.store c.args.worker
    c.requires.worker.0 c.requires.worker.1 in
    let within = c.requires.store.numbers c.args.worker in
    omega (arith, last, within, c.requires.plan.greatest)

pub attempt-requires-clause-fit : goal.attempt-requires-clause-fit
attempt-requires-clause-fit c =
    let s = setting_of c.args.script.now in
    let fits = all_index _ c.args.script.now.txns c.args.place c.at-txn.result.now c.requires.place c.at-txn.ensures
    c.requires.in_range.txns in
    subst (λ ops. AllByRecursion (OpFits c.args.plan.now.widths.items) ops) (sym c.as_slice.ensures)
    (subst (λ ws. AllByRecursion (OpFits ws) c.at-txn.result.now.ops) (sym c.requires.plan.widths) fits.ops)

pub attempt-requires-clause-wide : goal.attempt-requires-clause-wide
attempt-requires-clause-wide c =
    let s = setting_of c.args.script.now in
    subst (λ ws. AreWide ws (rows_held c.args.store.now.rows)) (sym c.requires.plan.widths)
    (held_wide s c.args.store.now c.requires.store c.requires.in_range.rows
    (fit-jobs s.workers s.widths c.args.script.now.txns c.requires.in_range.txns))

-- the transaction's operations and its worker, by its number
own_ops : (script : Script) (place : ℕ) (txn : ScriptTxn) → place < length script.txns
    → txn ≡ slice_index_or script.txns place txn → ops_of (setting_of script) (place + 1) ≡ txn.ops
own_ops script place txn within is = ap (λ i. slice_index_or (map (λ x. x.ops) script.txns) i []) (omega arith)
    ∙ index_or_map (λ x. x.ops) script.txns place txn [] within is

own_place : (script : Script) (place worker : ℕ) (txn : ScriptTxn) → place < length script.txns
    → txn ≡ slice_index_or script.txns place txn → txn.worker ≡ worker
    → own_txn worker (slice_index (setting_of script).owners place) (place + 1) ≡ (place + 1) ∷ []
own_place script place worker txn within is owner =
    own_here worker (slice_index (setting_of script).owners place) (place + 1)
    (index_map (λ x. x.worker) script.txns place txn within is ∙ owner)

pub attempt-requires-clause-few : goal.attempt-requires-clause-few
attempt-requires-clause-few c =
    let script = c.args.script.now in
    let own = c.as_slice.ensures
    ∙ sym (own_ops script c.args.place c.at-txn.result.now c.requires.place c.at-txn.ensures) in
    let few = all_index _ script.txns c.args.place c.at-txn.result.now c.requires.place c.at-txn.ensures
    c.requires.few.reads in
    let reads = plan_reads (setting_of script) c.args.plan.now c.args.store.now c.requires.plan c.requires.store
    c.args.worker (c.args.place + 1) c.as_slice.result.now own in
    omega (
      arith,
      reads,
      few,
      ap (λ ops. reads_most (length script.rows + ops_count script.txns) ops)
          c.as_slice.ensures,
      ap (λ n. reads_most n c.as_slice.result.now) (length-named_keys script),
    )

pub returns-clause-store : goal.returns-clause-store
returns-clause-store c =
    let s = setting_of c.args.script.now in
    let old = c.args.store.now in
    let j = c.args.worker in
    let x = c.args.place + 1 in
    let own = c.as_slice.ensures
    ∙ sym (own_ops c.args.script.now c.args.place c.at-txn.result.now c.requires.place c.at-txn.ensures) in
    let e_same = plan_evaluated s c.args.plan.now old c.requires.plan c.requires.store j x c.as_slice.result.now own in
    let o_same =
    plan_outcome s c.args.plan.now old c.requires.plan c.requires.store j x c.as_slice.result.now own
    c.requires.worker.0 c.requires.worker.1 in
    store_after s j old.history x c.requires.in_range.rows
    (fit-jobs s.workers s.widths c.args.script.now.txns c.requires.in_range.txns) old c.attempt.new.store refl
    c.requires.store c.requires.worker.0 c.requires.worker.1
    (c.in_ok-attempt.ensures.history ∙ same_both (λ e o. old.history
    ++ entry_by j x (length old.history) (writes_by e o) o) _ _ _ _ e_same o_same)
    (c.in_ok-attempt.ensures.vector ∙ same_both (λ e o. vector_by j o old.vector) _ _ _ _ e_same o_same)
    (λ key. c.in_ok-attempt.ensures.rows key
    ∙ same_both (λ e o. overlay (writes_by e o) (rows_held old.rows) key) _ _ _ _ e_same o_same)
    (λ key. c.in_ok-attempt.ensures.stamps key
    ∙ same_both (λ e o. if writes_key (writes_by e o) key then stamp_at j (number_by o)
    else stamp_held old.stamps key) _ _ _ _ e_same o_same)

pub returns-clause-history : goal.returns-clause-history
returns-clause-history c =
    let s = setting_of c.args.script.now in
    let old = c.args.store.now in
    let j = c.args.worker in
    let x = c.args.place + 1 in
    let own = c.as_slice.ensures
    ∙ sym (own_ops c.args.script.now c.args.place c.at-txn.result.now c.requires.place c.at-txn.ensures) in
    let e_same = plan_evaluated s c.args.plan.now old c.requires.plan c.requires.store j x c.as_slice.result.now own in
    let o_same =
    plan_outcome s c.args.plan.now old c.requires.plan c.requires.store j x c.as_slice.result.now own
    c.requires.worker.0 c.requires.worker.1 in
    c.in_ok-attempt.ensures.history ∙ same_both (λ e o. old.history
    ++ entry_by j x (length old.history) (writes_by e o) o) _ _ _ _ e_same o_same
    ∙ ap (history_after s j old.history) (sym
    (own_place c.args.script.now c.args.place j c.at-txn.result.now c.requires.place c.at-txn.ensures
    c.if-txn-worker.false))

pub returns-clause-log : goal.returns-clause-log
returns-clause-log c =
    let s = setting_of c.args.script.now in
    let old = c.args.store.now in
    let j = c.args.worker in
    let x = c.args.place + 1 in
    let own = c.as_slice.ensures
    ∙ sym (own_ops c.args.script.now c.args.place c.at-txn.result.now c.requires.place c.at-txn.ensures) in
    let e_same = plan_evaluated s c.args.plan.now old c.requires.plan c.requires.store j x c.as_slice.result.now own in
    let o_same =
    plan_outcome s c.args.plan.now old c.requires.plan c.requires.store j x c.as_slice.result.now own
    c.requires.worker.0 c.requires.worker.1 in
    c.in_ok-attempt.ensures.log ∙ log_after s old c.requires.store j x c.args.log.now _ _ e_same o_same
    ∙ ap (λ xs. log_grown c.args.log.now (tells_after s j old.history xs))
    (sym (own_place c.args.script.now c.args.place j c.at-txn.result.now c.requires.place c.at-txn.ensures
    c.if-txn-worker.false))
