-- The report of a serial run fits its script: its items have their tables' widths, and its logs count what they hold.
use Rattle.std.proofs.Common.{◌≡◌, ℕ, zero, suc, ◌+◌, ◌-◌, Bool, true, false, List, [], ◌∷◌, ◌++◌, length, map, refl}
use Rattle.std.proofs.Common.{ap, sym, ◌∙◌, subst, arith, length-append, Option, Some, None, inl, inr}
use Rattle.std.specs.Prelude.{IfSome, IsTrue, not, filter, slice_index, slice_index_or, replicate, MatchOption}
use Rattle.std.specs.List.{AllByRecursion}
use Rattle.std.proofs.lemmas.Bool.{cases_Bool, cond_both}
use Rattle.std.proofs.lemmas.Bool.Decides.{nat_tests}
use Rattle.std.proofs.lemmas.List.{length-set, length-replicate}
use Rattle.si_model.specs.declared.row.Key.{Key}
use Rattle.si_model.specs.declared.row.Row.{Row}
use Rattle.si_model.specs.declared.row.Item.{Item}
use Rattle.si_model.specs.declared.op.Op.{Op}
use Rattle.si_model.specs.declared.op.Op.TheVariants.{Get, Put, Add, Del, Need, Guard, Scan}
use Rattle.si_model.specs.declared.report.CommitLine.{CommitLine}
use Rattle.si_model.specs.declared.report.Report.{Report}
use Rattle.si_model.specs.declared.evaluated.Evaluated.{Evaluated}
use Rattle.si_model.specs.declared.evaluated.Evaluated.TheVariants.{Done, Declined}
use Rattle.si_model.specs.Rows.{Rows, key_at, same_key, key_before, row_key, item_key, item_at, rows_of, writes_key}
use Rattle.si_model.specs.Rows.{overlay, present, items_from, AreInOrder, ListsRows}
use Rattle.si_model.specs.Evaluation.{field_of, with_field, new_number, with_write, with_guard, passes, found, writes_after}
use Rattle.si_model.specs.Evaluation.{guards_after, with_reads, evaluation_from, OpFits, AreWide}
use Rattle.si_model.specs.State.{state_at}
use Rattle.si_model.specs.History.{count_of, keys_of}
use Rattle.si_model.specs.Tells.{Tell}
use Rattle.si_model.specs.Setting.{Setting, txns_of}
use Rattle.si_model.proofs.EvaluationLemmas.{same_key-refl, same_key_says}
use Rattle.nam_script.specs.declared.script.Script.{Script}
use Rattle.nam_script.specs.declared.script.ScriptTxn.{ScriptTxn}
use Rattle.nam_script.specs.Limits.{RowFits}
use Rattle.namdb.specs.InRange.{TxnInRange, IsInRange}
use Rattle.si_model.specs.Tells.{reads_in, locks_in}
use Rattle.nam_report.specs.Fits.{NamesTable, ItemFits, LockFits, EventFits, EntryFits, AuditRowFits, LogFits}
use Rattle.nam_report.specs.Fits.{FitsScript}
use Rattle.nam_report.specs.Numbers.{NumbersFit}
use Rattle.nam_report.proofs.FitsLemmas.{AllByRecursion-append}
use Rattle.nam_script.specs.ScriptSetting.{setting_of}
use Rattle.namdb.specs.Serial.{lock_on, writes_by, entry_by, ops_of, evaluated_after, tell_after, entry_after}
use Rattle.namdb.specs.Serial.{tells_after, history_after, log_of, logs_after, end_after, audit_of}
use Rattle.namdb.proofs.SerialLemmas.{by_outcome, told}
use Rattle.namdb.proofs.WholeRunLemmas.{length-logs_after}

-- ---- rows

-- each key that holds a value is of a table, and its value has the table's width
abbrev pub AreFit : List ℕ → Rows → Type 0
AreFit widths rows =
    (key : Key) → IfSome (rows key) (λ v. NamesTable widths key.table × (length v ≡ slice_index widths key.table))

-- a value that is of a table's width, if there is one
abbrev IsFit : List ℕ → ℕ → Option (List ℕ) → Type 0
IsFit widths t value = IfSome value (λ v. NamesTable widths t × (length v ≡ slice_index widths t))

abbrev KeyFits : List ℕ → Key → Type 0
KeyFits widths key = NamesTable widths key.table

fit_value : (widths : List ℕ) (t : ℕ) (value : Option (List ℕ)) → NamesTable widths t
    → IfSome value (λ v. length v ≡ slice_index widths t) → IsFit widths t value
fit_value widths t None table wide = tt
fit_value widths t (Some v) table wide = (table, wide)

wide_value : (widths : List ℕ) (t : ℕ) (value : Option (List ℕ)) → IsFit widths t value
    → IfSome value (λ v. length v ≡ slice_index widths t)
wide_value widths t None fit = tt
wide_value widths t (Some v) fit = fit.1

wide_match : (widths : List ℕ) (t : ℕ) (value : Option (List ℕ)) → IsFit widths t value
    → MatchOption value (Unit {0}) (λ v. length v ≡ slice_index widths t)
wide_match widths t None fit = tt
wide_match widths t (Some v) fit = fit.1

fit-overlay : (widths : List ℕ) (ws : List Item) (rows : Rows) → AllByRecursion (ItemFits widths) ws
    → AreFit widths rows → AreFit widths (overlay ws rows)
fit-overlay widths [] rows written fit key = fit key
fit-overlay widths (w ∷ ws) rows written fit key =
    cond_both (same_key (item_key w) key) w.value (overlay ws rows key) (IsFit widths key.table)
    (λ same. subst (λ (k : Key). IsFit widths k.table w.value) (same_key_says (item_key w) key same)
    (fit_value widths w.table w.value written.0.0 written.0.1))
    (λ other. fit-overlay widths ws rows written.1 fit key)

fit-state_at : (widths : List ℕ) (rows : Rows) (es : List CommitLine) → AreFit widths rows
    → AllByRecursion (EntryFits widths) es → AreFit widths (state_at rows es)
fit-state_at widths rows [] fit written = fit
fit-state_at widths rows (e ∷ es) fit written =
    fit-state_at widths (overlay e.writes rows) es (fit-overlay widths e.writes rows written.0 fit) written.1

fit-rows_of : (widths : List ℕ) (rows : List Row) → AllByRecursion (RowFits widths) rows → AreFit widths (rows_of rows)
fit-rows_of widths [] fits key = tt
fit-rows_of widths (r ∷ rs) fits key =
    cond_both (same_key (row_key r) key) (Some r.value) (rows_of rs key) (IsFit widths key.table)
    (λ same. subst (λ (k : Key). IsFit widths k.table (Some r.value)) (same_key_says (row_key r) key same) (
      fits.0.0.0,
      fits.0.1,
    ))
    (λ other. fit-rows_of widths rs fits.1 key)

-- ---- one operation

fit-wrote : (widths : List ℕ) (ws : List Item) (i : Item) → AllByRecursion (ItemFits widths) ws → ItemFits widths i
    → AllByRecursion (ItemFits widths) (with_write ws i)
fit-wrote widths [] i written new = (new, tt)
fit-wrote widths (w ∷ ws) i written new =
    cond_both (same_key (item_key w) (item_key i)) (i ∷ ws) (w ∷ with_write ws i) (AllByRecursion (ItemFits widths))
    (λ same. (new, written.1))
    (λ other. (written.0, fit-wrote widths ws i written.1 new))

length-with_field : (width f n : ℕ) (v : Option (List ℕ)) → IfSome v (λ x. length x ≡ width)
    → length (with_field width v f n) ≡ width
length-with_field width f n None wide = length-set (replicate width 0) (f - 1) n ∙ length-replicate width 0
length-with_field width f n (Some v) wide = length-set v (f - 1) n ∙ wide

fit-writes_after : (widths : List ℕ) (op : Op) (copy : Rows) (ws : List Item) → OpFits widths op → AreFit widths copy
    → AllByRecursion (ItemFits widths) ws → AllByRecursion (ItemFits widths) (writes_after widths op copy ws)
fit-writes_after widths (Get t k) copy ws op_fits fit written = written
fit-writes_after widths (Put t k v) copy ws op_fits fit written =
    fit-wrote widths ws (item_at (key_at t k) (Some v)) written (op_fits.0.0, op_fits.1)
fit-writes_after widths (Add t k f up by) copy ws op_fits fit written =
    let v = copy (key_at t k) in
    let new = new_number up (field_of v f) by in
    fit-wrote widths ws (item_at (key_at t k) (Some (with_field (slice_index widths t) v f new))) written
    (op_fits.0.0, length-with_field (slice_index widths t) f new v (wide_value widths t v (fit (key_at t k))))
fit-writes_after widths (Del t k) copy ws op_fits fit written =
    fit-wrote widths ws (item_at (key_at t k) None) written (op_fits.0, tt)
fit-writes_after widths (Need t k f least) copy ws op_fits fit written = written
fit-writes_after widths (Guard t k) copy ws op_fits fit written = written
fit-writes_after widths (Scan t low high) copy ws op_fits fit written = written

fit-present : (widths : List ℕ) (key : Key) (value : Option (List ℕ)) → IsFit widths key.table value
    → AllByRecursion (ItemFits widths) (present key value)
fit-present widths key None fit = tt
fit-present widths key (Some v) fit = (fit, tt)

fit-items_from : (widths : List ℕ) (copy : Rows) (table low n : ℕ) → AreFit widths copy
    → AllByRecursion (ItemFits widths) (items_from copy table low n)
unfolding items_from
fit-items_from widths copy table low zero fit = tt
fit-items_from widths copy table low (suc n) fit =
    AllByRecursion-append (ItemFits widths) (present (key_at table low) (copy (key_at table low)))
    (items_from copy table (low + 1) n)
    (fit-present widths (key_at table low) (copy (key_at table low)) (fit (key_at table low)))
    (fit-items_from widths copy table (low + 1) n fit)

fit-found : (widths : List ℕ) (op : Op) (copy : Rows) → OpFits widths op → AreFit widths copy
    → AllByRecursion (ItemFits widths) (found op copy)
fit-found widths (Get t k) copy op_fits fit =
    ((op_fits.0, wide_value widths t (copy (key_at t k)) (fit (key_at t k))), tt)
fit-found widths (Put t k v) copy op_fits fit = tt
fit-found widths (Add t k f up by) copy op_fits fit =
    ((op_fits.0.0, wide_value widths t (copy (key_at t k)) (fit (key_at t k))), tt)
fit-found widths (Del t k) copy op_fits fit = tt
fit-found widths (Need t k f least) copy op_fits fit =
    ((op_fits.0.0, wide_value widths t (copy (key_at t k)) (fit (key_at t k))), tt)
fit-found widths (Guard t k) copy op_fits fit =
    ((op_fits.0, wide_value widths t (copy (key_at t k)) (fit (key_at t k))), tt)
fit-found widths (Scan t low high) copy op_fits fit = fit-items_from widths copy t low (high + 1 - low) fit

fit-guarded : (widths : List ℕ) (gs : List Key) (key : Key) → AllByRecursion (KeyFits widths) gs → KeyFits widths key
    → AllByRecursion (KeyFits widths) (with_guard gs key)
fit-guarded widths [] key so_far new = (new, tt)
fit-guarded widths (g ∷ gs) key so_far new =
    cond_both (same_key g key) (g ∷ gs) (g ∷ with_guard gs key) (AllByRecursion (KeyFits widths))
    (λ same. so_far)
    (λ other. (so_far.0, fit-guarded widths gs key so_far.1 new))

fit-guards_after : (widths : List ℕ) (op : Op) (gs : List Key) → OpFits widths op → AllByRecursion (KeyFits widths) gs
    → AllByRecursion (KeyFits widths) (guards_after op gs)
fit-guards_after widths (Get t k) gs op_fits so_far = so_far
fit-guards_after widths (Put t k v) gs op_fits so_far = so_far
fit-guards_after widths (Add t k f up by) gs op_fits so_far = so_far
fit-guards_after widths (Del t k) gs op_fits so_far = so_far
fit-guards_after widths (Need t k f least) gs op_fits so_far = so_far
fit-guards_after widths (Guard t k) gs op_fits so_far = fit-guarded widths gs (key_at t k) so_far op_fits.0
fit-guards_after widths (Scan t low high) gs op_fits so_far = so_far

-- ---- a list of operations

abbrev EvaluatedFits : List ℕ → Evaluated → Type 0
EvaluatedFits widths (Done reads writes guards) =
    AllByRecursion (ItemFits widths) reads × AllByRecursion (ItemFits widths) writes
    × AllByRecursion (KeyFits widths) guards
EvaluatedFits widths (Declined op reads) = AllByRecursion (ItemFits widths) reads

fit-with_reads : (widths : List ℕ) (is : List Item) (e : Evaluated) → AllByRecursion (ItemFits widths) is
    → EvaluatedFits widths e → EvaluatedFits widths (with_reads is e)
fit-with_reads widths is (Done reads writes guards) first rest =
    (AllByRecursion-append (ItemFits widths) is reads first rest.0, rest.1, rest.2)
fit-with_reads widths is (Declined op reads) first rest = AllByRecursion-append (ItemFits widths) is reads first rest

all_filter : {X : Type 0} (P : X → Type 0) (keeps : X → Bool) (xs : List X) → AllByRecursion P xs
    → AllByRecursion P (filter keeps xs)
all_filter P keeps [] all = tt
all_filter P keeps (x ∷ xs) all =
    let rest = all_filter P keeps xs all.1 in
    cond_both (keeps x) (x ∷ filter keeps xs) (filter keeps xs) (AllByRecursion P) (λ kept. (all.0, rest))
    (λ dropped. rest)

fit-evaluation_from : (widths : List ℕ) (rows : Rows) → AreFit widths rows
    → (n : ℕ) (ws : List Item) (gs : List Key) (ops : List Op) → AllByRecursion (OpFits widths) ops
    → AllByRecursion (ItemFits widths) ws → AllByRecursion (KeyFits widths) gs
    → EvaluatedFits widths (evaluation_from widths rows n ws gs ops)
fit-evaluation_from widths rows fit n ws gs [] ops_fit written guarded_fit =
    (tt, written, all_filter (KeyFits widths) (λ key. not (writes_key ws key)) gs guarded_fit)
fit-evaluation_from widths rows fit n ws gs (op ∷ ops) ops_fit written guarded_fit =
    let copy = overlay ws rows in
    let copy_fit = fit-overlay widths ws rows written fit in
    let here = fit-found widths op copy ops_fit.0 copy_fit in
    let rest = fit-evaluation_from widths rows fit (n + 1) (writes_after widths op copy ws) (guards_after op gs) ops
    ops_fit.1 (fit-writes_after widths op copy ws ops_fit.0 copy_fit written)
    (fit-guards_after widths op gs ops_fit.0 guarded_fit) in
    cond_both (passes op copy) (with_reads (found op copy)
    (evaluation_from widths rows (n + 1) (writes_after widths op copy ws) (guards_after op gs) ops))
    (Declined n (found op copy)) (EvaluatedFits widths)
    (λ passed. fit-with_reads widths (found op copy) _ here rest)
    (λ stopped. here)

-- ---- what one attempt tells

record TellFits (workers : ℕ) (widths : List ℕ) (t : Tell) : Type 0 where
  pub event : EventFits workers widths t.event
  pub reads : AllByRecursion (ItemFits widths) t.reads
  pub locks : AllByRecursion (LockFits widths) t.locks
  pub reads_count : reads_in t.event ≡ length t.reads
  pub locks_count : locks_in t.event ≡ length t.locks

-- the log that tells what fits, fits
fit-log_of : (workers : ℕ) (widths : List ℕ) (ts : List Tell) → AllByRecursion (TellFits workers widths) ts
    → LogFits workers widths (log_of ts)
fit-log_of workers widths [] fits =
    record { events = tt; reads = tt; locks = tt; counts = record { reads = refl; locks = refl } }
fit-log_of workers widths (t ∷ ts) fits =
    let rest = fit-log_of workers widths ts fits.1 in
    let more = log_of ts in
    record {
      events = (fits.0.event, rest.events);
      reads = AllByRecursion-append (ItemFits widths) t.reads more.reads fits.0.reads rest.reads;
      locks = AllByRecursion-append (LockFits widths) t.locks more.locks fits.0.locks rest.locks;
      counts = record {
        reads = omega (arith, fits.0.reads_count, rest.counts.reads, length-append t.reads more.reads);
        locks = omega (arith, fits.0.locks_count, rest.counts.locks, length-append t.locks more.locks);
      };
    }

fit-keys : (widths : List ℕ) (writes : List Item) (guards : List Key) → AllByRecursion (ItemFits widths) writes
    → AllByRecursion (KeyFits widths) guards → AllByRecursion (KeyFits widths) (keys_of writes guards)
fit-keys widths [] guards written guards_fit = guards_fit
fit-keys widths (w ∷ ws) guards written guards_fit = (written.0.0, fit-keys widths ws guards written.1 guards_fit)

fit-locks : (widths : List ℕ) (history : List CommitLine) (keys : List Key) → AllByRecursion (KeyFits widths) keys
    → AllByRecursion (LockFits widths) (map (lock_on history) keys)
fit-locks widths history [] fits = tt
fit-locks widths history (key ∷ keys) fits = (fits.0, fit-locks widths history keys fits.1)

fit-ops : (widths : List ℕ) (jobs : List (List Op)) (place : ℕ) → AllByRecursion (AllByRecursion (OpFits widths)) jobs
    → AllByRecursion (OpFits widths) (slice_index_or jobs place [])
fit-ops widths [] place fits = tt
fit-ops widths (ops ∷ jobs) zero fits = fits.0
fit-ops widths (ops ∷ jobs) (suc place) fits = fit-ops widths jobs place fits.1

module _ (s : Setting) (rows_fit : AllByRecursion (RowFits s.widths) s.rows)
    (jobs_fit : AllByRecursion (AllByRecursion (OpFits s.widths)) s.jobs) where
  abbrev pub HistoryFits : List CommitLine → Type 0
  HistoryFits history = AllByRecursion (EntryFits s.widths) history

  pub fit-state : (history : List CommitLine) → HistoryFits history
      → AreFit s.widths (state_at (rows_of s.rows) history)
  fit-state history fits = fit-state_at s.widths (rows_of s.rows) history (fit-rows_of s.widths s.rows rows_fit) fits

  -- so their values are wide
  pub wide-state : (history : List CommitLine) → HistoryFits history
      → AreWide s.widths (state_at (rows_of s.rows) history)
  wide-state history fits key =
      wide_match s.widths key.table (state_at (rows_of s.rows) history key) (fit-state history fits key)

  fit-evaluated : (j : ℕ) (history : List CommitLine) (x : ℕ) → HistoryFits history
      → EvaluatedFits s.widths (evaluated_after s j history x)
  fit-evaluated j history x fits =
      fit-evaluation_from s.widths (state_at (rows_of s.rows) history) (fit-state history fits) 1 [] [] (ops_of s x)
      (fit-ops s.widths s.jobs (x - 1) jobs_fit) tt tt

  fit-tell : (j : ℕ) (history : List CommitLine) (x : ℕ) → HistoryFits history
      → TellFits s.workers s.widths (tell_after s j history x)
  fit-tell j history x fits =
      by_outcome (λ e o. EvaluatedFits s.widths e → TellFits s.workers s.widths (told s j history x e o)) s.greatest
      (s.start + count_of j history) (evaluated_after s j history x)
      (λ op reads e. record { event = tt; reads = e; locks = tt; reads_count = refl; locks_count = refl })
      (λ reads guards e. record { event = tt; reads = e.0; locks = tt; reads_count = refl; locks_count = refl })
      (λ reads ws w guards l e. record { event = tt; reads = e.0; locks = tt; reads_count = refl; locks_count = refl })
      (λ reads ws w guards e. record {
        event = tt;
        reads = e.0;
        locks = fit-locks s.widths history (keys_of (w ∷ ws) guards) (fit-keys s.widths (w ∷ ws) guards e.1 e.2);
        reads_count = refl;
        locks_count = refl;
      })
      (fit-evaluated j history x fits)

  pub fit-entry : (j : ℕ) (history : List CommitLine) (x : ℕ) → HistoryFits history
      → HistoryFits (history ++ entry_after s j history x)
  fit-entry j history x fits =
      AllByRecursion-append (EntryFits s.widths) history (entry_after s j history x) fits
      (by_outcome (λ e o. EvaluatedFits s.widths e → HistoryFits (entry_by j x (length history) (writes_by e o) o))
      s.greatest (s.start + count_of j history) (evaluated_after s j history x)
      (λ op reads e. tt)
      (λ reads guards e. tt)
      (λ reads ws w guards l e. tt)
      (λ reads ws w guards e. (e.1, tt))
      (fit-evaluated j history x fits))

  -- ---- a worker's attempts, and all workers

  fit-tells : (j : ℕ) (history : List CommitLine) (xs : List ℕ) → HistoryFits history
      → AllByRecursion (TellFits s.workers s.widths) (tells_after s j history xs)
  fit-tells j history [] fits = tt
  fit-tells j history (x ∷ xs) fits =
      (fit-tell j history x fits, fit-tells j (history ++ entry_after s j history x) xs (fit-entry j history x fits))

  fit-history : (j : ℕ) (history : List CommitLine) (xs : List ℕ) → HistoryFits history
      → HistoryFits (history_after s j history xs)
  fit-history j history [] fits = fits
  fit-history j history (x ∷ xs) fits =
      fit-history j (history ++ entry_after s j history x) xs (fit-entry j history x fits)

  fit-logs : (j : ℕ) (history : List CommitLine) (n : ℕ) → HistoryFits history
      → AllByRecursion (LogFits s.workers s.widths) (logs_after s j history n)
  fit-logs j history zero fits = tt
  fit-logs j history (suc n) fits =
      let xs = txns_of j s.owners in (
        fit-log_of s.workers s.widths (tells_after s j history xs) (fit-tells j history xs fits),
        fit-logs (suc j) (history_after s j history xs) n (fit-history j history xs fits),
      )

  fit-end : (j : ℕ) (history : List CommitLine) (n : ℕ) → HistoryFits history → HistoryFits (end_after s j history n)
  fit-end j history zero fits = fits
  fit-end j history (suc n) fits =
      fit-end (suc j) (history_after s j history (txns_of j s.owners)) n
      (fit-history j history (txns_of j s.owners) fits)

-- ---- the audit

-- rows that all come after a key hold nothing there
none_before : (key : Key) (rows : List Row) → AllByRecursion (λ q. IsTrue (key_before key q)) (map row_key rows)
    → rows_of rows key ≡ None
none_before key [] after = refl
none_before key (r ∷ rs) after =
    let first : key_before key (row_key r) ≡ true = after.0 in
    let differ : same_key (row_key r) key ≡ false = grind (arith, nat_tests) in
    rw differ (none_before key rs after.1)

-- the rows behind the first hold no more than all of them
fit-rest : (widths : List ℕ) (r : Row) (rs : List Row) → AreInOrder (map row_key (r ∷ rs))
    → AreFit widths (rows_of (r ∷ rs)) → AreFit widths (rows_of rs)
fit-rest widths r rs ordered fit key =
    elim (cases_Bool (same_key (row_key r) key)) [
      | inl same ↦ subst (λ (k : Key). IsFit widths key.table (rows_of rs k)) (same_key_says (row_key r) key same)
          (rw (none_before (row_key r) rs ordered.0) tt)
      | inr other ↦ rw other at (fit key)
    ]

-- each row of an ordered list is one that the list holds
fit-audit : (widths : List ℕ) (rows : List Row) → AreInOrder (map row_key rows) → AreFit widths (rows_of rows)
    → AllByRecursion (AuditRowFits widths) (audit_of rows)
fit-audit widths [] ordered fit = tt
fit-audit widths (r ∷ rs) ordered fit =
    let own : IsFit widths r.table (Some r.value) = rw (same_key-refl (row_key r)) at (fit (row_key r)) in
    (own, fit-audit widths rs ordered.1 (fit-rest widths r rs ordered fit))

fit-listed : (widths : List ℕ) (rows : List Row) (state : Rows) → ListsRows rows state → AreFit widths state
    → AllByRecursion (AuditRowFits widths) (audit_of rows)
fit-listed widths rows state lists fit =
    fit-audit widths rows lists.ordered (λ key. subst (IsFit widths key.table) (sym (lists.same key)) (fit key))

pub fit-jobs : (workers : ℕ) (widths : List ℕ) (txns : List ScriptTxn) → AllByRecursion (TxnInRange workers widths) txns
    → AllByRecursion (AllByRecursion (OpFits widths)) (map (λ x. x.ops) txns)
fit-jobs workers widths [] fits = tt
fit-jobs workers widths (x ∷ xs) fits = (fits.0.ops, fit-jobs workers widths xs fits.1)

-- the report of the serial run, with the final rows as its audit, fits the script
pub serial_fits : (script : Script) (r : Report) (rows : List Row) → IsInRange script
    → r.history ≡ end_after (setting_of script) 1 [] script.shape.workers
    → r.logs ≡ logs_after (setting_of script) 1 [] script.shape.workers → r.audit ≡ audit_of rows
    → ListsRows rows (state_at (rows_of script.rows) r.history) → NumbersFit r → FitsScript script r
serial_fits script r rows in_range history logs audit lists numbers =
    let s = setting_of script in
    let rows_fit = in_range.rows in
    let jobs_fit = fit-jobs script.shape.workers s.widths script.txns in_range.txns in
    let history_fits =
    subst (AllByRecursion (EntryFits s.widths)) (sym history)
    (fit-end s rows_fit jobs_fit 1 [] script.shape.workers tt) in
    record {
      workers = ap length logs ∙ length-logs_after s 1 [] script.shape.workers;
      history = history_fits;
      logs = subst (AllByRecursion (LogFits s.workers s.widths)) (sym logs)
          (fit-logs s rows_fit jobs_fit 1 [] script.shape.workers tt);
      audit = subst (AllByRecursion (AuditRowFits s.widths)) (sym audit)
          (fit-listed s.widths rows (state_at (rows_of script.rows) r.history) lists
          (fit-state s rows_fit jobs_fit r.history history_fits));
      numbers = numbers;
    }
