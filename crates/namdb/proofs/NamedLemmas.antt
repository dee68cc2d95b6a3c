-- No other keys hold rows than those that a script names, and so a scan finds few.
use Rattle.std.proofs.Common.{◌≡◌, ℕ, zero, suc, ◌+◌, ◌-◌, ◌<◌, ◌≤◌, Bool, true, false, List, [], ◌∷◌, ◌++◌, length}
use Rattle.std.proofs.Common.{map, refl, ap, sym, ◌∙◌, arith, length-append, Option, Some, None, inl, inr}
use Rattle.std.specs.Prelude.{◌==◌, ◌&&◌, ◌||◌, nat_le, is_some, ◌^◌, ◌*◌, slice_index, slice_index_or}
use Rattle.std.specs.Prelude.{if◌then◌else◌}
use Rattle.std.specs.List.{AllByRecursion, flat_map}
use Rattle.std.proofs.lemmas.Bool.{cases_Bool, cond_both, false≢true}
use Rattle.std.proofs.lemmas.Bool.Decides.{nat_tests}
use Rattle.std.proofs.lemmas.List.{length-map}
use Rattle.si_model.specs.declared.row.Key.{Key}
use Rattle.si_model.specs.declared.row.Row.{Row}
use Rattle.si_model.specs.declared.row.Item.{Item}
use Rattle.si_model.specs.declared.op.Op.{Op}
use Rattle.si_model.specs.declared.op.Op.TheVariants.{Get, Put, Add, Del, Need, Guard, Scan}
use Rattle.si_model.specs.declared.evaluated.Evaluated.{Evaluated}
use Rattle.si_model.specs.declared.evaluated.Evaluated.TheVariants.{Done, Declined}
use Rattle.si_model.specs.Rows.{Rows, key_at, same_key, row_key, item_key, item_at, rows_of, writes_key, overlay}
use Rattle.si_model.specs.Rows.{present, items_from}
use Rattle.si_model.specs.Evaluation.{field_of, with_field, new_number, with_write, passes, found, writes_after, guards_after}
use Rattle.si_model.specs.Evaluation.{with_reads, evaluation_from, evaluation_of, reads_of, key_written, is_key}
use Rattle.si_model.specs.Evaluation.{ops_write}
use Rattle.si_model.specs.EvaluationLaws.{is_scan}
use Rattle.si_model.specs.Setting.{Setting}
use Rattle.si_model.proofs.EvaluationLemmas.{same_key_says, done-writes_key}
use Rattle.nam_script.specs.declared.script.Script.{Script}
use Rattle.nam_script.specs.declared.script.ScriptTxn.{ScriptTxn}
use Rattle.nam_script.specs.ScriptSetting.{setting_of}
use Rattle.si_model.specs.Rows.{has_key}
use Rattle.si_model.specs.Evaluation.{op_key}
use Rattle.namdb.specs.NamedRows.{named_keys}
use Rattle.namdb.specs.Few.{found_most, reads_most, ops_count, HasFew}
use Rattle.namdb.specs.Serial.{ops_of}
use Rattle.namdb.proofs.EvaluateLemmas.{AreAmong, has_key-append, has_left, has_right, has_first}

-- ---- how many rows a range has

-- how many of the keys are of the table, from low on
abbrev count_from : ℕ → ℕ → List Key → ℕ
count_from t low [] = 0
count_from t low (k ∷ ks) = (if (k.table == t) && nat_le low k.key then 1 else 0) + count_from t low ks

count_from-length : (t low : ℕ) (keys : List Key) → count_from t low keys ≤ length keys
count_from-length t low [] = omega arith
count_from-length t low (k ∷ ks) = let rest = count_from-length t low ks in grind (arith, nat_tests)

count_less : (t low : ℕ) (keys : List Key) → count_from t (low + 1) keys ≤ count_from t low keys
count_less t low [] = omega arith
count_less t low (k ∷ ks) = let rest = count_less t low ks in grind (arith, nat_tests)

count_first : (t low : ℕ) (keys : List Key) → has_key keys (key_at t low) ≡ true
    → count_from t (low + 1) keys + 1 ≤ count_from t low keys
count_first t low [] has = absurd (false≢true has)
count_first t low (k ∷ ks) has =
    elim (cases_Bool (same_key k (key_at t low))) [
      | inl same ↦ let less = count_less t low ks in grind (arith, nat_tests)
      | inr other ↦ let rest = count_first t low ks (rw other at has) in grind (arith, nat_tests)
    ]

length-present : (keys : List Key) (t low : ℕ) (value : Option (List ℕ))
    → (is_some value ≡ true → has_key keys (key_at t low) ≡ true)
    → length (present (key_at t low) value) + count_from t (low + 1) keys ≤ count_from t low keys
length-present keys t low None has = omega (arith, count_less t low keys)
length-present keys t low (Some v) has = omega (arith, count_first t low keys (has refl))

length-items_from : (keys : List Key) (copy : Rows) → AreAmong keys copy → (t low n : ℕ)
    → length (items_from copy t low n) ≤ count_from t low keys
unfolding items_from
length-items_from keys copy among t low zero = omega arith
length-items_from keys copy among t low (suc n) =
    let value = copy (key_at t low) in
    let rest = length-items_from keys copy among t (low + 1) n in
    omega (
      arith,
      rest,
      length-present keys t low value (among (key_at t low)),
      length-append (present (key_at t low) value) (items_from copy t (low + 1) n),
    )

length-found : (keys : List Key) (copy : Rows) → AreAmong keys copy → (op : Op)
    → length (found op copy) ≤ found_most (length keys) op
length-found keys copy among (Get t k) = omega arith
length-found keys copy among (Put t k v) = omega arith
length-found keys copy among (Add t k f up by) = omega arith
length-found keys copy among (Del t k) = omega arith
length-found keys copy among (Need t k f least) = omega arith
length-found keys copy among (Guard t k) = omega arith
length-found keys copy among (Scan t low high) =
    omega (arith, length-items_from keys copy among t low (high + 1 - low), count_from-length t low keys)

-- ---- write sets of named keys

-- each item's key is among these
abbrev WriteAmong : List Key → List Item → Type 0
WriteAmong keys ws = AllByRecursion (λ i. has_key keys (item_key i) ≡ true) ws

-- each operation names one of these keys
abbrev pub NameAmong : List Key → List Op → Type 0
NameAmong keys ops = AllByRecursion (λ op. has_key keys (op_key op) ≡ true) ops

among-wrote : (keys : List Key) (ws : List Item) (i : Item) → WriteAmong keys ws → has_key keys (item_key i) ≡ true
    → WriteAmong keys (with_write ws i)
among-wrote keys [] i written new = (new, tt)
among-wrote keys (w ∷ ws) i written new =
    cond_both (same_key (item_key w) (item_key i)) (i ∷ ws) (w ∷ with_write ws i) (WriteAmong keys)
    (λ same. (new, written.1))
    (λ other. (written.0, among-wrote keys ws i written.1 new))

among-writes_after : (keys : List Key) (widths : List ℕ) (op : Op) (copy : Rows) (ws : List Item)
    → has_key keys (op_key op) ≡ true → WriteAmong keys ws → WriteAmong keys (writes_after widths op copy ws)
among-writes_after keys widths (Get t k) copy ws named written = written
among-writes_after keys widths (Put t k v) copy ws named written =
    among-wrote keys ws (item_at (key_at t k) (Some v)) written named
among-writes_after keys widths (Add t k f up by) copy ws named written =
    let v = copy (key_at t k) in
    among-wrote keys ws (item_at (key_at t k)
    (Some (with_field (slice_index widths t) v f (new_number up (field_of v f) by)))) written named
among-writes_after keys widths (Del t k) copy ws named written =
    among-wrote keys ws (item_at (key_at t k) None) written named
among-writes_after keys widths (Need t k f least) copy ws named written = written
among-writes_after keys widths (Guard t k) copy ws named written = written
among-writes_after keys widths (Scan t low high) copy ws named written = written

row_or_write : (ws : List Item) (rows : Rows) (key : Key) → is_some (overlay ws rows key) ≡ true
    → (is_some (rows key) || writes_key ws key) ≡ true
row_or_write [] rows key some = grind (arith, nat_tests)
row_or_write (w ∷ ws) rows key some = let rest = row_or_write ws rows key in grind (arith, nat_tests)

-- rows under a write set of these keys
pub among-overlay : (keys : List Key) (ws : List Item) (rows : Rows)
    → ((key : Key) → writes_key ws key ≡ true → has_key keys key ≡ true) → AreAmong keys rows
    → AreAmong keys (overlay ws rows)
among-overlay keys ws rows written among key some =
    let either = row_or_write ws rows key some in
    elim (cases_Bool (is_some (rows key))) [
      | inl here ↦ among key here
      | inr none ↦ written key (rw none at either)
    ]

written-among : (keys : List Key) (ws : List Item) → WriteAmong keys ws → (key : Key) → writes_key ws key ≡ true
    → has_key keys key ≡ true
written-among keys [] written key has = absurd (false≢true has)
written-among keys (w ∷ ws) written key has =
    elim (cases_Bool (same_key (item_key w) key)) [
      | inl same ↦ ap (has_key keys) (sym (same_key_says (item_key w) key same)) ∙ written.0
      | inr other ↦ written-among keys ws written.1 key (rw other at has)
    ]

-- ---- an evaluation reads few items

reads_of-with_reads : (is : List Item) (e : Evaluated) → reads_of (with_reads is e) ≡ is ++ reads_of e
reads_of-with_reads is (Done reads writes guards) = refl
reads_of-with_reads is (Declined op reads) = refl

reads_from-most : (keys : List Key) (widths : List ℕ) (rows : Rows) → AreAmong keys rows
    → (n : ℕ) (ws : List Item) (gs : List Key) (ops : List Op) → WriteAmong keys ws → NameAmong keys ops
    → length (reads_of (evaluation_from widths rows n ws gs ops)) ≤ reads_most (length keys) ops
reads_from-most keys widths rows among n ws gs [] written named = omega arith
reads_from-most keys widths rows among n ws gs (op ∷ ops) written named =
    let copy = overlay ws rows in
    let next = evaluation_from widths rows (n + 1) (writes_after widths op copy ws) (guards_after op gs) ops in
    let here = length-found keys copy (among-overlay keys ws rows (written-among keys ws written) among) op in
    let rest = reads_from-most keys widths rows among (n + 1) (writes_after widths op copy ws) (guards_after op gs) ops
    (among-writes_after keys widths op copy ws named.0 written) named.1 in
    cond_both (passes op copy) (with_reads (found op copy) next) (Declined n (found op copy))
    (λ e. length (reads_of e) ≤ reads_most (length keys) (op ∷ ops))
    (λ passed. omega (
      arith,
      here,
      rest,
      ap length (reads_of-with_reads (found op copy) next),
      length-append (found op copy) (reads_of next),
    ))
    (λ stopped. omega (arith, here))

pub reads_few : (keys : List Key) (widths : List ℕ) (rows : Rows) (ops : List Op) → AreAmong keys rows
    → NameAmong keys ops → length (reads_of (evaluation_of widths rows ops)) ≤ reads_most (length keys) ops
reads_few keys widths rows ops among named = reads_from-most keys widths rows among 1 [] [] ops tt named

-- ---- what a commit writes is named

written_is : (op : Op) (key : Key) → is_key key (key_written op) ≡ true → op_key op ≡ key
written_is (Get t k) key is = absurd (false≢true is)
written_is (Put t k v) key is = same_key_says (key_at t k) key is
written_is (Add t k f up by) key is = same_key_says (key_at t k) key is
written_is (Del t k) key is = same_key_says (key_at t k) key is
written_is (Need t k f least) key is = absurd (false≢true is)
written_is (Guard t k) key is = absurd (false≢true is)
written_is (Scan t low high) key is = absurd (false≢true is)

ops_write-named : (keys : List Key) (ops : List Op) → NameAmong keys ops → (key : Key) → ops_write key ops ≡ true
    → has_key keys key ≡ true
ops_write-named keys [] named key write = absurd (false≢true write)
ops_write-named keys (op ∷ ops) named key write =
    elim (cases_Bool (is_key key (key_written op))) [
      | inl is ↦ ap (has_key keys) (sym (written_is op key is)) ∙ named.0
      | inr other ↦ ops_write-named keys ops named.1 key (rw other at write)
    ]

pub done_writes-named : (keys : List Key) (widths : List ℕ) (rows : Rows) (ops : List Op) (reads writes : List Item)
    (guards : List Key) → evaluation_of widths rows ops ≡ Done reads writes guards → NameAmong keys ops → (key : Key)
    → writes_key writes key ≡ true → has_key keys key ≡ true
done_writes-named keys widths rows ops reads writes guards done named key write =
    ops_write-named keys ops named key (sym (done-writes_key widths rows ops reads writes guards done key) ∙ write)

-- ---- the keys of a script

ops_named : (keys : List Key) (ops : List Op)
    → ((key : Key) → has_key (map op_key ops) key ≡ true → has_key keys key ≡ true) → NameAmong keys ops
ops_named keys [] within = tt
ops_named keys (op ∷ ops) within = (
  within (op_key op) (has_first (op_key op) (map op_key ops)),
  ops_named keys ops (λ key has. within key (has_right (op_key op ∷ []) (map op_key ops) key has)),
)

abbrev job_keys : List (List Op) → List Key
job_keys jobs = flat_map (λ ops. map op_key ops) jobs

job_named : (jobs : List (List Op)) (place : ℕ) (key : Key)
    → has_key (map op_key (slice_index_or jobs place [])) key ≡ true → has_key (job_keys jobs) key ≡ true
job_named [] place key has = absurd (false≢true has)
job_named (ops ∷ jobs) zero key has = has_left (map op_key ops) (job_keys jobs) key has
job_named (ops ∷ jobs) (suc place) key has =
    has_right (map op_key ops) (job_keys jobs) key (job_named jobs place key has)

-- each operation of a transaction names one of them
pub own_named : (s : Setting) (x : ℕ) → NameAmong (named_keys s) (ops_of s x)
own_named s x =
    ops_named (named_keys s) (ops_of s x) (λ key has.
    has_right (map row_key s.rows) (job_keys s.jobs) key (job_named s.jobs (x - 1) key has))

rows_named-loaded : (rows : List Row) (key : Key) → is_some (rows_of rows key) ≡ true
    → has_key (map row_key rows) key ≡ true
rows_named-loaded [] key some = absurd (false≢true some)
rows_named-loaded (r ∷ rs) key some =
    elim (cases_Bool (same_key (row_key r) key)) [
      | inl same ↦ rw same refl
      | inr other ↦ rw other (rows_named-loaded rs key (rw other at some))
    ]

-- no others hold loaded rows
pub loaded_among : (s : Setting) → AreAmong (named_keys s) (rows_of s.rows)
loaded_among s key some = has_left (map row_key s.rows) (job_keys s.jobs) key (rows_named-loaded s.rows key some)

length-job_keys : (txns : List ScriptTxn) → length (job_keys (map (λ x. x.ops) txns)) ≡ ops_count txns
length-job_keys [] = refl
length-job_keys (x ∷ xs) =
    omega (
      arith,
      length-append (map op_key x.ops) (job_keys (map (λ y. y.ops) xs)),
      length-map x.ops op_key,
      length-job_keys xs,
    )

pub length-named_keys : (script : Script)
    → length (named_keys (setting_of script)) ≡ length script.rows + ops_count script.txns
length-named_keys script =
    omega (
      arith,
      length-append (map row_key script.rows) (job_keys (map (λ x. x.ops) script.txns)),
      length-map script.rows row_key,
      length-job_keys script.txns,
    )

-- ---- a script of at most 4,194,304 rows and 65,536 operations, at most 32 of them in a transaction, reads few

reads_most-limit : (n : ℕ) (ops : List Op) → n ≤ 4259840 → reads_most n ops ≤ 4259840 * length ops
reads_most-limit n [] within = omega arith
reads_most-limit n (op ∷ ops) within = omega (arith, one (is_scan op), reads_most-limit n ops within)
  where
    one : (b : Bool) → (if b then n else 1) ≤ 4259840
    one true = within
    one false = omega arith

few_limits-txns : (n : ℕ) (txns : List ScriptTxn) → n ≤ 4259840 → AllByRecursion (λ x. length x.ops ≤ 32) txns
    → AllByRecursion (λ x. reads_most n x.ops < 2 ^ 32) txns
few_limits-txns n [] within short = tt
few_limits-txns n (x ∷ xs) within short =
    (omega (arith, reads_most-limit n x.ops within, short.0), few_limits-txns n xs within short.1)

pub few_limits : (script : Script) → length script.rows ≤ 4194304 → ops_count script.txns ≤ 65536
    → AllByRecursion (λ x. length x.ops ≤ 32) script.txns → HasFew script
few_limits script rows ops short =
    record {
      reads = few_limits-txns (length script.rows + ops_count script.txns) script.txns (omega (arith, rows, ops))
          short;
    }
