-- A script within its limits is in range, and reads few.
use Rattle.std.proofs.Common.{◌≡◌, ℕ, zero, suc, ◌+◌, ◌*◌, ◌<◌, ◌≤◌, inl, inr, List, [], ◌∷◌}
use Rattle.std.proofs.Common.{length, ap, arith}
use Rattle.std.specs.Prelude.{slice_index}
use Rattle.std.specs.List.{AllByRecursion}
use Rattle.std.proofs.lemmas.Bool.{cases_eq, eq-eqb}
use Rattle.std.proofs.lemmas.List.{length-map}
use Rattle.std.proofs.lemmas.List.Elements.{recursion_from_All}
use Rattle.si_model.specs.declared.row.Row.{Row}
use Rattle.si_model.specs.declared.op.Op.{Op}
use Rattle.si_model.specs.declared.op.Op.TheVariants.{Get, Put, Add, Del, Need, Guard, Scan}
use Rattle.si_model.specs.Evaluation.{OpFits}
use Rattle.nam_catalog.specs.declared.shape.Table.{Table}
use Rattle.nam_catalog.specs.Tables.{widths_of, capacities_of}
use Rattle.nam_catalog.specs.Words.{tables_words}
use Rattle.nam_catalog.specs.Fits.{FitsTable}
use Rattle.nam_catalog.proofs.FitsLemmas.{fits_limits}
use Rattle.nam_script.specs.declared.script.ScriptTxn.{ScriptTxn}
use Rattle.nam_script.specs.declared.script.Script.{Script}
use Rattle.nam_script.specs.Checks.{rows_in, op_cost, ops_cost, txns_cost}
use Rattle.nam_script.specs.Limits.{RowFits, TxnFits, IsScript}
use Rattle.namdb.specs.InRange.{TxnInRange, IsInRange}
use Rattle.namdb.specs.Few.{ops_count, HasFew}
use Rattle.namdb.proofs.NamedLemmas.{few_limits}

txns_in_range : (workers : ℕ) (tables : List Table) (txns : List ScriptTxn)
    → AllByRecursion (TxnFits workers tables) txns → AllByRecursion (TxnInRange workers (widths_of tables)) txns
txns_in_range workers tables [] fit = tt
txns_in_range workers tables (x ∷ xs) fit = (
  record { worker = fit.0.worker; few = omega (arith, fit.0.ops.few); ops = fit.0.ops.fit },
  txns_in_range workers tables xs fit.1,
)

pub in_range : (script : Script) → IsScript script → IsInRange script
in_range script is =
    let limits = fits_limits script.shape is.shape in
    record {
      workers = (limits.least_workers, limits.most_workers);
      tries = is.tries.0;
      start = limits.start;
      rows = is.rows.fit;
      few = omega (arith, is.few);
      txns = txns_in_range script.shape.workers script.shape.tables script.txns is.txns;
    }

-- ---- rows: no more than the tables have words

-- the rows of tables that are numbered from k on
abbrev rows_from : List Row → ℕ → List Table → ℕ
rows_from rs k [] = 0
rows_from rs k (t ∷ ts) = rows_in rs k + rows_from rs (suc k) ts

module _ (r : Row) (rs : List Row) where
  more : (k : ℕ) (ts : List Table) → rows_from rs k ts ≤ rows_from (r ∷ rs) k ts
  more k [] = omega arith
  more k (t ∷ ts) = omega (arith, more (suc k) ts)

  one_more : (k : ℕ) (ts : List Table) → k ≤ r.table → r.table < k + length ts
      → suc (rows_from rs k ts) ≤ rows_from (r ∷ rs) k ts
  one_more k [] from to = absurd (omega arith)
  one_more k (t ∷ ts) from to =
      elim (cases_eq r.table k) [
        | inl here ↦ rw (eq-eqb r.table k here) (omega (arith, more (suc k) ts))
        | inr there ↦ omega (arith, one_more (suc k) ts (omega (arith, there)) (omega arith))
      ]

counted : (tables : List Table) (rs : List Row) → AllByRecursion (λ r. r.table < length tables) rs
    → length rs ≤ rows_from rs 0 tables
counted tables [] fit = omega arith
counted tables (r ∷ rs) fit =
    omega (
      arith,
      counted tables rs fit.1,
      one_more r rs 0 tables (omega arith) (let below = fit.0 in
          omega (arith, below)),
    )

loaded_words : (rs : List Row) (k : ℕ) (ts : List Table)
    → ((i : ℕ) → i < length ts → rows_in rs (k + i) ≤ slice_index (capacities_of ts) i)
    → rows_from rs k ts ≤ tables_words ts
loaded_words rs k [] h = omega arith
loaded_words rs k (t ∷ ts) h =
    let here = h 0 (omega arith) in
    let at : k + 0 ≡ k = omega arith in
    let first = ap (rows_in rs) at in
    let rest = loaded_words rs (suc k) ts (λ i lt. let on : suc k + i ≡ k + suc i = omega arith in
    rw on (h (suc i) (omega arith))) in
    omega (arith, here, first, rest, least t.capacity (t.ring * (2 + t.width) + t.width))
  where
    least : (n m : ℕ) → n ≤ n * (3 + m)
    least n m = omega arith

-- ---- operations: no more than they cost

operations_cost : (tables : List Table) (ops : List Op)
    → ((i : ℕ) → i < length tables → 1 ≤ slice_index (capacities_of tables) i)
    → AllByRecursion (OpFits (widths_of tables)) ops → length ops ≤ ops_cost (capacities_of tables) ops
operations_cost tables [] some fit = omega arith
operations_cost tables (op ∷ ops) some fit = omega (arith, one op fit.0, operations_cost tables ops some fit.1)
  where
    one : (op : Op) → OpFits (widths_of tables) op → 1 ≤ op_cost (capacities_of tables) op
    one (Scan t low high) f = some t (omega (arith, f.0, length-map tables (λ x. x.width)))
    one (Get t k) f = omega arith
    one (Put t k v) f = omega arith
    one (Add t k g up by) f = omega arith
    one (Del t k) f = omega arith
    one (Need t k g least) f = omega arith
    one (Guard t k) f = omega arith

transactions_cost : (workers : ℕ) (tables : List Table) (txns : List ScriptTxn)
    → ((i : ℕ) → i < length tables → 1 ≤ slice_index (capacities_of tables) i)
    → AllByRecursion (TxnFits workers tables) txns → ops_count txns ≤ txns_cost (capacities_of tables) txns
transactions_cost workers tables [] some fit = omega arith
transactions_cost workers tables (x ∷ xs) some fit =
    omega (arith, operations_cost tables x.ops some fit.0.ops.fit, transactions_cost workers tables xs some fit.1)

short_txns : (workers : ℕ) (tables : List Table) (txns : List ScriptTxn) → AllByRecursion (TxnFits workers tables) txns
    → AllByRecursion (λ x. length x.ops ≤ 32) txns
short_txns workers tables [] fit = tt
short_txns workers tables (x ∷ xs) fit = (fit.0.ops.few, short_txns workers tables xs fit.1)

some_capacity : (tables : List Table) → AllByRecursion FitsTable tables → (i : ℕ) → i < length tables
    → 1 ≤ slice_index (capacities_of tables) i
some_capacity [] fit i lt = absurd (omega arith)
some_capacity (t ∷ ts) fit zero lt = fit.0.least_capacity
some_capacity (t ∷ ts) fit (suc i) lt = some_capacity ts fit.1 i (omega arith)

row_tables : (tables : List Table) (rs : List Row) → AllByRecursion (RowFits (widths_of tables)) rs
    → AllByRecursion (λ r. r.table < length tables) rs
row_tables tables [] fit = tt
row_tables tables (r ∷ rs) fit =
    (omega (arith, fit.0.0.0, length-map tables (λ x. x.width)), row_tables tables rs fit.1)

pub reads_few : (script : Script) → IsScript script → HasFew script
reads_few script is =
    let limits = fits_limits script.shape is.shape in
    let tables = script.shape.tables in
    let rows = counted tables script.rows (row_tables tables script.rows is.rows.fit) in
    let words = loaded_words script.rows 0 tables (λ i lt. let same : 0 + i ≡ i = omega arith in
    rw same (is.rows.loaded i lt)) in
    let some = some_capacity tables (recursion_from_All FitsTable tables limits.tables) in
    let cost = transactions_cost script.shape.workers tables script.txns some is.txns in
    few_limits script (omega (arith, rows, words, limits.words)) (omega (arith, cost, is.cost))
    (short_txns script.shape.workers tables script.txns is.txns)
