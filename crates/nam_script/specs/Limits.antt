-- What a script is: what the bytes of its text can give, and no more.
use Rattle.std.specs.Prelude.{ℕ, ◌-◌, ◌^◌, ◌≡◌, ◌<◌, ◌≤◌, true, false, List, [], ◌∷◌, length, slice_index, None}
use Rattle.std.specs.List.{AllByRecursion}
use Rattle.si_model.specs.declared.row.Row.{Row}
use Rattle.si_model.specs.declared.op.Op.{Op}
use Rattle.si_model.specs.declared.op.Op.TheVariants.{Get, Put, Add, Del, Need, Guard, Scan}
use Rattle.si_model.specs.Rows.{same_key, row_key}
use Rattle.si_model.specs.Evaluation.{IsTable, OpFits, key_claimed, keys_from}
use Rattle.nam_catalog.specs.declared.bounds.TheConstants.{MOST_TABLES, MOST_TRIES, MOST_TXNS, MOST_TXN_OPS, MOST_OPS}
use Rattle.nam_catalog.specs.declared.bounds.TheConstants.{MOST_KEYS, MOST_TURNS, MOST_STEPS, MOST_PICKS}
use Rattle.nam_catalog.specs.declared.shape.Table.{Table}
use Rattle.nam_catalog.specs.Tables.{widths_of, capacities_of}
use Rattle.nam_catalog.specs.Limits.{fault_of}
use Rattle.nam_text.specs.Token.{is_name}
use Rattle.nam_script.specs.declared.script.ScriptTxn.{ScriptTxn}
use Rattle.nam_script.specs.declared.script.Stint.{Stint}
use Rattle.nam_script.specs.declared.script.Turns.{Turns}
use Rattle.nam_script.specs.declared.script.Turns.TheVariants as turns
use Rattle.nam_script.specs.declared.script.Script.{Script}
use Rattle.nam_script.specs.Checks.{rows_in, txns_cost, steps_of}
use Rattle.nam_script.specs.Admit.{is_held}

-- the table's name is spelt as a name
abbrev pub IsNamed : Table → Type 0
IsNamed t = is_name t.name ≡ true

-- a number of 64 bits
abbrev pub Fits64Bits : ℕ → Type 0
Fits64Bits n = n < 2 ^ 64

-- a key is at most 2^64 - 2
abbrev pub IsKey : ℕ → Type 0
IsKey k = k ≤ 2 ^ 64 - 2

-- the row is of a table, and has its width
abbrev pub RowFits : List ℕ → Row → Type 0
RowFits widths r = IsTable widths r.table × (length r.value ≡ slice_index widths r.table)

-- no two rows have one key
abbrev pub AreDistinct : List Row → Type 0
AreDistinct [] = Unit {0}
AreDistinct (r ∷ rs) = AllByRecursion (λ q. same_key (row_key r) (row_key q) ≡ false) rs × AreDistinct rs

-- the numbers of a row: its key and its words
abbrev pub RowNumbersFit : Row → Type 0
RowNumbersFit r = IsKey r.key × AllByRecursion Fits64Bits r.value

-- the loaded rows fit their tables, no table has more of them than its capacity, and no two have one key
pub record RowsFit (tables : List Table) (rows : List Row) : Type 0 where
  pub fit : AllByRecursion (RowFits (widths_of tables)) rows
  pub numbers : AllByRecursion RowNumbersFit rows
  pub distinct : AreDistinct rows
  pub loaded : (t : ℕ) → t < length tables → rows_in rows t ≤ slice_index (capacities_of tables) t

-- The numbers of an operation: its keys, those of a scan in order, and its words. A change by 0 goes up, since there is
-- no -0.
abbrev pub OpNumbersFit : Op → Type 0
OpNumbersFit (Get t k) = IsKey k
OpNumbersFit (Put t k v) = IsKey k × AllByRecursion Fits64Bits v
OpNumbersFit (Add t k f up by) = IsKey k × Fits64Bits by × (up ≡ false → 1 ≤ by)
OpNumbersFit (Del t k) = IsKey k
OpNumbersFit (Need t k f least) = IsKey k × Fits64Bits least
OpNumbersFit (Guard t k) = IsKey k
OpNumbersFit (Scan t low high) = (low ≤ high) × IsKey high

-- the operations of one transaction fit the tables, and are no more than one may have; nor are the keys that they write
-- or guard
pub record OpsFit (tables : List Table) (ops : List Op) : Type 0 where
  pub fit : AllByRecursion (OpFits (widths_of tables)) ops
  pub numbers : AllByRecursion OpNumbersFit ops
  pub few : length ops ≤ MOST_TXN_OPS
  pub claims : length (keys_from key_claimed [] ops) ≤ MOST_KEYS

-- the transaction is of one of the workers, and has operations that fit the tables
pub record TxnFits (workers : ℕ) (tables : List Table) (x : ScriptTxn) : Type 0 where
  pub worker : (1 ≤ x.worker) × (x.worker ≤ workers)
  pub some : 1 ≤ length x.ops
  pub ops : OpsFit tables x.ops

-- 1 to 1,000,000 turns of one of the workers
abbrev pub StintFits : ℕ → Stint → Type 0
StintFits workers s = (1 ≤ s.worker) × (s.worker ≤ workers) × (1 ≤ s.steps) × (s.steps ≤ MOST_STEPS)

-- 10,000,000 turns at the most, or 1,000,000 picks
abbrev pub TurnsFit : ℕ → Turns → Type 0
TurnsFit workers (turns.List stints) = AllByRecursion (StintFits workers) stints × (steps_of stints ≤ MOST_TURNS)
TurnsFit workers (turns.Seed seed picks) = Fits64Bits seed × (picks ≤ MOST_PICKS)

-- The script keeps to all limits, and its names and numbers can be spelt: just such a one is read from the bytes that
-- spell it. `fits_law` of nam_catalog says what it means that its shape has no fault. A scan counts as its table's
-- capacity of the operations in all.
pub record IsScript (s : Script) : Type 0 where
  pub shape : fault_of s.shape ≡ None
  pub form : is_held s.shape.form ≡ false
  pub few_tables : length s.shape.tables ≤ MOST_TABLES
  pub names : AllByRecursion IsNamed s.shape.tables
  pub tries : (1 ≤ s.policy.tries) × (s.policy.tries ≤ MOST_TRIES)
  pub rows : RowsFit s.shape.tables s.rows
  pub few : length s.txns ≤ MOST_TXNS
  pub txns : AllByRecursion (TxnFits s.shape.workers s.shape.tables) s.txns
  pub cost : txns_cost (capacities_of s.shape.tables) s.txns ≤ MOST_OPS
  pub turns : TurnsFit s.shape.workers s.turns
