-- What the serial run needs of a script: its numbers are in range.
use Rattle.std.specs.Prelude.{ℕ, ◌^◌, ◌<◌, ◌≤◌, List, length}
use Rattle.std.specs.List.{AllByRecursion}
use Rattle.si_model.specs.Evaluation.{OpFits}
use Rattle.nam_catalog.specs.Greatest.{greatest_number}
use Rattle.nam_catalog.specs.Tables.{widths_of}
use Rattle.nam_script.specs.declared.script.ScriptTxn.{ScriptTxn}
use Rattle.nam_script.specs.declared.script.Script.{Script}
use Rattle.nam_script.specs.Limits.{RowFits}

-- the transaction is of one of the workers, and its operations fit the tables
pub record TxnInRange (workers : ℕ) (widths : List ℕ) (x : ScriptTxn) : Type 0 where
  pub worker : (1 ≤ x.worker) × (x.worker ≤ workers)
  pub few : length x.ops < 2 ^ 32
  pub ops : AllByRecursion (OpFits widths) x.ops

-- the numbers of the script are in range
pub record IsInRange (s : Script) : Type 0 where
  pub workers : (1 ≤ s.shape.workers) × (s.shape.workers ≤ 16)
  pub tries : 1 ≤ s.policy.tries
  pub start : s.shape.start ≤ greatest_number s.shape.form
  pub rows : AllByRecursion (RowFits (widths_of s.shape.tables)) s.rows
  pub few : length s.txns < 2 ^ 32
  pub txns : AllByRecursion (TxnInRange s.shape.workers (widths_of s.shape.tables)) s.txns
