-- How many items an attempt may read.
use Rattle.std.specs.Prelude.{ℕ, ◌+◌, ◌^◌, ◌<◌, if◌then◌else◌, List, [], ◌∷◌, length}
use Rattle.std.specs.List.{AllByRecursion}
use Rattle.si_model.specs.declared.op.Op.{Op}
use Rattle.si_model.specs.EvaluationLaws.{is_scan}
use Rattle.nam_script.specs.declared.script.ScriptTxn.{ScriptTxn}
use Rattle.nam_script.specs.declared.script.Script.{Script}

-- the most items that an operation finds where n keys are named
abbrev pub found_most : ℕ → Op → ℕ
found_most n op = if is_scan op then n else 1

-- the most items that operations read
abbrev pub reads_most : ℕ → List Op → ℕ
reads_most n [] = 0
reads_most n (op ∷ ops) = found_most n op + reads_most n ops

-- how many operations the transactions have together
abbrev pub ops_count : List ScriptTxn → ℕ
ops_count [] = 0
ops_count (x ∷ xs) = length x.ops + ops_count xs

-- the items that an attempt reads are fewer than 2^32, even if each scan finds a row at every key that the script names
pub record HasFew (s : Script) : Type 0 where
  pub reads : AllByRecursion (λ x. reads_most (length s.rows + ops_count s.txns) x.ops < 2 ^ 32) s.txns
