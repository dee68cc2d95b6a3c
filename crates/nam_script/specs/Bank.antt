-- The script of a bank, by the generator's rule.
use Rattle.std.specs.Prelude.{ℕ, zero, suc, ◌+◌, ◌%◌, true, false, List, [], ◌∷◌, codes}
use Rattle.si_model.specs.declared.row.Row.{Row}
use Rattle.si_model.specs.declared.op.Op.{Op}
use Rattle.si_model.specs.declared.op.Op.TheVariants.{Need, Add}
use Rattle.si_model.specs.Generator.{next_state, pick}
use Rattle.nam_catalog.specs.declared.form.Form.TheVariants.{Narrow}
use Rattle.nam_catalog.specs.declared.shape.Shape.{Shape}
use Rattle.nam_script.specs.declared.script.ScriptTxn.{ScriptTxn}
use Rattle.nam_script.specs.declared.script.Script.{Script}
use Rattle.nam_script.specs.declared.script.Turns.TheVariants as turns

-- an amount from one account to another, where there is as much
abbrev pub bank_ops : ℕ → ℕ → ℕ → List Op
bank_ops from to amount = Need 0 from 1 amount ∷ Add 0 from 1 false amount ∷ Add 0 to 1 true amount ∷ []

-- the account, the way to the other and the amount are picked in this order
abbrev pub bank_txn : ℕ → ℕ → ScriptTxn
bank_txn place x =
    let first = next_state x in
    let second = next_state first in
    let third = next_state second in
    let from = pick first 16 in
    record { worker = 1 + place % 4; ops = bank_ops from ((from + 1 + pick second 15) % 16) (1 + pick third 100) }

abbrev pub state_after : ℕ → ℕ
state_after x = next_state (next_state (next_state x))

-- so many transactions from a place on
abbrev pub bank_txns : ℕ → ℕ → ℕ → List ScriptTxn
bank_txns place zero x = []
bank_txns place (suc n) x = bank_txn place x ∷ bank_txns (place + 1) n (state_after x)

-- so many accounts from a key on
abbrev pub rows_from : ℕ → ℕ → List Row
rows_from key zero = []
rows_from key (suc n) = record { table = 0; key = key; value = 1000 ∷ [] } ∷ rows_from (key + 1) n

abbrev pub bank_shape : Shape
bank_shape = record {
  form = Narrow;
  workers = 4;
  tables = record { name = codes "acct"; width = 1; capacity = 16; ring = 4 } ∷ [];
  buckets = 4;
  cells = 64;
  start = 0;
}

-- the bank of a seed, with so many transactions
abbrev pub bank_of : ℕ → ℕ → Script
bank_of seed size = record {
  shape = bank_shape;
  policy = record { tries = 16; tidy = true };
  rows = rows_from 0 16;
  txns = bank_txns 0 size seed;
  turns = turns.List [];
}
