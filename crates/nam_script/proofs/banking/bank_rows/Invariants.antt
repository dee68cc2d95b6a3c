use Rattle.std.proofs.Common.{◌≡◌, ◌-◌, ◌++◌}
use Rattle.nam_script.specs.Bank.{rows_from}
use Rattle.nam_script.proofs.banking.bank_rows.Given as goal

-- the accounts from here on are still to come
abbrev pub invariant-loop-key : goal.invariant-loop-key
invariant-loop-key l = l.rows ++ rows_from l.key (16 - l.key) ≡ rows_from 0 16
