use Rattle.std.proofs.Common.{◌≡◌, ◌-◌, ◌++◌}
use Rattle.nam_script.specs.Bank.{bank_txns}
use Rattle.nam_script.proofs.banking.bank_txns.Given as goal

-- the transactions from here on are still to come
abbrev pub invariant-loop-place : goal.invariant-loop-place
invariant-loop-place l = l.txns ++ bank_txns l.place (l.size - l.place) l.state ≡ bank_txns 0 l.size l.seed
