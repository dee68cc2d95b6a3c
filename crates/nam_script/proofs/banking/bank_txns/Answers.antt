use Rattle.std.proofs.Common.{ℕ, ap}
use Rattle.nam_script.specs.declared.script.ScriptTxn.{ScriptTxn}
use Rattle.nam_script.proofs.BankLemmas.{txns_step}
use Rattle.nam_script.proofs.banking.bank_txns.Goals as goal

pub loop-place-preserved : goal.loop-place-preserved
loop-place-preserved c =
    txns_step c.loop-place.txns c.push.new.self c.args.size c.loop-place.place c.loop-place.state c.in_ok-txn.txn
    c.in_ok-txn.next _
    (ap (λ (x : ScriptTxn × ℕ). x.0) c.in_ok-txn.ensures) (ap (λ (x : ScriptTxn × ℕ). x.1) c.in_ok-txn.ensures)
    c.in_ok-push.ensures.ok c.loop-place-test.true c.loop-place.invariant
