use Rattle.std.proofs.Common.{ℕ, List, ◌∷◌, [], ◌++◌, ap, ◌∙◌}
use Rattle.nam_script.proofs.BankLemmas.{rows_step}
use Rattle.nam_script.proofs.banking.bank_rows.Goals as goal

pub loop-key-preserved : goal.loop-key-preserved
loop-key-preserved c =
    rows_step c.loop-key.rows c.push-in-loop-key.new.self c.loop-key.key c.push.new.self _
    (c.push.ensures ∙ ap (λ (v : List ℕ). v ++ 1000 ∷ []) c.new-value.ensures) c.in_ok-push.ensures.ok
    c.loop-key-test.true c.loop-key.invariant
