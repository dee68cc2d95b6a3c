-- A step that takes no lock tells none: its teller is as it was, but for an answer.
use Rattle.std.proofs.Common.{List, [], ap, append-nil, length, ℕ, ◌∙◌, ◌≡◌}
use Rattle.std.proofs.Math.Seq.{drop-length}
use Rattle.si_model.specs.declared.log.Lock.{Lock}
use Rattle.nam_protocol.specs.Telling.{locks_from, new_locks}
use Rattle.nam_protocol.specs.Txn.{Stepped}
use Rattle.nam_protocol.specs.TxnCalls.{taken_now}
use Rattle.nam_protocol.specs.declared.client.Open.{Open}
use Rattle.nam_tells.specs.Steps.{locking, told_call, told_stepped}
use Rattle.nam_tells.specs.Teller.{Teller}

pub no_locks : (teller : Teller) → locking teller [] ≡ teller
no_locks teller = ap (λ (locks : List Lock). record teller { locks = locks }) (append-nil teller.locks)

pub quiet_told : (teller : Teller) (attempt : Open) (step : Stepped) (held : List ℕ)
    → taken_now step.state step.call ≡ held
    → told_stepped teller attempt (length held) step
    ≡ told_call teller (record attempt { state = step.state }) step.call
quiet_told teller attempt step held same =
    let opened = record attempt { state = step.state } in
    ap (λ (headers : List ℕ).
    told_call (locking teller (new_locks step.state (length held) headers)) opened step.call) same
    ∙ ap (λ (headers : List ℕ).
    told_call (locking teller (locks_from step.state (length held) headers)) opened step.call) (drop-length held)
    ∙ ap (λ (t : Teller). told_call t opened step.call) (no_locks teller)
