use Rattle.std.proofs.Common.{◌≡◌, ◌<◌, ◌+◌, ◌∷◌, length, drop, MatchOption, sym, ap, subst, arith, ◌∙◌}
use Rattle.std.proofs.lemmas.List.{drop_more}
use Rattle.si_model.specs.Evaluation.{key_written, keys_from, written_keys}
use Rattle.nam_worker.proofs.KeysLemmas.{more_keys}
use Rattle.nam_worker.proofs.keys.written_keys.Goals as goal

pub returns-in_err-keys : goal.returns-in_err-keys
returns-in_err-keys c =
    let ops = c.args.ops.now in
    let keys = c.loop-op.keys in
    let op = c.op-item.result in
    let rest = drop (c.loop-op.op-index + 1) ops in
    let within : c.loop-op.op-index < length ops = omega arith in
    let here : drop c.loop-op.op-index ops ≡ op ∷ rest =
    drop_more ops c.loop-op.op-index op within ∙ ap (λ e. e ∷ rest) (sym c.op-item.is) in
    let named : key_written op ≡ _ = sym c.key_written.ensures ∙ c.in-Some.is in
    let all : keys_from key_written keys (op ∷ rest) ≡ written_keys ops =
    ap (keys_from key_written keys) (sym here) ∙ c.loop-op.invariant in
    let more = more_keys keys op c.in-Some.key rest named in
    let many : 16 < length (written_keys ops) =
    let first = c.in_err-keys.ensures in let same = ap length all in omega arith in
    subst (λ r. MatchOption r (16 < length (written_keys ops)) (λ ks. ks ≡ written_keys ops))
    (sym c.from_residual.ensures) many
