use Rattle.std.proofs.Common.{◌≡◌, ◌<◌, ◌+◌, ◌∷◌, length, drop, take, ap, sym, ◌∙◌, arith}
use Rattle.std.proofs.Math.Path.{fun_ext}
use Rattle.std.proofs.lemmas.List.{drop_more}
use Rattle.si_model.specs.Committed.{rows_held}
use Rattle.si_model.specs.Rows.{overlay}
use Rattle.si_model.specs.State.{state_at}
use Rattle.si_model.proofs.committed.committed_at.Goals as goal

pub loop-line-init : goal.loop-line-init
loop-line-init c = ap (λ rows. state_at rows (take c.args.p c.args.history.now))
    (fun_ext (λ key. c.in_ok-committed.ensures key))

pub loop-line-preserved : goal.loop-line-preserved
loop-line-preserved c =
    let entries = take c.args.p c.args.history.now in
    let line = c.line-item.result in
    let rest = drop (c.loop-line.line-index + 1) entries in
    let within : c.loop-line.line-index < length entries = omega arith in
    let one : drop c.loop-line.line-index entries ≡ line ∷ rest =
    drop_more entries c.loop-line.line-index line within ∙ ap (λ e. e ∷ rest) (sym c.line-item.is) in
    let over : rows_held c.write.new.self ≡ overlay line.writes (rows_held c.loop-line.committed) =
    fun_ext (λ key. c.in_ok-write.ensures key
    ∙ ap (λ ws. overlay ws (rows_held c.loop-line.committed) key) c.as_slice.ensures) in
    ap (λ rows. state_at rows rest) over ∙ ap (state_at (rows_held c.loop-line.committed)) (sym one)
    ∙ c.loop-line.invariant
