use Rattle.std.proofs.Common.{◌≡◌, subst}
use Rattle.std.proofs.Math.Path.{fun_ext}
use Rattle.std.specs.Prelude.{IfOk}
use Rattle.si_model.specs.Evaluation.{evaluation_of}
use Rattle.si_model.proofs.evaluation.eval.Goals as goal

pub returns : goal.returns
returns c =
    subst (λ rows. IfOk c.eval_on.result (λ e. e ≡ evaluation_of c.args.widths.now rows c.args.ops.now))
    (fun_ext (λ key. c.in_ok-rows.ensures key)) c.eval_on.ensures
