use Rattle.std.proofs.Common.{◌≡◌, take, sym, subst}
use Rattle.std.specs.Prelude.{IfOk}
use Rattle.si_model.specs.Rows.{rows_of}
use Rattle.si_model.specs.Evaluation.{evaluation_of, AreWide}
use Rattle.si_model.proofs.EvaluationLemmas.{AreWide-state_at}
use Rattle.si_model.proofs.LegalLemmas.{All-take}
use Rattle.si_model.proofs.legal.evaluated_at.Goals as goal

pub eval_on-requires-clause-wide : goal.eval_on-requires-clause-wide
eval_on-requires-clause-wide c =
    subst (AreWide c.args.widths.now) (sym c.in_ok-seen.ensures)
    (AreWide-state_at c.args.widths.now (rows_of c.args.rows.now) (take c.args.prefix c.args.done.now)
    c.requires.wide (All-take _ c.args.prefix c.args.done.now c.requires.written))

pub returns : goal.returns
returns c =
    subst (λ rows. IfOk c.eval_on.result (λ e. e ≡ evaluation_of c.args.widths.now rows c.args.ops.now))
    c.in_ok-seen.ensures c.eval_on.ensures
