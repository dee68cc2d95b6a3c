use Rattle.std.proofs.Common.{◌<◌, ◌≤◌, length}
use Rattle.std.specs.Prelude.{◌^◌}
use Rattle.si_model.specs.Committed.{rows_held}
use Rattle.si_model.specs.Evaluation.{evaluation_of, reads_of}
use Rattle.namdb.specs.Serial.{claims_of}
use Rattle.namdb.proofs.EvaluateLemmas.{claims_few, if_same}
use Rattle.namdb.proofs.evaluate.evaluate.Goals as goal

pub returns : goal.returns
returns c =
    let ops = c.args.ops.now in
    let widths = c.args.widths.now in
    let rows = rows_held c.args.rows.now in
    let value = c.eval_on.ensures in
    record {
      value = value;
      few_reads = if_same c.eval_on.result (evaluation_of widths rows ops) (λ e. length (reads_of e) < 2 ^ 32)
          c.requires.few value;
      few_keys = if_same c.eval_on.result (evaluation_of widths rows ops) (λ e. claims_of e ≤ length ops)
          (claims_few widths rows ops) value;
    }
