use Rattle.std.proofs.Common.{ap, ◌∙◌, length}
use Rattle.nam_protocol.specs.Opening.{with_rows}
use Rattle.nam_protocol.proofs.BlankLemmas.{blank_law}
use Rattle.nam_core.proofs.opened.opening.Goals as goal

pub loop-row-init : goal.loop-row-init
loop-row-init c =
    let is = c.in_ok-words.ensures in
    record {
      long = ap length is ∙ (blank_law c.args.shape.now).whole;
      rest = ap (λ words. with_rows c.args.shape.now c.args.rows.now words) is;
    }
