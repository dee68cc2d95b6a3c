use Rattle.std.proofs.Common.{map, arith}
use Rattle.std.specs.Prelude.{codes}
use Rattle.std.specs.Fmt.{decimal}
use Rattle.std.proofs.lemmas.Grind.{common_steps}
use Rattle.nam_text.specs.Spelling.{dash_fields, mark}
use Rattle.nam_text.proofs.KindLemmas.{behind_both}
use Rattle.nam_report.proofs.audit.push_row.Goals as goal

pub returns : goal.returns
returns c =
    let parts = behind_both (dash_fields (map decimal) c.args.row.now.value)
    (mark (codes "locked") c.args.row.now.locked) in
    grind (arith, common_steps, parts)
