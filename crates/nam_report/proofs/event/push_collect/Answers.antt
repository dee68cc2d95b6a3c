use Rattle.std.proofs.Common.{[], ◌∷◌, map, arith}
use Rattle.std.specs.Fmt.{decimal}
use Rattle.std.proofs.lemmas.Grind.{common_steps}
use Rattle.nam_text.proofs.KindLemmas.{behind_both}
use Rattle.nam_report.specs.Spelling.{collect_end_word}
use Rattle.nam_report.proofs.event.push_collect.Goals as goal

pub returns : goal.returns
returns c =
    let parts = behind_both (map decimal c.args.entries.now) (collect_end_word c.args.cut ∷ []) in
    grind (arith, common_steps, parts)
