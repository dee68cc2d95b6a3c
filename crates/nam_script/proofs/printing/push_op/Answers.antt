use Rattle.std.proofs.Common.{ap, arith}
use Rattle.std.proofs.lemmas.Grind.{common_steps}
use Rattle.nam_text.specs.Kinds.{behind_spaces}
use Rattle.nam_script.specs.Lines.{spelt_line}
use Rattle.nam_script.proofs.Wording.{numbers_are}
use Rattle.nam_script.proofs.printing.push_op.Goals as goal

pub returns-in_ok-write-in-Put-2 : goal.returns-in_ok-write-in-Put-2
unfolding spelt_line
returns-in_ok-write-in-Put-2 c =
    let words = ap behind_spaces (numbers_are c.in-Put.value) in
    grind (arith, common_steps, words)
