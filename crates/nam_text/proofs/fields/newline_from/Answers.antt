use Rattle.nam_text.proofs.Newlines.{no_newline}
use Rattle.nam_text.proofs.fields.newline_from.Goals as goal

pub returns-else-at-text : goal.returns-else-at-text
returns-else-at-text c = no_newline c.args.text.now c.loop-at.at c.loop-at.invariant c.if-at-text.false
