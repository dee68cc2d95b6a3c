use Rattle.nam_report.proofs.TextLemmas.{text_tells}
use Rattle.nam_report.proofs.laws.text_law.Goals as goal

pub returns : goal.returns
returns c = text_tells
