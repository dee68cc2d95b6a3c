use Rattle.nam_report.proofs.ArrangedLemmas.{are_arranged, has_published}
use Rattle.nam_report.proofs.laws.arranged_law.Goals as goal

pub returns-clause-arranged : goal.returns-clause-arranged
returns-clause-arranged c = are_arranged

pub returns-clause-published : goal.returns-clause-published
returns-clause-published c = has_published
