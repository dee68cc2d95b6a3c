use Rattle.nam_law.proofs.AnswersLemmas.{answers_law}
use Rattle.nam_law.proofs.EndsLemmas.{locked_tells, newer_tells, scan_lists}
use Rattle.nam_law.proofs.laws.answers_law.Goals as goal

pub returns-clause-value : goal.returns-clause-value
returns-clause-value c = answers_law

pub returns-clause-scan : goal.returns-clause-scan
returns-clause-scan c = scan_lists

pub returns-clause-newer : goal.returns-clause-newer
returns-clause-newer c = newer_tells

pub returns-clause-locked : goal.returns-clause-locked
returns-clause-locked c = locked_tells
