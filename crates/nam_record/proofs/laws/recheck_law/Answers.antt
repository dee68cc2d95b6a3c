use Rattle.nam_record.proofs.RecordLemmas.{look_tells, told_look}
use Rattle.nam_record.proofs.laws.recheck_law.Goals as goal

pub returns : goal.returns
returns c = λ place header steps same. (look_tells place header steps same, told_look place header steps same)
