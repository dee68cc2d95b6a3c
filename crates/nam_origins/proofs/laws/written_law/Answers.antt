use Rattle.nam_origins.proofs.WrittenLemmas.{done_stays, each_written}
use Rattle.nam_origins.proofs.laws.written_law.Goals as goal

pub returns-clause-written : goal.returns-clause-written
returns-clause-written c = each_written

pub returns-clause-stays : goal.returns-clause-stays
returns-clause-stays c = done_stays
