use Rattle.nam_reads.proofs.OpeningLemmas.{reads_open}
use Rattle.nam_reads.proofs.StoreLemmas.{reads_keep}
use Rattle.nam_reads.proofs.laws.reads_law.Goals as goal

pub returns-clause-opening : goal.returns-clause-opening
returns-clause-opening c = reads_open

pub returns-clause-step : goal.returns-clause-step
returns-clause-step c = reads_keep
