use Rattle.nam_reads.proofs.FoundLemmas.{never_astray, newest_got, too_old}
use Rattle.nam_reads.proofs.laws.found_law.Goals as goal

pub returns-clause-newest : goal.returns-clause-newest
returns-clause-newest c = newest_got

pub returns-clause-too_old : goal.returns-clause-too_old
returns-clause-too_old c = too_old

pub returns-clause-never_astray : goal.returns-clause-never_astray
returns-clause-never_astray c = never_astray
