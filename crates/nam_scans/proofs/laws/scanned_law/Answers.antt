use Rattle.nam_scans.proofs.FindsLemmas.{finds_law}
use Rattle.nam_scans.proofs.RepeatLemmas.{stays_law}
use Rattle.nam_scans.proofs.ScannedLemmas.{complete_law, items_law}
use Rattle.nam_scans.proofs.laws.scanned_law.Goals as goal

pub returns-clause-finds : goal.returns-clause-finds
returns-clause-finds c = finds_law

pub returns-clause-stays : goal.returns-clause-stays
returns-clause-stays c = stays_law

pub returns-clause-complete : goal.returns-clause-complete
returns-clause-complete c = complete_law

pub returns-clause-items : goal.returns-clause-items
returns-clause-items c = items_law
