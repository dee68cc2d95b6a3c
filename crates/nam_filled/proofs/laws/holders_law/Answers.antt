use Rattle.nam_filled.proofs.CountLemmas.{alone_law, count_law, stays_law}
use Rattle.nam_filled.proofs.TakenLemmas.{movers_law}
use Rattle.nam_filled.proofs.laws.holders_law.Goals as goal

pub returns-clause-movers : goal.returns-clause-movers
returns-clause-movers c = movers_law

pub returns-clause-alone : goal.returns-clause-alone
returns-clause-alone c = alone_law

pub returns-clause-stays : goal.returns-clause-stays
returns-clause-stays c = stays_law

pub returns-clause-count : goal.returns-clause-count
returns-clause-count c = count_law
