use Rattle.nam_past.proofs.OrderLemmas.{stays_law}
use Rattle.nam_past.proofs.PrefixLemmas.{all_law, contains_law, moment_law, sum_law}
use Rattle.nam_past.proofs.laws.prefix_law.Goals as goal

pub returns-clause-moment : goal.returns-clause-moment
returns-clause-moment c = moment_law

pub returns-clause-stays : goal.returns-clause-stays
returns-clause-stays c = stays_law

pub returns-clause-contains : goal.returns-clause-contains
returns-clause-contains c = contains_law

pub returns-clause-all : goal.returns-clause-all
returns-clause-all c = all_law

pub returns-clause-sum : goal.returns-clause-sum
returns-clause-sum c = sum_law
