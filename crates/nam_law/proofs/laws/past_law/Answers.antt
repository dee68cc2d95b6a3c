use Rattle.nam_law.proofs.SnapshotsLemmas.{all_law, contains_law, moment_law, past_law, sum_law}
use Rattle.nam_law.proofs.laws.past_law.Goals as goal

pub returns-clause-reached : goal.returns-clause-reached
returns-clause-reached c = past_law

pub returns-clause-moment : goal.returns-clause-moment
returns-clause-moment c = moment_law

pub returns-clause-contains : goal.returns-clause-contains
returns-clause-contains c = contains_law

pub returns-clause-all : goal.returns-clause-all
returns-clause-all c = all_law

pub returns-clause-sum : goal.returns-clause-sum
returns-clause-sum c = sum_law
