use Rattle.nam_law.proofs.SnapshotsLemmas.{front_law, installed_law, once_law, stamps_law, stays_law, whole_law}
use Rattle.nam_law.proofs.laws.snapshots_law.Goals as goal

pub returns-clause-front : goal.returns-clause-front
returns-clause-front c = front_law

pub returns-clause-stays : goal.returns-clause-stays
returns-clause-stays c = stays_law

pub returns-clause-whole : goal.returns-clause-whole
returns-clause-whole c = whole_law

pub returns-clause-installed : goal.returns-clause-installed
returns-clause-installed c = installed_law

pub returns-clause-stamps : goal.returns-clause-stamps
returns-clause-stamps c = stamps_law

pub returns-clause-once : goal.returns-clause-once
returns-clause-once c = once_law
