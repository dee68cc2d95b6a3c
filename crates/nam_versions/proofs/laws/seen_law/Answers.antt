use Rattle.nam_versions.proofs.SeenLemmas.{seen_front, seen_same, seen_whole}
use Rattle.nam_versions.proofs.laws.seen_law.Goals as goal

pub returns-clause-front : goal.returns-clause-front
returns-clause-front c = seen_front

pub returns-clause-stays : goal.returns-clause-stays
returns-clause-stays c = seen_same

pub returns-clause-whole : goal.returns-clause-whole
returns-clause-whole c = seen_whole
