use Rattle.nam_follows.proofs.CutLemmas.{cut_followed, ended_followed}
use Rattle.nam_follows.proofs.laws.followed_law.Goals as goal

pub returns-clause-cut : goal.returns-clause-cut
returns-clause-cut c = cut_followed

pub returns-clause-ended : goal.returns-clause-ended
returns-clause-ended c = ended_followed
