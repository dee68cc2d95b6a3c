use Rattle.nam_protocol.proofs.GivesCommit.{commit_gives}
use Rattle.nam_protocol.proofs.laws_few.commit_gives.Goals as goal

pub returns : goal.returns
returns c = commit_gives
