use Rattle.nam_mover.proofs.ClaimedLemmas.{claimed_is, is_claimed}
use Rattle.nam_mover.proofs.laws.claimed_law.Goals as goal

pub returns : goal.returns
returns c place cells fits room words stamp = (
  claimed_is place cells room words stamp,
  is_claimed place cells room
      words stamp,
)
