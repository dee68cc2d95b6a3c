use Rattle.nam_store.proofs.TurnLemmas.{world_turns}
use Rattle.nam_store.proofs.WorldOpens.{world_opens}
use Rattle.nam_store.proofs.laws.world_law.Goals as goal

pub returns-clause-opening : goal.returns-clause-opening
returns-clause-opening c = world_opens

pub returns-clause-turns : goal.returns-clause-turns
returns-clause-turns c = world_turns
