use Rattle.nam_law.proofs.CountsLemmas.{counts_law, room_law}
use Rattle.nam_law.proofs.laws.counts_law.Goals as goal

pub returns-clause-counted : goal.returns-clause-counted
returns-clause-counted c = counts_law

pub returns-clause-room : goal.returns-clause-room
returns-clause-room c = room_law
