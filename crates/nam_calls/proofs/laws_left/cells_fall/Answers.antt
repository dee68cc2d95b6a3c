use Rattle.nam_calls.proofs.FallsCells.{cell_falls, claim_falls, fill_falls, move_falls}
use Rattle.nam_calls.proofs.FallsRead.{collect_falls, old_falls}
use Rattle.nam_calls.proofs.laws_left.cells_fall.Goals as goal

pub returns-clause-search : goal.returns-clause-search
returns-clause-search c = cell_falls

pub returns-clause-claim : goal.returns-clause-claim
returns-clause-claim c = claim_falls

pub returns-clause-fill : goal.returns-clause-fill
returns-clause-fill c = fill_falls

pub returns-clause-moves : goal.returns-clause-moves
returns-clause-moves c = move_falls

pub returns-clause-collect : goal.returns-clause-collect
returns-clause-collect c = collect_falls

pub returns-clause-old : goal.returns-clause-old
returns-clause-old c = old_falls
