use Rattle.nam_calls.proofs.FallsRead.{read_falls}
use Rattle.nam_calls.proofs.FallsTables.{sight_fits, read_figure}
use Rattle.nam_calls.proofs.laws_left.read_falls.Goals as goal

pub returns-clause-falls : goal.returns-clause-falls
returns-clause-falls c = read_falls

pub returns-clause-begins : goal.returns-clause-begins
returns-clause-begins c = λ shape limits table position is l.
    (sight_fits shape limits table position is l, read_figure shape limits table position is l)
