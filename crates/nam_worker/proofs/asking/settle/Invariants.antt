use Rattle.nam_worker.specs.Session.{asking}
use Rattle.nam_worker.proofs.AskingLemmas.{Settles}
use Rattle.nam_worker.proofs.SessionLemmas.{calls_left}
use Rattle.nam_worker.proofs.asking.settle.Given as goal

-- the calls that are left come to the same
abbrev pub invariant-loop-call : goal.invariant-loop-call
invariant-loop-call l = Settles l.layout l.jobs (asking l.fn.client l.fn.driver l.jobs) l.client l.driver

abbrev pub decreases-loop-call : goal.decreases-loop-call
decreases-loop-call l = calls_left l.layout l.jobs l.driver
