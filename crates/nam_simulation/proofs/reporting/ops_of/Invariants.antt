use Rattle.std.proofs.Common.{◌≡◌, take, map}
use Rattle.nam_simulation.proofs.reporting.ops_of.Given as goal

abbrev pub invariant-loop-txn : goal.invariant-loop-txn
invariant-loop-txn l = map (λ job. job.items) l.jobs.items ≡ map (λ txn. txn.ops) (take l.txn-index l.script.txns)
