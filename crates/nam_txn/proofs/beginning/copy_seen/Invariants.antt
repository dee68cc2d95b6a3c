use Rattle.std.proofs.Common.{◌≡◌, ◌++◌, drop}
use Rattle.nam_txn.proofs.beginning.copy_seen.Given as goal

abbrev pub invariant-loop-entry : goal.invariant-loop-entry
invariant-loop-entry l = l.seen ++ drop l.entry-index l.entry-items ≡ l.fn.from
