use Rattle.std.proofs.Common.{◌≡◌, drop, take}
use Rattle.si_model.specs.Committed.{rows_held}
use Rattle.si_model.specs.Rows.{rows_of}
use Rattle.si_model.specs.State.{state_at}
use Rattle.si_model.proofs.committed.committed_at.Given as goal

-- the entries from here on give what all give
abbrev pub invariant-loop-line : goal.invariant-loop-line
invariant-loop-line l = state_at (rows_held l.committed) (drop l.line-index (take l.p l.history))
    ≡ state_at (rows_of l.rows) (take l.p l.history)
