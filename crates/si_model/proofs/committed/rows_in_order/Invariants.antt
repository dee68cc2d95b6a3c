use Rattle.std.proofs.Common.{◌≡◌, ◌++◌}
use Rattle.std.specs.Prelude.{map}
use Rattle.si_model.proofs.HeldLemmas.{row_of}
use Rattle.si_model.proofs.committed.rows_in_order.Given as goal

-- with the rows of the entries that are left, all are there
abbrev pub invariant-loop-key : goal.invariant-loop-key
invariant-loop-key l = l.rows.items ++ map row_of l.key-iterator ≡ map row_of l.fn.held.entries
