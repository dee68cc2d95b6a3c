use Rattle.std.proofs.Common.{◌≡◌, ◌++◌}
use Rattle.std.specs.Vec.Iter.{into_iter_items}
use Rattle.namdb.specs.Serial.{audit_of}
use Rattle.namdb.proofs.serial.audit.Given as goal

-- the lines so far, and those of the rows to come
abbrev pub invariant-loop-row : goal.invariant-loop-row
invariant-loop-row l = l.audit ++ audit_of (into_iter_items l.row-iterator) ≡ audit_of l.fn.rows.items
