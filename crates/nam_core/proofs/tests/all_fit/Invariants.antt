use Rattle.std.specs.List.{AllWithin}
use Rattle.nam_core.specs.Opening.{FitsRow}
use Rattle.nam_core.proofs.tests.all_fit.Given as goal

abbrev pub invariant-loop-row : goal.invariant-loop-row
invariant-loop-row l = AllWithin (FitsRow l.shape) l.rows 0 l.row-index
