use Rattle.std.specs.Prelude.{◌≡◌}
use Rattle.nam_reader.proofs.tests.reads.Given as goal

abbrev pub invariant-loop-address : goal.invariant-loop-address
invariant-loop-address l = l.reader.sight ≡ l.fn.reader.sight
