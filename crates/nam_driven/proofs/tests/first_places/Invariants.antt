use Rattle.std.specs.Prelude.{All}
use Rattle.nam_layout.specs.PlaceFits.{FitsPlace}
use Rattle.nam_driven.proofs.tests.first_places.Given as goal

abbrev pub invariant-loop-position : goal.invariant-loop-position
invariant-loop-position l = All FitsPlace l.places
