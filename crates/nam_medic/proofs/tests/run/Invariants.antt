use Rattle.std.proofs.Common.{ℕ}
use Rattle.nam_medic.specs.Medic.{Serves}
use Rattle.nam_medic.proofs.tests.run.Given as goal

-- the medic serves the layout
abbrev pub invariant-verbs : goal.invariant-verbs
invariant-verbs l = record { serves : Serves l.layout l.medic }

abbrev pub decreases-verbs : goal.decreases-verbs
decreases-verbs l = l.medic.left
