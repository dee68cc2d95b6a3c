use Rattle.std.proofs.Common.{◌≡◌, drop}
use Rattle.nam_script.specs.Checks.{place_from}
use Rattle.nam_script.proofs.checks.place_of.Given as goal

abbrev pub invariant-loop-place : goal.invariant-loop-place
invariant-loop-place l = place_from l.place (drop l.place l.tables) l.name ≡ place_from 0 l.tables l.name
