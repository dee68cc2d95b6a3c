use Rattle.std.proofs.Common.{◌≡◌, [], take, drop}
use Rattle.nam_catalog.specs.Limits.{first_twice_named}
use Rattle.nam_catalog.proofs.names.first_twice_named.Given as goal

abbrev pub invariant-loop-place : goal.invariant-loop-place
invariant-loop-place l =
    first_twice_named (take l.place l.tables) l.place (drop l.place l.tables) ≡ first_twice_named [] 0 l.tables
