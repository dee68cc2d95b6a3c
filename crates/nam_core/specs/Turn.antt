-- The turns of a world.
use Rattle.std.specs.Prelude.{List, map}
use Rattle.nam_core.specs.declared.turn.Turn.{Turn as CodeTurn}
use Rattle.nam_core.specs.declared.turn.Turn.TheVariants as code
use Rattle.nam_protocol.specs.World.{Turn, Step, Cut}

-- the turn that a value of the code is
abbrev pub turn_of : CodeTurn → Turn
turn_of (code.Step worker) = Step worker
turn_of (code.Cut worker) = Cut worker

abbrev pub turns_of : List CodeTurn → List Turn
turns_of turns = map turn_of turns
