use Rattle.std.proofs.Common.{◌≡◌, map, drop}
use Rattle.nam_core.specs.World.{are_live}
use Rattle.nam_core.proofs.world.are_live.Given as goal

-- what is to come tells of all
abbrev pub invariant-loop-session : goal.invariant-loop-session
invariant-loop-session g l =
    are_live l.layout (map g.S.Runs.session (drop l.session-index l.sessions))
    ≡ are_live l.layout (map g.S.Runs.session l.sessions)
