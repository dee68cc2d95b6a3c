use Rattle.std.proofs.Common.{◌≡◌, ◌++◌, map}
use Rattle.std.specs.Prelude.{All}
use Rattle.std.specs.Vec.Iter.{into_iter_items}
use Rattle.std.specs.List.{AllByRecursion}
use Rattle.nam_protocol.specs.Session.{session_log}
use Rattle.nam_protocol.specs.World.{HasNoVerb}
use Rattle.nam_core.proofs.world.logs_of.Given as goal

abbrev pub invariant-loop-session : goal.invariant-loop-session
invariant-loop-session g l = record {
  of : All (g.S.Runs.IsOf l.layout) (into_iter_items l.session-iterator);
  ended : AllByRecursion (HasNoVerb l.layout) (map g.S.Runs.session (into_iter_items l.session-iterator));
  rest :
      l.logs
      ++ map (session_log l.layout) (map g.S.Runs.session (into_iter_items l.session-iterator))
      ≡ map (session_log l.layout) (map g.S.Runs.session l.fn.sessions.items);
}
