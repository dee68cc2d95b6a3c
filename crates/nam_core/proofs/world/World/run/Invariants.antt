use Rattle.std.proofs.Common.{◌≡◌, drop}
use Rattle.nam_protocol.specs.World.{after_turns}
use Rattle.nam_core.specs.Turn.{turns_of}
use Rattle.nam_core.proofs.world.World.run.Given as goal

abbrev pub invariant-loop-turn : goal.invariant-loop-turn
invariant-loop-turn g l = record {
  shape : l.self.shape ≡ l.fn.self.shape;
  rest :
      after_turns l.fn.self.shape l.self.world (turns_of (drop l.turn-index l.turns))
      ≡ after_turns l.fn.self.shape l.fn.self.world (turns_of l.turns);
}
