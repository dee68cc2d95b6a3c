use Rattle.std.proofs.Common.{◌≡◌, take}
use Rattle.nam_core.proofs.world.words_of.Given as goal

abbrev pub invariant-loop-at : goal.invariant-loop-at
invariant-loop-at l = record { same : l.region ≡ l.fn.region; words : l.words.items ≡ take l.at l.fn.region }
