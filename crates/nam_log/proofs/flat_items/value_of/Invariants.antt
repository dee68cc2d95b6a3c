use Rattle.std.proofs.Common.{◌≡◌, ◌≤◌, length, take}
use Rattle.nam_log.proofs.flat_items.value_of.Given as goal

abbrev pub invariant-loop-word : goal.invariant-loop-word
invariant-loop-word l = (l.value ≡ take l.word-index l.words) × (length l.words ≤ 8)
