use Rattle.std.proofs.Common.{◌≡◌, ◌≤◌, length, take}
use Rattle.nam_log.proofs.flat_snaps.snapshot_of.Given as goal

abbrev pub invariant-loop-word : goal.invariant-loop-word
invariant-loop-word l = (l.seen ≡ take l.word-index l.words) × (length l.words ≤ 16)
