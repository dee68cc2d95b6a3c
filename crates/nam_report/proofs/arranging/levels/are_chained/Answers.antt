use Rattle.std.proofs.Common.{arith}
use Rattle.nam_report.proofs.LevelLemmas.{chain_from_near}
use Rattle.nam_report.proofs.arranging.levels.are_chained.Goals as goal

pub returns : goal.returns
returns c = λ _. chain_from_near c.args.snapshots.now (λ k d lt.
    c.loop-place.invariant k d (omega (arith, lt, c.loop-place-test.false, c.loop-place.auto.place-end)))
