use Rattle.std.proofs.Common.{◌≡◌, drop}
use Rattle.si_model.specs.Rows.{writes_key}
use Rattle.nam_commit.proofs.asking.writes_key.Given as goal

abbrev pub invariant-loop-item : goal.invariant-loop-item
invariant-loop-item l = writes_key (drop l.item-index l.writes) l.key ≡ writes_key l.writes l.key
