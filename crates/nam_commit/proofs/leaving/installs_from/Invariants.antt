use Rattle.std.proofs.Common.{◌≡◌, ◌≤◌, ◌+◌, ◌*◌}
use Rattle.nam_protocol.specs.Bound.{installs_most, written_from}
use Rattle.nam_commit.proofs.leaving.installs_from.Given as goal

abbrev pub invariant-loop-nth : goal.invariant-loop-nth
invariant-loop-nth l = record {
  sum : l.total + installs_most (written_from l.state l.nth) ≡ installs_most (written_from l.state l.from);
  few : l.total ≤ 29 * l.nth;
}
