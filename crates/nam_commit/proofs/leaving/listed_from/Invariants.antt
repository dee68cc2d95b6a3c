use Rattle.std.proofs.Common.{◌≡◌, ◌≤◌, ◌+◌, ◌*◌}
use Rattle.nam_protocol.specs.Bound.{listed_from}
use Rattle.nam_commit.proofs.leaving.listed_from.Given as goal

abbrev pub invariant-loop-nth : goal.invariant-loop-nth
invariant-loop-nth l = record {
  sum : l.total + listed_from l.state l.nth ≡ listed_from l.state l.from;
  few : l.total ≤ 10 * l.nth;
}
