use Rattle.std.proofs.Common.{◌≡◌, drop}
use Rattle.nam_protocol.specs.Commit.{record_in}
use Rattle.nam_commit.proofs.asking.record_in.Given as goal

abbrev pub invariant-loop-claim : goal.invariant-loop-claim
invariant-loop-claim l = record_in (drop l.claim-index l.claims) l.key ≡ record_in l.claims l.key
