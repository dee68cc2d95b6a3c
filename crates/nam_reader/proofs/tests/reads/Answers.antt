use Rattle.std.proofs.Common.{refl}
use Rattle.nam_reader.proofs.tests.reads.Goals as goal

pub take-requires-clause-stands : goal.take-requires-clause-stands
take-requires-clause-stands c = rw (← c.in_ok-verb.ensures.verb c.args.seen.now) refl
