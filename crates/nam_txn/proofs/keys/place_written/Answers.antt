use Rattle.std.proofs.Common.{◌∙◌}
use Rattle.nam_txn.proofs.KeyLemmas.{first_is}
use Rattle.nam_txn.proofs.keys.place_written.Goals as goal

pub returns-clause-place : goal.returns-clause-place
returns-clause-place c = c.first_written.ensures.first ∙ first_is c.args.writes.now c.args.key
