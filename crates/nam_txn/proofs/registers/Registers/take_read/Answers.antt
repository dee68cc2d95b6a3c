use Rattle.nam_txn.proofs.ReadLemmas.{taken_wide}
use Rattle.nam_txn.proofs.registers.Registers.take_read.Goals as goal

pub end_read-requires-clause-wide : goal.end_read-requires-clause-wide
end_read-requires-clause-wide c =
    taken_wide c.args.layout.now c.args.self.now c.requires.runs c.requires.reads c.take.new.self c.args.found
    c.take.ensures.after
