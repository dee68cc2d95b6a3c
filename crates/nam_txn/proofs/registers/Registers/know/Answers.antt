use Rattle.std.proofs.Common.{◌∙◌}
use Rattle.nam_protocol.specs.Operations.{read_of}
use Rattle.nam_txn.proofs.ValueLemmas.{known_again}
use Rattle.nam_txn.proofs.registers.Registers.know.Goals as goal

pub returns-clause-value : goal.returns-clause-value
returns-clause-value c =
    let a = c.args.self.now in
    rw c.read_of-self.ensures at c.decide.ensures.value
    ∙ known_again c.args.layout.now (record a.state { read = read_of a.op c.args.value }) a.op c.args.value
