use Rattle.std.proofs.Common.{◌∙◌, ap, sym, Some}
use Rattle.nam_protocol.specs.Txn.{on_read}
use Rattle.nam_txn.proofs.ReadLemmas.{got_none}
use Rattle.nam_txn.proofs.registers.Registers.end_read.Goals as goal

pub returns-in-Absent-clause-value : goal.returns-in-Absent-clause-value
returns-in-Absent-clause-value c =
    let a = c.args.self.now in
    let none = got_none a.reader.state (c.requires.ended ∙ ap Some c.in-Absent.is) in
    c.know-in-Absent.ensures.value ∙ ap (on_read c.args.layout.now a.state a.op a.walk.position) (sym none)
