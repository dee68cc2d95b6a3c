use Rattle.std.proofs.Common.{◌∙◌, sym}
use Rattle.nam_txn.proofs.OwnLemmas.{is_written, not_written, asks_own, asks_verbs}
use Rattle.nam_txn.proofs.registers.Registers.begin_op.Goals as goal

pub returns-in-Some-clause-value : goal.returns-in-Some-clause-value
returns-in-Some-clause-value c =
    let a = c.args.self.now in
    let some = rw (c.as_slice.ensures.value, c.key-key.ensures, c.in-Some.is) at c.place_written.ensures.place in
    c.read_own.ensures.value
    ∙ asks_own c.args.layout.now a.state a.op (is_written a.state.writes _ c.in-Some.place (sym some))

pub returns-in-None-clause-value : goal.returns-in-None-clause-value
returns-in-None-clause-value c =
    let a = c.args.self.now in
    let none = rw (c.as_slice.ensures.value, c.key-key.ensures, c.in-None.is) at c.place_written.ensures.place in
    c.begin_verbs.ensures.value
    ∙ asks_verbs c.args.layout.now a.state a.op (not_written a.state.writes _ (sym none))
