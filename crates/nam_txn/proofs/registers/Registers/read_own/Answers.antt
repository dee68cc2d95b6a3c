use Rattle.std.proofs.Common.{◌∙◌}
use Rattle.si_model.specs.Evaluation.{op_key}
use Rattle.nam_txn.proofs.OwnLemmas.{is_written, own_found, own_read_wide, own_steps}
use Rattle.nam_txn.proofs.registers.Registers.read_own.Goals as goal

pub do_own-requires-clause-own : goal.do_own-requires-clause-own
do_own-requires-clause-own c =
    let a = c.args.self.now in
    is_written a.state.writes (op_key a.op) c.args.place c.requires.place

pub do_own-requires-clause-wide : goal.do_own-requires-clause-wide
do_own-requires-clause-wide c =
    let a = c.args.self.now in
    let own = c.copy_value-own.ensures
    ∙ own_found a.state.writes (op_key a.op) c.args.place c.at.result.now c.requires.place c.at.ensures in
    rw c.read_of-self.ensures
    (own_read_wide c.args.layout.now a.state a.op c.requires.fits c.requires.stands a.width c.requires.width
    c.copy_value-own.result own)

pub returns-clause-value : goal.returns-clause-value
returns-clause-value c =
    let a = c.args.self.now in
    let own = c.copy_value-own.ensures
    ∙ own_found a.state.writes (op_key a.op) c.args.place c.at.result.now c.requires.place c.at.ensures in
    rw c.read_of-self.ensures at c.do_own.ensures.value
    ∙ own_steps c.args.layout.now a.state a.op c.copy_value-own.result own
