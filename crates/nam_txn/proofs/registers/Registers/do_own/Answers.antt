use Rattle.nam_txn.proofs.RunLemmas.{own_writes_room, own_guards_room}
use Rattle.nam_txn.proofs.registers.Registers.do_own.Goals as goal

pub change-requires-clause-writes : goal.change-requires-clause-writes
change-requires-clause-writes c =
    own_writes_room c.args.layout.now c.args.self.now c.requires.fits c.requires.stands c.requires.width c.requires.own
    c.requires.wide

pub change-requires-clause-guards : goal.change-requires-clause-guards
change-requires-clause-guards c =
    own_guards_room c.args.layout.now c.args.self.now c.requires.fits c.requires.stands c.requires.width c.requires.own
    c.requires.wide
