use Rattle.nam_client.proofs.KeptLemmas.{begin_workers, word_fresh}
use Rattle.nam_client.proofs.calls.take_word.Goals as goal

pub returns-in-Moving-clause-hand : goal.returns-in-Moving-clause-hand
returns-in-Moving-clause-hand c = c.take_move.ensures.hand c.args.layout.now c.requires.of.hand

pub returns-in-Beginning-clause-txn : goal.returns-in-Beginning-clause-txn
returns-in-Beginning-clause-txn c =
    let shape = c.args.layout.now in
    let a = c.args.a.now in
    let workers = begin_workers shape a c.requires.of c.requires.stands c.in-Beginning.txn c.in-Beginning.nth
    c.in-Beginning.is in
    word_fresh shape a c.take_begin.new.a c.requires.of c.args.found c.requires.stands
    (c.take_begin.ensures.client shape workers) c.take_begin.ensures.txn

pub returns-in-Beginning-clause-hand : goal.returns-in-Beginning-clause-hand
returns-in-Beginning-clause-hand c =
    c.take_begin.ensures.hand c.args.layout.now
    (begin_workers c.args.layout.now c.args.a.now c.requires.of c.requires.stands c.in-Beginning.txn
    c.in-Beginning.nth c.in-Beginning.is)

pub returns-in-Collecting-clause-hand : goal.returns-in-Collecting-clause-hand
returns-in-Collecting-clause-hand c = c.take_collect.ensures.hand c.args.layout.now c.requires.of.hand
