use Rattle.std.proofs.Common.{subst, sym}
use Rattle.nam_worker.proofs.asking.take_answer.Goals as goal

pub hand_answer-requires-clause-answers : goal.hand_answer-requires-clause-answers
hand_answer-requires-clause-answers c = c.requires.answers

pub settle-requires : goal.settle-requires
settle-requires c =
    let has = c.hand_answer.ensures.some c.if-hand_answer.true in
    c.requires.next has.end has.answered c.hand_answer.new.driver has.taken
