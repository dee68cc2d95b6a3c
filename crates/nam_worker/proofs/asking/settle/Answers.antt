use Rattle.std.proofs.Common.{ap, subst, sym, ◌∙◌}
use Rattle.nam_protocol.specs.declared.session.DriverState.{DriverState}
use Rattle.nam_worker.specs.Session.{HasRoomAfter, asking}
use Rattle.nam_worker.proofs.AskingLemmas.{answers, calls_fall, has_room, is_counted, may_be_asked, over_room}
use Rattle.nam_worker.proofs.AskingLemmas.{room_after, settled_here, settled_over, settles_first, settles_on}
use Rattle.nam_worker.proofs.AskingLemmas.{still_uncut, uncut_here, worker_here}
use Rattle.nam_worker.proofs.asking.settle.Goals as goal

pub loop-call-init : goal.loop-call-init
loop-call-init c = settles_first c.args.layout.now c.args.jobs.now c.args.client.now c.args.driver.now c.requires

pub ask-requires-clause-may : goal.ask-requires-clause-may
ask-requires-clause-may c =
    may_be_asked c.args.layout.now c.loop-call.client c.loop-call.driver c.args.jobs.now c.loop-call.invariant.can
    c.in-Some.call (sym c.next.ensures.call ∙ c.in-Some.is)

pub ask-requires-clause-room : goal.ask-requires-clause-room
ask-requires-clause-room c =
    has_room c.args.layout.now c.loop-call.client c.loop-call.driver c.args.jobs.now c.loop-call.invariant.can
    c.in-Some.call (sym c.next.ensures.call ∙ c.in-Some.is)

pub ask-requires-clause-counted : goal.ask-requires-clause-counted
ask-requires-clause-counted c =
    is_counted c.args.layout.now c.loop-call.client c.loop-call.driver c.args.jobs.now c.loop-call.invariant.can
    c.in-Some.call (sym c.next.ensures.call ∙ c.in-Some.is)

pub hand_answer-requires-clause-answers : goal.hand_answer-requires-clause-answers
hand_answer-requires-clause-answers c =
    answers c.args.layout.now c.loop-call.client c.loop-call.driver c.args.jobs.now c.loop-call.invariant.can
    c.in-Some.call (sym c.next.ensures.call ∙ c.in-Some.is) c.ask.new.self c.ask.ensures.client c.ask.ensures.spare

pub returns-then-not-hand_answer-clause-value : goal.returns-then-not-hand_answer-clause-value
returns-then-not-hand_answer-clause-value c =
    let none = c.hand_answer.ensures.none c.if-not-hand_answer.true in
    ap (λ (d : DriverState). asking c.ask.new.self d c.args.jobs.now) none.1
    ∙ settled_here c.args.layout.now c.args.jobs.now _ c.loop-call.client c.loop-call.driver c.loop-call.invariant
    c.in-Some.call (sym c.next.ensures.call ∙ c.in-Some.is) c.ask.new.self c.ask.ensures.client c.ask.ensures.spare
    none.0

pub returns-then-not-hand_answer-clause-room : goal.returns-then-not-hand_answer-clause-room
returns-then-not-hand_answer-clause-room c =
    let none = c.hand_answer.ensures.none c.if-not-hand_answer.true in
    subst (λ (d : DriverState). HasRoomAfter c.args.layout.now c.ask.new.self d c.args.jobs.now) (sym none.1)
    (room_after c.args.layout.now c.loop-call.client c.loop-call.driver c.args.jobs.now c.loop-call.invariant.can
    c.in-Some.call (sym c.next.ensures.call ∙ c.in-Some.is) c.ask.new.self c.ask.ensures.client c.ask.ensures.spare)

pub returns-then-not-hand_answer-clause-uncut : goal.returns-then-not-hand_answer-clause-uncut
returns-then-not-hand_answer-clause-uncut c =
    uncut_here c.args.layout.now c.args.jobs.now _ c.loop-call.client c.loop-call.driver c.loop-call.invariant
    c.in-Some.call (sym c.next.ensures.call ∙ c.in-Some.is) c.ask.new.self c.ask.ensures.client c.ask.ensures.spare

pub returns-then-not-hand_answer-clause-worker : goal.returns-then-not-hand_answer-clause-worker
returns-then-not-hand_answer-clause-worker c =
    worker_here c.args.layout.now c.args.jobs.now _ c.loop-call.client c.loop-call.driver c.loop-call.invariant
    c.in-Some.call (sym c.next.ensures.call ∙ c.in-Some.is) c.ask.new.self c.ask.ensures.client c.ask.ensures.spare

pub loop-call-smaller : goal.loop-call-smaller
loop-call-smaller c =
    let has = c.hand_answer.ensures.some c.if-not-hand_answer.false in
    calls_fall c.args.layout.now c.args.jobs.now _ c.loop-call.client c.loop-call.driver c.loop-call.invariant
    c.in-Some.call (sym c.next.ensures.call ∙ c.in-Some.is) c.ask.new.self c.ask.ensures.client c.ask.ensures.spare
    has.end has.answered c.hand_answer.new.driver has.taken

pub loop-call-preserved : goal.loop-call-preserved
loop-call-preserved c =
    let has = c.hand_answer.ensures.some c.if-not-hand_answer.false in
    settles_on c.args.layout.now c.args.jobs.now _ c.loop-call.client c.loop-call.driver c.loop-call.invariant
    c.in-Some.call (sym c.next.ensures.call ∙ c.in-Some.is) c.ask.new.self c.ask.ensures.client c.ask.ensures.spare
    has.end has.answered c.hand_answer.new.driver has.taken c.ask.ensures.of

pub returns-clause-value : goal.returns-clause-value
returns-clause-value c =
    settled_over c.args.layout.now c.args.jobs.now _ c.loop-call.client c.loop-call.driver c.loop-call.invariant
    (sym c.next.ensures.call ∙ c.in_default.is)

pub returns-clause-uncut : goal.returns-clause-uncut
returns-clause-uncut c =
    still_uncut c.args.layout.now c.args.jobs.now _ c.loop-call.client c.loop-call.driver c.loop-call.invariant

pub returns-clause-room : goal.returns-clause-room
returns-clause-room c =
    over_room c.args.layout.now c.args.jobs.now _ c.loop-call.client c.loop-call.driver c.loop-call.invariant
    (sym c.next.ensures.call ∙ c.in_default.is)
