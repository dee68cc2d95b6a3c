use Rattle.std.proofs.Common.{sym, ◌∙◌}
use Rattle.nam_protocol.proofs.EndsSession.{some_of}
use Rattle.nam_client.specs.Registers.{client_of}
use Rattle.nam_worker.proofs.AskingLemmas.{may_take_answer, word_room, word_taken, word_uncut, word_worker_is}
use Rattle.nam_worker.proofs.asking.take_word.Goals as goal

pub take_answer-requires : goal.take_answer-requires
take_answer-requires c =
    let verb = some_of _ c.requires.stands in
    may_take_answer c.args.layout.now c.args.client.now c.args.driver.now c.args.jobs.now c.requires.of
    c.requires.occurs c.requires.room verb.0 verb.1 c.args.found c.take.new.self c.take.ensures.client
    c.take.ensures.spare c.requires.medic c.requires.jobs c.take.ensures.of

pub returns-then-is_none-clause-worker : goal.returns-then-is_none-clause-worker
returns-then-is_none-clause-worker c =
    let verb = some_of _ c.requires.stands in
    c.take_answer.ensures.worker
    ∙ word_worker_is c.args.layout.now c.args.client.now c.args.driver.now c.args.jobs.now c.requires.of
    c.requires.occurs c.requires.room verb.0 verb.1 c.args.found c.take.new.self c.take.ensures.client
    c.take.ensures.spare

pub returns-else-is_none-clause-room : goal.returns-else-is_none-clause-room
returns-else-is_none-clause-room c =
    let verb = some_of _ c.requires.stands in
    word_room c.args.layout.now c.args.client.now c.args.driver.now c.args.jobs.now c.requires.of c.requires.occurs
    c.requires.room verb.0 verb.1 c.args.found c.take.new.self c.take.ensures.client c.take.ensures.spare

pub returns-else-is_none-clause-uncut : goal.returns-else-is_none-clause-uncut
returns-else-is_none-clause-uncut c =
    let verb = some_of _ c.requires.stands in
    word_uncut c.args.layout.now c.args.client.now c.args.driver.now c.args.jobs.now c.requires.of c.requires.occurs
    c.requires.room verb.0 verb.1 c.args.found c.take.new.self c.take.ensures.client c.take.ensures.spare

pub returns-else-is_none-clause-worker : goal.returns-else-is_none-clause-worker
returns-else-is_none-clause-worker c =
    let verb = some_of _ c.requires.stands in
    word_worker_is c.args.layout.now c.args.client.now c.args.driver.now c.args.jobs.now c.requires.of
    c.requires.occurs c.requires.room verb.0 verb.1 c.args.found c.take.new.self c.take.ensures.client
    c.take.ensures.spare

pub returns-then-is_none-clause-value : goal.returns-then-is_none-clause-value
returns-then-is_none-clause-value c =
    c.take_answer.ensures.value
    ∙ word_taken c.args.layout.now (client_of c.args.client.now) (client_of c.take.new.self) c.args.driver.now
    c.args.jobs.now c.args.found c.take.ensures.client
