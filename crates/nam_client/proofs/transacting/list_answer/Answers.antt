use Rattle.std.proofs.Common.{ap, sym, subst, ◌∙◌, arith}
use Rattle.nam_client.specs.declared.registers.Registers.{Registers}
use Rattle.nam_client.specs.Room.{HasRoom}
use Rattle.nam_client.specs.Ending.{attempt_listed}
use Rattle.nam_client.proofs.EndingLemmas.{reads_ending, reads_passing, room_ending, room_passing}
use Rattle.nam_client.proofs.transacting.list_answer.Goals as goal

pub list_read-requires-clause-room : goal.list_read-requires-clause-room
list_read-requires-clause-room c =
    let read =
    reads_passing c.args.a.now c.in-Some.answer.now c.requires.can c.in-Some.ensures.some c.in-Passes.ensures in
    let room = read.room in
    omega arith

pub list_read-requires-clause-word : goal.list_read-requires-clause-word
list_read-requires-clause-word c =
    let read =
    reads_passing c.args.a.now c.in-Some.answer.now c.requires.can c.in-Some.ensures.some c.in-Passes.ensures in
    let so_far = read.so_far in
    let word = c.requires.can.word in
    omega arith

pub list_read-requires-in-EndsReading-clause-room : goal.list_read-requires-in-EndsReading-clause-room
list_read-requires-in-EndsReading-clause-room c =
    let read =
    reads_ending c.args.a.now c.in-Some.answer.now c.requires.can c.in-Some.ensures.some c.in-EndsReading.outcome
    c.in-EndsReading.ensures in
    let room = read.room in
    omega arith

pub list_read-requires-in-EndsReading-clause-word : goal.list_read-requires-in-EndsReading-clause-word
list_read-requires-in-EndsReading-clause-word c =
    let read =
    reads_ending c.args.a.now c.in-Some.answer.now c.requires.can c.in-Some.ensures.some c.in-EndsReading.outcome
    c.in-EndsReading.ensures in
    let so_far = read.so_far in
    let word = c.requires.can.word in
    omega arith

pub returns-in-Passes-clause-room : goal.returns-in-Passes-clause-room
returns-in-Passes-clause-room c =
    subst HasRoom (sym c.list_read.ensures.value)
    (room_passing c.args.a.now c.in-Some.answer.now c.requires.can c.in-Some.ensures.some c.in-Passes.ensures)

pub returns-in-EndsReading-clause-room : goal.returns-in-EndsReading-clause-room
returns-in-EndsReading-clause-room c =
    subst HasRoom
    (sym (c.list_attempt-in-EndsReading.ensures
    ∙ ap (λ (b : Registers). attempt_listed b c.in-EndsReading.outcome 0) c.list_read-in-EndsReading.ensures.value))
    (room_ending c.args.a.now c.in-Some.answer.now c.requires.can c.in-Some.ensures.some c.in-EndsReading.outcome
    c.in-EndsReading.outcome 0 c.in-EndsReading.ensures)
