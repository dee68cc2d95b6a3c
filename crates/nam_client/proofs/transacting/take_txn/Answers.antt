use Rattle.std.proofs.Common.{refl}
use Rattle.std.proofs.lemmas.Bool.{false≢true}
use Rattle.nam_txn.specs.Txn.{Runs}
use Rattle.nam_client.specs.Registers.{client_of}
use Rattle.nam_client.proofs.StepRoom.{client_ends, room_going}
use Rattle.nam_client.proofs.transacting.take_txn.Goals as goal

pub returns-then-not-is_busy-clause-client : goal.returns-then-not-is_busy-clause-client
returns-then-not-is_busy-clause-client c =
    let rests : Runs c.step_txn.new.a.txn.call → ⊥ = λ runs. absurd (false≢true (c.if-not-is_busy.ensures.1 runs)) in
    client_ends c.args.layout.now c.args.a.now c.step_txn.new.a c.args.found c.requires.of c.requires.holds
    c.requires.step c.requires.runs c.step_txn.ensures.value c.step_txn.ensures.at c.step_txn.ensures.of rests
    (client_of c.list_answer.new.a) c.list_answer.ensures.client

pub returns-else-not-is_busy-clause-room : goal.returns-else-not-is_busy-clause-room
returns-else-not-is_busy-clause-room c =
    room_going c.step_txn.new.a c.step_txn.ensures.ready (c.if-not-is_busy.ensures.0 refl)
