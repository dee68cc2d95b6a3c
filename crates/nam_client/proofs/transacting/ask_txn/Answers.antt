use Rattle.std.proofs.Common.{refl}
use Rattle.std.proofs.lemmas.Bool.{false≢true}
use Rattle.nam_txn.specs.Txn.{Runs}
use Rattle.nam_client.specs.Registers.{client_of}
use Rattle.nam_client.proofs.AskRoom.{ask_ends}
use Rattle.nam_client.proofs.StepRoom.{room_going}
use Rattle.nam_client.proofs.transacting.ask_txn.Goals as goal

pub returns-then-not-is_busy-clause-client : goal.returns-then-not-is_busy-clause-client
returns-then-not-is_busy-clause-client c =
    let rests : Runs c.start_txn.new.a.txn.call → ⊥ = λ runs. absurd (false≢true (c.if-not-is_busy.ensures.1 runs)) in
    ask_ends c.args.layout.now c.args.a.now c.args.call.now c.requires.may c.requires.holds c.start_txn.new.a
    c.start_txn.ensures.value c.start_txn.ensures.at c.start_txn.ensures.of rests (client_of c.list_answer.new.a)
    c.list_answer.ensures.client

pub returns-else-not-is_busy-clause-room : goal.returns-else-not-is_busy-clause-room
returns-else-not-is_busy-clause-room c =
    room_going c.start_txn.new.a c.start_txn.ensures.ready (c.if-not-is_busy.ensures.0 refl)
