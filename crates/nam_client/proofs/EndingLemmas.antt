-- What an ending says of the answer, and the room where the transaction stays open.
use Rattle.std.specs.Prelude.{Option, Some, None, if◌then◌else◌}
use Rattle.std.proofs.Common.{Bool, ap, length, refl, sym, subst, true, false, ℕ, ◌+◌, ◌-◌, ◌≤◌, ◌<◌, ◌≡◌, ◌∙◌, arith}
use Rattle.std.proofs.lemmas.Bool.{false≢true}
use Rattle.si_model.specs.declared.log.Outcome.{Outcome}
use Rattle.nam_verbs.specs.declared.now.Now.{Now}
use Rattle.nam_verbs.specs.declared.now.Now.TheVariants.{At, Over}
use Rattle.nam_protocol.specs.declared.client.Answer.{Answer}
use Rattle.nam_protocol.specs.declared.client.Answer.TheVariants as answer
use Rattle.nam_protocol.specs.declared.client.CallPoint.{CallPoint}
use Rattle.nam_protocol.specs.declared.txn.TxnAnswer.{TxnAnswer}
use Rattle.nam_protocol.specs.declared.txn.TxnAnswer.TheVariants as txn_answer
use Rattle.nam_protocol.specs.declared.txn.TxnPoint.{TxnPoint}
use Rattle.nam_protocol.specs.AttemptLaw.{has_passed}
use Rattle.nam_txn.specs.Txn.{answer_in}
use Rattle.nam_client.specs.declared.ending.Ending.{Ending}
use Rattle.nam_client.specs.declared.ending.Ending.TheVariants as ending
use Rattle.nam_client.specs.declared.registers.Registers.{Registers}
use Rattle.nam_client.specs.declared.registers.Step.{Step}
use Rattle.nam_client.specs.declared.registers.Step.TheVariants as step
use Rattle.nam_client.specs.Ending.{attempt_listed, ending_of, read_listed}
use Rattle.nam_client.specs.Registers.{call_of, in_txn}
use Rattle.nam_client.specs.Room.{CanList, CanRead, HasAnswered, HasRoom, lists_read}
use Rattle.nam_client.proofs.StepRoom.{RoomBy, has_room}

abbrev is_passing : Ending → Bool
is_passing ending.Passes = true
is_passing _ = false

abbrev is_reading : Ending → Bool
is_reading ending.Passes = true
is_reading (ending.EndsReading outcome) = true
is_reading _ = false

passing_is : (end : TxnAnswer) (ops : ℕ) → has_passed end ≡ is_passing (ending_of end ops)
passing_is (txn_answer.Value value) ops = refl
passing_is txn_answer.Written ops = refl
passing_is (txn_answer.Added n) ops = refl
passing_is txn_answer.Met ops = refl
passing_is (txn_answer.Committed n) ops = refl
passing_is txn_answer.ReadOnly ops = refl
passing_is (txn_answer.TooOld w e h) ops = refl
passing_is (txn_answer.NoSpace table) ops = refl
passing_is txn_answer.Declined ops = refl
passing_is txn_answer.Spent ops = refl
passing_is (txn_answer.Locked lock) ops = refl
passing_is (txn_answer.Newer lock) ops = refl
passing_is (txn_answer.Full lock) ops = refl
passing_is txn_answer.Astray ops = refl

reading_is : (end : TxnAnswer) (ops : ℕ) → lists_read end ≡ is_reading (ending_of end ops)
reading_is (txn_answer.Value value) ops = refl
reading_is txn_answer.Written ops = refl
reading_is (txn_answer.Added n) ops = refl
reading_is txn_answer.Met ops = refl
reading_is (txn_answer.Committed n) ops = refl
reading_is txn_answer.ReadOnly ops = refl
reading_is (txn_answer.TooOld w e h) ops = refl
reading_is (txn_answer.NoSpace table) ops = refl
reading_is txn_answer.Declined ops = refl
reading_is txn_answer.Spent ops = refl
reading_is (txn_answer.Locked lock) ops = refl
reading_is (txn_answer.Newer lock) ops = refl
reading_is (txn_answer.Full lock) ops = refl
reading_is txn_answer.Astray ops = refl

abbrev over_in : Option TxnAnswer → Option (Now TxnPoint TxnAnswer)
over_in None = None
over_in (Some end) = Some (Over end)

answered_by : (call : Option (Now TxnPoint TxnAnswer)) (end : TxnAnswer) → answer_in call ≡ Some end
    → call ≡ Some (Over end)
answered_by None end is = absurd (cc)
answered_by (Some (At at)) end is = absurd (cc)
answered_by (Some (Over other)) end is = ap over_in is

pub has_answered : (a : Registers) (end : TxnAnswer) → answer_in a.txn.call ≡ Some end → HasAnswered a end
has_answered a end is = answered_by a.txn.call end is

module _ (a : Registers) (end : TxnAnswer) (can : CanList a) (is : answer_in a.txn.call ≡ Some end) where
  pub reads_passing : ending.Passes ≡ ending_of end a.attempt.ops → CanRead a
  reads_passing passes =
      can.reading end (has_answered a end is) (reading_is end a.attempt.ops ∙ ap is_reading (sym passes))

  pub reads_ending : (outcome : Outcome) → ending.EndsReading outcome ≡ ending_of end a.attempt.ops → CanRead a
  reads_ending outcome ends =
      can.reading end (has_answered a end is) (reading_is end a.attempt.ops ∙ ap is_reading (sym ends))

  pub room_passing : ending.Passes ≡ ending_of end a.attempt.ops → HasRoom (read_listed a)
  room_passing passes =
      let b = read_listed a in
      let read = reads_passing passes in
      let answered = has_answered a end is in
      let called : call_of b.step b ≡ Some (Over (answer.Txn end)) =
      ap (λ (s : Step). call_of s b) can.in_txn ∙ ap in_txn answered in
      let none = can.passes end answered (passing_is end a.attempt.ops ∙ ap is_passing (sym passes)) in
      let events = can.events in
      let room = read.room in
      let so_far = read.so_far in
      let claims = can.claims in
      let snaps = can.snaps in
      has_room b (subst (λ (o : Bool). RoomBy b o (call_of b.step b)) (sym can.is_open)
      (subst (λ (c : Option (Now CallPoint Answer)). RoomBy b true c) (sym called) (
        omega arith,
        omega arith,
        can.locks,
        can.writes,
        omega arith,
        can.scanned,
        λ e. record {
          ops = can.ops;
          word = can.word;
          claims = omega arith;
          reads = omega arith;
          locks = none;
          held = can.held;
          written = can.written;
        },
        λ e. can.closes,
      )))

  pub room_ending : (outcome how : Outcome) (writes : ℕ) → ending.EndsReading outcome ≡ ending_of end a.attempt.ops
      → HasRoom (attempt_listed (read_listed a) how writes)
  room_ending outcome how writes ends =
      let b = attempt_listed (read_listed a) how writes in
      let read = reads_ending outcome ends in
      let answered = has_answered a end is in
      let called : call_of b.step b ≡ Some (Over (answer.Txn end)) =
      ap (λ (s : Step). call_of s b) can.in_txn ∙ ap in_txn answered in
      let events = can.events in
      let room = read.room in
      let locks = can.locks in
      let few = can.few in
      let written = can.writes in
      let snaps = can.snaps in
      has_room b (subst (λ (c : Option (Now CallPoint Answer)). RoomBy b false c) (sym called) (
        omega arith,
        omega arith,
        omega arith,
        omega arith,
        omega arith,
        can.scanned,
        λ e. absurd (false≢true e),
        λ e. can.closes,
      ))
