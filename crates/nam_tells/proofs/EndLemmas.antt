-- What a step tells of the attempt that is open: it stays open, or is told, exactly once.
use Rattle.std.proofs.Common.{List, Some, [], append-nil, append_assoc, length, refl, sym, ap, ℕ}
use Rattle.std.proofs.Common.{◌+◌, ◌++◌, ◌∙◌, ◌∷◌, ◌≡◌}
use Rattle.si_model.specs.declared.log.Lock.{Lock}
use Rattle.si_model.specs.declared.log.Outcome.TheVariants as outcome
use Rattle.si_model.specs.declared.log.Outcome.{Outcome}
use Rattle.si_model.specs.declared.row.Item.{Item}
use Rattle.nam_verbs.specs.declared.now.Now.TheVariants.{At, Over}
use Rattle.nam_verbs.specs.declared.now.Now.{Now}
use Rattle.nam_protocol.specs.Log.{with_locks}
use Rattle.nam_protocol.specs.Telling.{items_of, new_locks, on_answer, on_call, stepped, unread, with_read}
use Rattle.nam_protocol.specs.Txn.{Stepped}
use Rattle.nam_protocol.specs.TxnCalls.{taken_now}
use Rattle.nam_protocol.specs.declared.client.Answer.TheVariants as client_answer
use Rattle.nam_protocol.specs.declared.client.Answer.{Answer}
use Rattle.nam_protocol.specs.declared.client.ClientState.{ClientState}
use Rattle.nam_protocol.specs.declared.client.Open.{Open}
use Rattle.nam_protocol.specs.declared.txn.TxnAnswer.TheVariants.{Added, Astray, Committed, Declined, Full, Locked, Met}
use Rattle.nam_protocol.specs.declared.txn.TxnAnswer.TheVariants.{Newer, NoSpace, ReadOnly, Spent, TooOld, Value}
use Rattle.nam_protocol.specs.declared.txn.TxnAnswer.TheVariants.{Written}
use Rattle.nam_protocol.specs.declared.txn.TxnAnswer.{TxnAnswer}
use Rattle.nam_protocol.specs.declared.txn.TxnPoint.{TxnPoint}
use Rattle.nam_tells.proofs.EventLemmas.{none_blank}
use Rattle.nam_tells.proofs.StepLemmas.{counting}
use Rattle.nam_tells.specs.EndsLaw.{AttemptGoes, HasEnded, StaysOpen}
use Rattle.nam_tells.specs.Steps.{ended, locking, passing, reading, told_answer, told_call}
use Rattle.nam_tells.specs.Steps.{told_stepped}
use Rattle.nam_tells.specs.Teller.{Teller, attempt_tell, tried}

-- 1. An attempt that has gone on so far goes on, or ends

pub none_since : (teller : Teller) (attempt later : Open) → later.txn ≡ attempt.txn → later.nth ≡ attempt.nth
    → later.prefix ≡ attempt.prefix → later.state.seen ≡ attempt.state.seen → (locks : List Lock)
    → StaysOpen teller (locking teller locks) attempt later
none_since teller attempt later txn nth prefix seen locks = record {
  front = refl;
  ops = refl;
  txn = txn;
  nth = nth;
  prefix = prefix;
  seen = seen;
  items = [];
  reads = sym (append-nil teller.reads);
  taken = locks;
  locks = refl;
}

pub same_open : (teller : Teller) (attempt : Open) → StaysOpen teller teller attempt attempt
same_open teller attempt = record {
  front = refl;
  ops = refl;
  txn = refl;
  nth = refl;
  prefix = refl;
  seen = refl;
  items = [];
  reads = sym (append-nil teller.reads);
  taken = [];
  locks = sym (append-nil teller.locks);
}

module _ (before teller : Teller) (attempt later : Open) (since : StaysOpen before teller attempt later) where
  pub read_since : (items : List Item) → StaysOpen before (reading teller items) attempt (with_read later items)
  read_since items = record {
    front = since.front;
    ops = since.ops;
    txn = since.txn;
    nth = since.nth;
    prefix = since.prefix;
    seen = since.seen;
    items = since.items ++ items;
    reads = ap (λ (xs : List Item). xs ++ items) since.reads ∙ append_assoc before.reads since.items items;
    taken = since.taken;
    locks = since.locks;
  }

  pub passes_since : (items : List Item) → StaysOpen before (passing teller items) attempt (with_read later items)
  passes_since items =
      let read = read_since items in record {
        front = read.front;
        ops = read.ops;
        txn = read.txn;
        nth = read.nth;
        prefix = read.prefix;
        seen = read.seen;
        items = read.items;
        reads = read.reads;
        taken = read.taken;
        locks = read.locks;
      }

  pub ends_since : (how : Outcome) (writes : List Item) (end : Answer)
      → HasEnded before (ended teller (attempt_tell teller later how writes)) attempt (Some (Over end))
  ends_since how writes end = record {
    answered = tt;
    tell = attempt_tell teller later how writes;
    front = ap (λ ts. ts ++ attempt_tell teller later how writes ∷ []) since.front;
    left = none_blank (teller.front ++ attempt_tell teller later how writes ∷ []);
    how = tried teller later how (length writes);
    event = refl;
    txn = since.txn;
    nth = since.nth;
    prefix = ap (λ n. Some n) since.prefix;
    ops = since.ops;
    snap = since.seen;
    items = since.items;
    reads = since.reads;
    taken = since.taken;
    locks = since.locks;
  }

-- 2. A call of the transaction

module _ (client : ClientState) (before teller : Teller) (attempt later : Open) (locks : ℕ)
    (since : StaysOpen before teller attempt later) where
  -- the client counts its locks
  counted_since : StaysOpen before teller attempt (counting later locks)
  counted_since = record {
    front = since.front;
    ops = since.ops;
    txn = since.txn;
    nth = since.nth;
    prefix = since.prefix;
    seen = since.seen;
    items = since.items;
    reads = since.reads;
    taken = since.taken;
    locks = since.locks;
  }

  abbrev Goes : TxnAnswer → Type 0
  Goes answer =
      AttemptGoes before (told_answer teller (counting later locks) answer) attempt (on_answer client later answer).txn
      (Some (Over (client_answer.Txn answer)))

  passed : let items = items_of later.state.read in
      StaysOpen before (passing teller items) attempt (with_read (unread later) items)
  passed =
      let all = passes_since before teller attempt later since (items_of later.state.read) in record {
        front = all.front;
        ops = all.ops;
        txn = all.txn;
        nth = all.nth;
        prefix = all.prefix;
        seen = all.seen;
        items = all.items;
        reads = all.reads;
        taken = all.taken;
        locks = all.locks;
      }

  over : (how : Outcome) (writes : List Item) (end : Answer)
      → HasEnded before (ended teller (attempt_tell teller (counting later locks) how writes)) attempt (Some (Over end))
  over how writes end = ends_since before teller attempt (counting later locks) counted_since how writes end

  read_over : (how : Outcome) (end : Answer) → let read = reading teller (items_of later.state.read) in
      HasEnded before (ended read (attempt_tell read (counting later locks) how [])) attempt (Some (Over end))
  read_over how end =
      let items = items_of later.state.read in
      ends_since before (reading teller items) attempt (with_read (counting later locks) items)
      (read_since before teller attempt (counting later locks) counted_since items) how [] end

  answer_goes : (answer : TxnAnswer) → Goes answer
  answer_goes (Value value) = passed
  answer_goes Written = passed
  answer_goes (Added n) = passed
  answer_goes Met = passed
  answer_goes (Committed number) =
      over (outcome.Commit number) later.state.writes (client_answer.Txn (Committed number))
  answer_goes ReadOnly = over outcome.ReadOnly [] (client_answer.Txn ReadOnly)
  answer_goes (TooOld worker entry horizon) =
      over (outcome.TooOld worker entry horizon) [] (client_answer.Txn (TooOld worker entry horizon))
  answer_goes (NoSpace table) = read_over (outcome.NoSpace table) (client_answer.Txn (NoSpace table))
  answer_goes Declined = read_over (outcome.Declined later.ops) (client_answer.Txn Declined)
  answer_goes Spent = over outcome.Spent [] (client_answer.Txn Spent)
  answer_goes (Locked lock) = over (outcome.Locked lock) [] (client_answer.Txn (Locked lock))
  answer_goes (Newer lock) = over (outcome.Newer lock) [] (client_answer.Txn (Newer lock))
  answer_goes (Full lock) = over (outcome.Full lock) [] (client_answer.Txn (Full lock))
  answer_goes Astray = over outcome.Left [] (client_answer.Txn Astray)

  call_goes : (now : Now TxnPoint TxnAnswer)
      → let after = on_call client later now in
      AttemptGoes before (told_call teller (counting later locks) now) attempt after.txn after.call
  call_goes (At place) = since
  call_goes (Over answer) = answer_goes answer

pub stepped_goes : (client : ClientState) (teller : Teller) (attempt : Open) (before : ℕ) (step : Stepped)
    → step.state.seen ≡ attempt.state.seen
    → let after = stepped client attempt before step in
    AttemptGoes teller (told_stepped teller attempt before step) attempt after.txn after.call
stepped_goes client teller attempt before step same =
    let locks = new_locks step.state before (taken_now step.state step.call) in
    let later = record attempt { locks = attempt.locks + length locks; state = step.state } in
    call_goes (record client { log = with_locks client.log locks }) teller
    (locking teller locks) attempt later attempt.locks (none_since teller attempt later refl refl refl same locks)
    step.call
