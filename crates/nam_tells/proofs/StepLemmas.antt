-- The open attempt goes on: its call steps, or is answered. What is told then is right.
use Rattle.std.proofs.Common.{List, None, Option, Some, [], ap, append-nil, append_assoc, length, refl, subst, sym, ℕ}
use Rattle.std.proofs.Common.{◌+◌}
use Rattle.std.proofs.Common.{◌++◌, ◌∙◌, ◌∷◌, ◌≡◌}
use Rattle.std.proofs.lemmas.List.{length-append}
use Rattle.std.specs.List.{flat_map}
use Rattle.si_model.specs.Tells.{ListsTells, Tell, last_number, number_in}
use Rattle.si_model.specs.declared.log.Lock.{Lock}
use Rattle.si_model.specs.declared.log.Outcome.TheVariants as outcome
use Rattle.si_model.specs.declared.log.Outcome.{Outcome}
use Rattle.si_model.specs.declared.op.Op.TheVariants as op
use Rattle.si_model.specs.declared.op.Op.{Op}
use Rattle.si_model.specs.declared.row.Item.{Item}
use Rattle.nam_verbs.specs.declared.now.Now.TheVariants.{At, Over}
use Rattle.nam_verbs.specs.declared.now.Now.{Now}
use Rattle.nam_catalog.specs.declared.shape.Shape.{Shape}
use Rattle.nam_protocol.proofs.GoesCommit.{ask_commit_goes, commit_goes}
use Rattle.nam_protocol.proofs.GoesTxn.{ask_goes, claiming_goes, finding_goes, reading_goes}
use Rattle.nam_protocol.specs.Log.{with_locks, with_reads}
use Rattle.nam_protocol.specs.Own.{Rests}
use Rattle.nam_protocol.specs.Telling.{items_of, new_locks, on_answer, on_call, read_listed, stepped, unread}
use Rattle.nam_protocol.specs.Telling.{with_answer}
use Rattle.nam_protocol.specs.Telling.{with_commit, with_end, with_read, read_ended}
use Rattle.nam_protocol.specs.Txn.{Stepped, ask_op}
use Rattle.nam_protocol.specs.TxnCalls.{taken_now, txn_after, txn_ask}
use Rattle.nam_protocol.specs.declared.client.Answer.TheVariants as client_answer
use Rattle.nam_protocol.specs.declared.client.Answer.{Answer}
use Rattle.nam_protocol.specs.declared.client.CallPoint.{CallPoint}
use Rattle.nam_protocol.specs.declared.client.ClientState.{ClientState}
use Rattle.nam_protocol.specs.declared.client.Open.{Open}
use Rattle.nam_protocol.specs.declared.client.Scanned.{Scanned}
use Rattle.nam_protocol.specs.declared.txn.TxnAnswer.TheVariants.{Added, Astray, Committed, Declined, Full, Locked, Met}
use Rattle.nam_protocol.specs.declared.txn.TxnAnswer.TheVariants.{Newer, NoSpace, ReadOnly, Spent, TooOld, Value}
use Rattle.nam_protocol.specs.declared.txn.TxnAnswer.TheVariants.{Written}
use Rattle.nam_protocol.specs.declared.txn.TxnAnswer.{TxnAnswer}
use Rattle.nam_protocol.specs.declared.txn.TxnCall.TheVariants as call
use Rattle.nam_protocol.specs.declared.txn.TxnCall.{TxnCall}
use Rattle.nam_protocol.specs.declared.txn.TxnPoint.TheVariants.{Claiming, Committing, Finding, Reading}
use Rattle.nam_protocol.specs.declared.txn.TxnPoint.{TxnPoint}
use Rattle.nam_protocol.specs.declared.txn.TxnState.{TxnState}
use Rattle.nam_tells.proofs.EventLemmas.{lists_attempt, lists_commit, none_blank, number_new, number_same}
use Rattle.nam_tells.specs.Steps.{ended, locking, passing, reading, told_answer, told_call, told_stepped, txn_ops}
use Rattle.nam_tells.specs.Teller.{IsCounted, IsTold, Teller, attempt_tell, commit_tell, txn_running}

-- 1. A step stays on its operation, and on its snapshot

abbrev NowOf : List Op → Now TxnPoint TxnAnswer → Type 0
NowOf ops (At place) = txn_running place ≡ ops
NowOf ops (Over answer) = Unit {0}

abbrev pub StepsOf : TxnState → List Op → Stepped → Type 0
StepsOf state ops step = (step.state.seen ≡ state.seen) × NowOf ops step.call

module _ (shape : Shape) (state : TxnState) where
  op_asked : (op : Op) → StepsOf state (op ∷ []) (ask_op shape state op)
  op_asked op =
      ask_goes shape (StepsOf state (op ∷ [])) op state (λ e f. (refl, tt)) (λ e f. (refl, tt)) (λ e f. (refl, refl))
      (λ e f. (refl, refl))

  pub asked_of : (asked : TxnCall) → StepsOf state (txn_ops asked) (txn_ask shape state asked)
  asked_of (call.Get t k) = op_asked (op.Get t k)
  asked_of (call.Put t k v) = op_asked (op.Put t k v)
  asked_of (call.Add t k f up by) = op_asked (op.Add t k f up by)
  asked_of (call.Del t k) = op_asked (op.Del t k)
  asked_of (call.Need t k f least) = op_asked (op.Need t k f least)
  asked_of (call.Guard t k) = op_asked (op.Guard t k)
  asked_of call.Commit =
      ask_commit_goes (StepsOf state []) state shape (λ e. (refl, tt)) (λ e f. (refl, tt)) (λ e f g. (refl, refl))
      (λ e f g. (refl, refl))

  pub word_of : (place : TxnPoint) (found : ℕ) → StepsOf state (txn_running place) (txn_after shape state place found)
  word_of (Finding op passed) found =
      finding_goes shape (StepsOf state (op ∷ [])) op state passed found (λ next e. (refl, refl))
      (λ position e. (refl, refl)) (λ e f. (refl, refl)) (λ e answer s. (refl, tt))
  word_of (Reading op position at) found =
      reading_goes shape (StepsOf state (op ∷ [])) op state position at found (λ next e. (refl, refl))
      (λ value e f. (refl, refl)) (λ value e answer s. (refl, tt)) (λ worker entry horizon e. (refl, tt))
      (λ e. (refl, tt))
  word_of (Claiming op at) found =
      claiming_goes shape (StepsOf state (op ∷ [])) op state at found (λ next e. (refl, refl)) (λ e. (refl, tt))
      (λ position e answer s f. (refl, tt))
  word_of (Committing at) found =
      commit_goes (StepsOf state []) state at found (λ next g. (refl, refl)) (λ header next e n. (refl, refl))
      (λ place count next e n. (refl, refl)) (λ answer e. (refl, tt))

-- 2. An attempt is open, and its teller has what it counts

pub record Ongoing (client : ClientState) (teller : Teller) (ops : List Op) (attempt : Open) : Type 0 where
  pub lists : ListsTells client.log teller.front teller.reads teller.locks [] (attempt.state.seen ∷ [])
  pub number : client.last ≡ last_number client.start teller.front
  pub counted : IsCounted teller ops attempt

module _ (client : ClientState) (teller : Teller) (ops : List Op) (attempt : Open)
    (on : Ongoing client teller ops attempt) where
  -- it reads, and takes locks
  pub reads_on : (items : List Item)
      → Ongoing (record client { log = with_reads client.log items }) (reading teller items) ops
      (with_read attempt items)
  reads_on items =
      let l = on.lists in
      let c = on.counted in record {
        lists = record {
          events = l.events;
          reads = ap (λ (rs : List Item). rs ++ items) l.reads
              ∙ append_assoc (flat_map (λ (t : Tell). t.reads) teller.front) teller.reads items;
          locks = l.locks;
          writes = l.writes;
          snaps = l.snaps;
          owned = l.owned;
        };
        number = on.number;
        counted = record {
          ops_count = c.ops_count;
          reads_count = ap (λ (n : ℕ). n + length items) c.reads_count ∙ sym (length-append teller.reads items);
          locks_count = c.locks_count;
          asked = c.asked;
        };
      }

  pub locks_on : (locks : List Lock)
      → Ongoing (record client { log = with_locks client.log locks }) (locking teller locks) ops
      (record attempt { locks = attempt.locks + length locks })
  locks_on locks =
      let l = on.lists in
      let c = on.counted in record {
        lists = record {
          events = l.events;
          reads = l.reads;
          locks = ap (λ (ls : List Lock). ls ++ locks) l.locks
              ∙ append_assoc (flat_map (λ (t : Tell). t.locks) teller.front) teller.locks locks;
          writes = l.writes;
          snaps = l.snaps;
          owned = l.owned;
        };
        number = on.number;
        counted = record {
          ops_count = c.ops_count;
          reads_count = c.reads_count;
          locks_count = ap (λ (n : ℕ). n + length locks) c.locks_count ∙ sym (length-append teller.locks locks);
          asked = c.asked;
        };
      }

  -- it has ended, with an answer or as it was left
  module _ (how : Outcome) (silent : number_in how ≡ None) where
    abbrev t : Tell
    t = attempt_tell teller attempt how []

    ended_lists : ListsTells (with_end client attempt how).log (teller.front ++ t ∷ []) [] [] [] []
    ended_lists = lists_attempt teller attempt on.counted.reads_count on.counted.locks_count client.log on.lists how

    ended_number : client.last ≡ last_number client.start (teller.front ++ t ∷ [])
    ended_number = number_same client.start client.last teller.front t on.number silent

    pub ends_on : (now : Option (Now CallPoint Answer)) → Rests now
        → IsTold (record (with_end client attempt how) { call = now }) (ended teller t)
    ends_on (Some (At place)) rests = absurd rests
    ends_on None rests =
        record { opens = tt; lists = ended_lists; number = ended_number; opened = none_blank (teller.front ++ t ∷ []) }
    ends_on (Some (Over end)) rests =
        record { opens = tt; lists = ended_lists; number = ended_number; opened = none_blank (teller.front ++ t ∷ []) }

  pub commits_on : (number : ℕ) (end : Answer)
      → IsTold (with_answer (with_commit client attempt number) end) (ended teller (commit_tell teller attempt number))
  commits_on number end = record {
    opens = tt;
    lists =
        lists_commit teller attempt on.counted.reads_count on.counted.locks_count client.log on.lists number
        attempt.state.writes;
    number = number_new client.start number teller.front (commit_tell teller attempt number) refl;
    opened = none_blank (teller.front ++ commit_tell teller attempt number ∷ []);
  }

  -- all that was asked has passed
  pub passes_on : (end : Answer) (rows : List Scanned)
      → IsTold (record client { txn = Some attempt; scanned = rows; call = Some (Over end) })
      (record teller { passed = teller.ops })
  passes_on end rows = record {
    opens = tt;
    lists = on.lists;
    number = on.number;
    opened = record {
      ops_count = on.counted.ops_count;
      reads_count = on.counted.reads_count;
      locks_count = on.counted.locks_count;
      asked = sym (append-nil teller.ops);
    };
  }

-- 3. Its call was answered

-- the client counts its locks, which tells no less
abbrev pub counting : Open → ℕ → Open
counting attempt locks = record attempt { locks = locks }

module _ (client : ClientState) (teller : Teller) (ops : List Op) (attempt : Open) (locks : ℕ)
    (on : Ongoing client teller ops attempt) where
  abbrev Answers : TxnAnswer → Type 0
  Answers answer = IsTold (with_answer (on_answer client attempt answer) (client_answer.Txn answer))
      (told_answer teller (counting attempt locks) answer)

  passed_told : (end : Answer) → let items = items_of attempt.state.read in
      IsTold (with_answer (read_listed client (unread attempt) items) end) (passing teller items)
  passed_told end =
      let items = items_of attempt.state.read in
      passes_on (record client { log = with_reads client.log items }) (reading teller items) ops
      (with_read (unread attempt) items)
      (reads_on client teller ops (unread attempt) (unread_on) items) end client.scanned
    where
      unread_on : Ongoing client teller ops (unread attempt)
      unread_on = record {
        lists = on.lists;
        number = on.number;
        counted = record {
          ops_count = on.counted.ops_count;
          reads_count = on.counted.reads_count;
          locks_count = on.counted.locks_count;
          asked = on.counted.asked;
        };
      }

  ended_told : (how : Outcome) (end : TxnAnswer) → number_in how ≡ None
      → IsTold (with_answer (with_end client attempt how) (client_answer.Txn end))
      (ended teller (attempt_tell teller (counting attempt locks) how []))
  ended_told how end silent = ends_on client teller ops attempt on how silent (Some (Over (client_answer.Txn end))) tt

  read_told : (how : Outcome) (end : TxnAnswer) → number_in how ≡ None → let items = items_of attempt.state.read in
      IsTold (with_answer (read_ended client attempt items how) (client_answer.Txn end))
      (ended (reading teller items) (attempt_tell (reading teller items) (counting attempt locks) how []))
  read_told how end silent =
      let items = items_of attempt.state.read in
      ends_on (record client { log = with_reads client.log items }) (reading teller items) ops (with_read attempt items)
      (reads_on client teller ops attempt on items) how silent (Some (Over (client_answer.Txn end))) tt

  pub answer_told : (answer : TxnAnswer) → Answers answer
  answer_told (Value value) = passed_told (client_answer.Txn (Value value))
  answer_told Written = passed_told (client_answer.Txn Written)
  answer_told (Added n) = passed_told (client_answer.Txn (Added n))
  answer_told Met = passed_told (client_answer.Txn Met)
  answer_told (Committed number) = commits_on client teller ops attempt on number (client_answer.Txn (Committed number))
  answer_told ReadOnly = ended_told outcome.ReadOnly ReadOnly refl
  answer_told (TooOld worker entry horizon) =
      ended_told (outcome.TooOld worker entry horizon) (TooOld worker entry horizon) refl
  answer_told (NoSpace table) = read_told (outcome.NoSpace table) (NoSpace table) refl
  answer_told Declined = read_told (outcome.Declined attempt.ops) Declined refl
  answer_told Spent = ended_told outcome.Spent Spent refl
  answer_told (Locked lock) = ended_told (outcome.Locked lock) (Locked lock) refl
  answer_told (Newer lock) = ended_told (outcome.Newer lock) (Newer lock) refl
  answer_told (Full lock) = ended_told (outcome.Full lock) (Full lock) refl
  answer_told Astray = ended_told outcome.Left Astray refl

  -- it goes on, or was answered
  pub call_told : (now : Now TxnPoint TxnAnswer) → NowOf ops now
      → IsTold (on_call client attempt now) (told_call teller (counting attempt locks) now)
  call_told (Over answer) is = answer_told answer
  call_told (At place) is = record {
    opens = refl;
    lists = on.lists;
    number = on.number;
    opened = record {
      ops_count = on.counted.ops_count;
      reads_count = on.counted.reads_count;
      locks_count = on.counted.locks_count;
      asked = on.counted.asked ∙ ap (λ (more : List Op). teller.passed ++ more) (sym is);
    };
  }

-- 4. It has stepped

module _ (client : ClientState) (teller : Teller) (ops : List Op) (attempt : Open)
    (on : Ongoing client teller ops attempt) where
  pub stepped_told : (before : ℕ) (step : Stepped) → StepsOf attempt.state ops step
      → IsTold (stepped client attempt before step) (told_stepped teller attempt before step)
  stepped_told before step of =
      let locks = new_locks step.state before (taken_now step.state step.call) in
      let opened = record attempt { locks = attempt.locks + length locks; state = step.state } in
      call_told (record client { log = with_locks client.log locks }) (locking teller locks) ops opened attempt.locks
      (seen_on (locks_on client teller ops attempt on locks) of.0) step.call of.1
    where
      -- with another state of the same snapshot
      seen_on : {c : ClientState} {t : Teller} {a : Open} → Ongoing c t ops a → step.state.seen ≡ a.state.seen
          → Ongoing c t ops (record a { state = step.state })
      seen_on {c} {t} {a} was same = record {
        lists = subst (λ (seen : List ℕ). ListsTells c.log t.front t.reads t.locks [] (seen ∷ [])) (sym same) was.lists;
        number = was.number;
        counted = record {
          ops_count = was.counted.ops_count;
          reads_count = was.counted.reads_count;
          locks_count = was.counted.locks_count;
          asked = was.counted.asked;
        };
      }
