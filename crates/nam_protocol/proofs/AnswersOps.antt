-- Each word of an operation keeps what its client carries, and its answer tells.
use Rattle.std.proofs.Common.{◌≡◌, ℕ, ◌+◌, ◌-◌, ◌≤◌, ◌<◌, true, false, List, [], ◌++◌, length, Option, Some, None}
use Rattle.std.proofs.Common.{refl, sym, subst, ap, ◌∙◌, append-nil, arith}
use Rattle.std.specs.Prelude.{nat_lt, slice_index}
use Rattle.std.proofs.lemmas.List.{drop_all}
use Rattle.std.proofs.lemmas.Bool.{false≢true}
use Rattle.std.proofs.lemmas.Bool.Decides.{nat_tests}
use Rattle.si_model.specs.declared.row.Item.{Item}
use Rattle.si_model.specs.declared.row.Key.{Key}
use Rattle.si_model.specs.declared.log.Lock.{Lock}
use Rattle.si_model.specs.declared.op.Op.{Op}
use Rattle.si_model.specs.declared.op.Op.TheVariants.{Get, Put, Add, Del, Need, Guard, Scan}
use Rattle.si_model.specs.Rows.{Rows, writes_key}
use Rattle.si_model.specs.Evaluation.{passes, found, op_key, writes_after, guards_after}
use Rattle.si_model.specs.EvaluationLaws.{is_scan}
use Rattle.si_model.specs.Operations.{op_reads, op_claims}
use Rattle.si_model.specs.declared.log.Outcome.TheVariants as outcome
use Rattle.nam_verbs.specs.declared.now.Now.{Now}
use Rattle.nam_verbs.specs.declared.now.Now.TheVariants.{Over}
use Rattle.nam_verbs.proofs.TestLemmas.{by_test, by_equal}
use Rattle.nam_catalog.specs.declared.shape.Shape.{Shape}
use Rattle.nam_catalog.specs.Tables.{widths_of}
use Rattle.nam_calls.specs.declared.index.ClaimKeyPoint.{ClaimKeyPoint}
use Rattle.nam_calls.specs.declared.reading.ReadPoint.{ReadPoint}
use Rattle.nam_calls.specs.declared.reading.ReadPoint.TheVariants.{ReadCurrent, ReadUnsure, ReadRecheck, ReadRing}
use Rattle.nam_calls.specs.declared.reading.ReadPoint.TheVariants.{ReadCells, ReadHorizon}
use Rattle.nam_calls.specs.declared.reading.ReadingEnd.{ReadingEnd}
use Rattle.nam_calls.specs.declared.reading.Sight.{Sight}
use Rattle.nam_calls.specs.Index.{claim_key_begin}
use Rattle.nam_calls.specs.Reading.{on_horizon, read_after, read_begin, sight_of}
use Rattle.nam_calls.specs.declared.reading.ReadingEnd.TheVariants as read_end
use Rattle.nam_protocol.specs.declared.client.Answer.{Answer}
use Rattle.nam_protocol.specs.declared.client.CallPoint.{CallPoint}
use Rattle.nam_protocol.specs.declared.client.ClientState.{ClientState}
use Rattle.nam_protocol.specs.declared.client.Open.{Open}
use Rattle.nam_protocol.specs.declared.txn.TxnAnswer.{TxnAnswer}
use Rattle.nam_protocol.specs.declared.txn.TxnPoint.{TxnPoint}
use Rattle.nam_protocol.specs.declared.txn.TxnPoint.TheVariants.{Finding, Reading, Claiming, Committing}
use Rattle.nam_protocol.specs.declared.txn.TxnState.{TxnState}
use Rattle.nam_protocol.specs.AnswersLaw.{IsOn, OpTells, OwnTells}
use Rattle.nam_protocol.specs.Carries.{Carries, IsDecided, PointCarries, Took}
use Rattle.nam_protocol.specs.Log.{with_event, with_locks, with_reads, attempt_of}
use Rattle.nam_protocol.specs.Operations.{holding, own_value, read_of, value_in, answer_of}
use Rattle.nam_protocol.specs.Plain.{IsOperation}
use Rattle.nam_protocol.specs.Telling.{call_listed, with_answer, with_read, items_of, locks_from, on_answer}
use Rattle.nam_protocol.specs.Telling.{unread}
use Rattle.nam_protocol.specs.Telling.{on_call, stepped}
use Rattle.nam_protocol.specs.Told.{OpPassed, OpDeclined}
use Rattle.nam_protocol.specs.Txn.{Stepped, at, over, with_op, after_claim, on_value}
use Rattle.nam_protocol.specs.Txn.{ask_op}
use Rattle.nam_protocol.specs.TxnCalls.{txn_after}
use Rattle.nam_protocol.proofs.GoesParts.{current_goes, unsure_goes, recheck_goes, ring_goes, cells_goes}
use Rattle.nam_protocol.proofs.GoesTxn.{ask_goes, decided_goes, knowing, on_find_goes, on_read_goes, on_claim_goes}
use Rattle.nam_protocol.specs.declared.client.Answer.TheVariants as client_answer
use Rattle.nam_protocol.specs.declared.txn.TxnAnswer.TheVariants as txn_answer

-- 1. What an answered client tells

-- it tells where it was answered
abbrev pub TellsNow : (Answer → Type 0) → Option (Now CallPoint Answer) → Type 0
TellsNow Tells (Some (Over end)) = Tells end
TellsNow Tells _ = Unit {0}

abbrev pub Good : (ClientState → Answer → Type 0) → ClientState → Type 0
Good Tells after = Carries after × TellsNow (Tells after) after.call

-- 2. A step that ends a call with no more locks than before lists none

pub quiet_over : (client : ClientState) (attempt : Open) (before : ℕ) (s : TxnState) (end : TxnAnswer)
    → length s.held ≤ before
    → stepped client attempt before (over s end) ≡ on_call client (record attempt { state = s }) (Over end)
quiet_over client attempt before s end l =
    let none : attempt.locks + 0 ≡ attempt.locks = omega arith in
    ap (λ (locks : List Lock). on_call (record client { log = with_locks client.log locks })
    (record attempt { locks = attempt.locks + length locks; state = s }) (Over end))
    (ap (locks_from s before) (drop_all before s.held l))
    ∙ ap (λ (locks : List Lock). on_call (record client { log = record client.log { locks = locks } })
    (record attempt { locks = attempt.locks + 0; state = s }) (Over end)) (append-nil client.log.locks)
    ∙ ap (λ (locks : ℕ). on_call client (record attempt { locks = locks; state = s }) (Over end)) none

-- 3. Operations on values

-- what is read is what the operation reads on that value, but for a scan
pub items_found : (op : Op) (value : Option (List ℕ)) → is_scan op ≡ false
    → items_of (read_of op value) ≡ found op (holding value)
items_found (Get t k) value one = refl
items_found (Put t k v) value one = refl
items_found (Add t k f up by) value one = refl
items_found (Del t k) value one = refl
items_found (Need t k f least) value one = refl
items_found (Guard t k) value one = refl
items_found (Scan t low high) value one = absurd (false≢true (sym one))

pub found_read : (op : Op) (value : Option (List ℕ)) → is_scan op ≡ false
    → found op (holding (value_in (read_of op value))) ≡ found op (holding value)
found_read (Get t k) value one = refl
found_read (Put t k v) value one = refl
found_read (Add t k f up by) value one = refl
found_read (Del t k) value one = refl
found_read (Need t k f least) value one = refl
found_read (Guard t k) value one = refl
found_read (Scan t low high) value one = absurd (false≢true (sym one))

pub passes_read : (op : Op) (value : Option (List ℕ)) → is_scan op ≡ false
    → passes op (holding (value_in (read_of op value))) ≡ passes op (holding value)
passes_read (Get t k) value one = refl
passes_read (Put t k v) value one = refl
passes_read (Add t k f up by) value one = refl
passes_read (Del t k) value one = refl
passes_read (Need t k f least) value one = refl
passes_read (Guard t k) value one = refl
passes_read (Scan t low high) value one = absurd (false≢true (sym one))

-- one that reads nothing passes
reads_none : (op : Op) (value : Option (List ℕ)) → is_scan op ≡ false → op_reads op ≡ false
    → (passes op (holding value) ≡ true) × (found op (holding value) ≡ [])
reads_none (Get t k) value one none = absurd (false≢true (sym none))
reads_none (Put t k v) value one none = (refl, refl)
reads_none (Add t k f up by) value one none = absurd (false≢true (sym none))
reads_none (Del t k) value one none = (refl, refl)
reads_none (Need t k f least) value one none = absurd (false≢true (sym none))
reads_none (Guard t k) value one none = absurd (false≢true (sym none))
reads_none (Scan t low high) value one none = absurd (false≢true (sym one))

-- one that claims no position changes neither the write set nor the guards
unclaimed : (widths : List ℕ) (op : Op) (copy : Rows) (writes : List Item) (guards : List Key)
    → op_claims op ≡ false
    → (writes ≡ writes_after widths op copy writes) × (guards ≡ guards_after op guards)
unclaimed widths (Get t k) copy writes guards none = (refl, refl)
unclaimed widths (Put t k v) copy writes guards none = absurd (false≢true (sym none))
unclaimed widths (Add t k f up by) copy writes guards none = absurd (false≢true (sym none))
unclaimed widths (Del t k) copy writes guards none = absurd (false≢true (sym none))
unclaimed widths (Need t k f least) copy writes guards none = (refl, refl)
unclaimed widths (Guard t k) copy writes guards none = absurd (false≢true (sym none))
unclaimed widths (Scan t low high) copy writes guards none = (refl, refl)

-- the answer of one that passes leaves the transaction open
passed_answer : (Q : ClientState → TxnAnswer → Type 0) (client : ClientState) (attempt : Open) (op : Op)
    (value : Option (List ℕ))
    → Q (call_listed client attempt) (answer_of op value)
    → Q (on_answer client attempt (answer_of op value)) (answer_of op value)
passed_answer Q client attempt (Get t k) value q = q
passed_answer Q client attempt (Put t k v) value q = q
passed_answer Q client attempt (Add t k f up by) value q = q
passed_answer Q client attempt (Del t k) value q = q
passed_answer Q client attempt (Need t k f least) value q = q
passed_answer Q client attempt (Guard t k) value q = q
passed_answer Q client attempt (Scan t low high) value q = q

-- 4. The word that shows a snapshot too old

abbrev pub IsPassed : List ℕ → ℕ → Now ReadPoint ReadingEnd → Type 0
IsPassed seen word (Over (read_end.Passed worker entry horizon)) =
    (entry ≡ slice_index seen (worker - 1)) × (horizon ≡ word) × (entry < horizon)
IsPassed seen word _ = Unit {0}

pub read_passed : (sight : Sight) (seen : List ℕ) (place : ReadPoint) (word : ℕ)
    → IsPassed seen word (read_after sight seen place word)
read_passed sight seen (ReadCurrent place) word =
    current_goes (IsPassed seen word) _ (λ next e. tt) (λ value e. tt) (λ value header e. tt) (λ e. tt)
read_passed sight seen (ReadUnsure value header place) word =
    unsure_goes (IsPassed seen word) value header _ (λ next e. tt) (λ old e. tt) (λ e. tt)
read_passed sight seen (ReadRecheck value header) word =
    recheck_goes (IsPassed seen word) sight seen value header word (λ e. tt) (λ e. tt)
read_passed sight seen (ReadRing place) word =
    ring_goes (IsPassed seen word) _ (λ next e. tt) (λ old e. tt) (λ e. tt)
read_passed sight seen (ReadCells place) word =
    cells_goes (IsPassed seen word) _ (λ next e. tt) (λ old e. tt) (λ e. tt)
read_passed sight seen (ReadHorizon worker) word =
    by_test (λ now. IsPassed seen word (on_horizon now)) (nat_lt (slice_index seen (worker - 1)) word) _ _
    (λ e. (refl, refl, grind (arith, nat_tests)))
    (λ e. by_equal (λ now. IsPassed seen word (on_horizon now)) worker sight.workers _ _ (λ e. tt) (λ e. tt))

pub passed_facts : (sight : Sight) (seen : List ℕ) (place : ReadPoint) (word worker entry horizon : ℕ)
    → read_after sight seen place word ≡ Over (read_end.Passed worker entry horizon)
    → IsPassed seen word (Over (read_end.Passed worker entry horizon))
passed_facts sight seen place word worker entry horizon e =
    subst (IsPassed seen word) e (read_passed sight seen place word)

-- 5. One step of an operation

-- the transaction is its client's, and has taken no lock
pub record TakesNone (client : ClientState) (attempt : Open) : Type 0 where
  pub last_is : attempt.state.last ≡ client.last
  pub locks : attempt.locks ≡ 0
  pub held : attempt.state.held ≡ []

-- one that holds no lock has taken none
pub no_locks : (locks : List Lock) (attempt : Open) → Took locks attempt → attempt.state.held ≡ [] → attempt.locks ≡ 0
no_locks locks attempt took none = took.number ∙ ap (λ (hs : List ℕ). length hs) none

pub none_took : (locks : List Lock) (attempt : Open) → attempt.state.held ≡ [] → attempt.locks ≡ 0 → Took locks attempt
none_took locks attempt none number = record {
  earlier = locks;
  listed = sym (append-nil locks) ∙ ap (λ hs. locks ++ locks_from attempt.state 0 hs) (sym none);
  number = let e : length attempt.state.held ≡ 0 = ap (λ (hs : List ℕ). length hs) none in omega arith;
}

-- a step of an operation leaves these
pub record SameHeld (s t : TxnState) : Type 0 where
  pub last : t.last ≡ s.last
  pub held : t.held ≡ s.held

module _ (shape : Shape) (client : ClientState) (attempt : Open) (rest : TakesNone client attempt)
    (Tells : ClientState → Answer → Type 0) where
  abbrev Steps : Stepped → Type 0
  Steps step = Good Tells (stepped client attempt 0 step)

  -- so after the step
  none_taken : (s : TxnState) → SameHeld attempt.state s → s.held ≡ []
  none_taken s same = same.held ∙ rest.held

  held_in : (s : TxnState) → SameHeld attempt.state s → length s.held ≤ 0
  held_in s same = let e : length s.held ≡ 0 = ap (λ (hs : List ℕ). length hs) (none_taken s same) in omega arith

  stays : (s : TxnState) (place : TxnPoint) → SameHeld attempt.state s → IsOperation place → PointCarries s place
      → Steps (at s place)
  stays s (Finding op passed) same is carries = (
    record {
      opened = record {
        last_is = same.last ∙ rest.last_is;
        took = none_took _ _ (none_taken s same) (let l = rest.locks in omega arith);
        held = none_taken s same;
        point = tt;
      };
      scanned = tt;
      collected = tt;
    },
    tt,
  )
  stays s (Reading op position place) same is carries = (
    record {
      opened = record {
        last_is = same.last ∙ rest.last_is;
        took = none_took _ _ (none_taken s same) (let l = rest.locks in omega arith);
        held = none_taken s same;
        point = tt;
      };
      scanned = tt;
      collected = tt;
    },
    tt,
  )
  stays s (Claiming op place) same is carries = (
    record {
      opened = record {
        last_is = same.last ∙ rest.last_is;
        took = none_took _ _ (none_taken s same) (let l = rest.locks in omega arith);
        held = none_taken s same;
        point = carries;
      };
      scanned = tt;
      collected = tt;
    },
    tt,
  )
  stays s (Committing place) same is carries = absurd is

  answered : (s : TxnState) (end : TxnAnswer) → SameHeld attempt.state s
      → Good Tells (on_call client (record attempt { state = s }) (Over end)) → Steps (over s end)
  answered s end same good = subst (Good Tells) (sym (quiet_over client attempt 0 s end (held_in s same))) good

  module _ (s : TxnState) (op : Op) (value : Option (List ℕ)) (same : SameHeld attempt.state s)
      (read : items_of s.read ≡ found op (holding value)) where
    abbrev later : Open
    later = record attempt { state = s }

    passed : passes op (holding value) ≡ true
        → s.writes ≡ writes_after (widths_of shape.tables) op (holding value) attempt.state.writes
        → s.guards ≡ guards_after op attempt.state.guards
        → ((after : ClientState) → OpPassed shape client after attempt op value (answer_of op value)
        → Tells after (client_answer.Txn (answer_of op value)))
        → Steps (over s (answer_of op value))
    passed pass writes guards tells =
        answered s (answer_of op value) same
        (passed_answer (λ c end. Good Tells (with_answer c (client_answer.Txn end))) client later op value (
          record {
            opened = record {
              last_is = same.last ∙ rest.last_is;
              took = none_took _ _ (none_taken s same) rest.locks;
              held = none_taken s same;
              point = tt;
            };
            scanned = tt;
            collected = tt;
          },
          tells (with_answer (call_listed client later) (client_answer.Txn (answer_of op value))) record {
            passes = pass;
            answer = refl;
            log = ap (with_reads client.log) read;
            state = record s { read = None };
            opened = ap (λ items. Some (with_read (unread later) items)) read;
            writes = writes;
            guards = guards;
          },
        ))

    declined : passes op (holding value) ≡ false
        → ((after : ClientState) → OpDeclined client after attempt op value
        → Tells after (client_answer.Txn txn_answer.Declined))
        → Steps (over s txn_answer.Declined)
    declined fails tells =
        answered s txn_answer.Declined same (
          record { opened = tt; scanned = tt; collected = tt },
          tells _ record {
            declines = fails;
            log = ap (λ items. with_event (with_reads client.log items)
                (attempt_of (with_read attempt items) (outcome.Declined attempt.ops) 0)) read;
          },
        )

-- 6. What one that passes tells

op_told : (shape : Shape) (word : ℕ) (client after : ClientState) (attempt : Open) (place : TxnPoint) (op : Op)
    (value : Option (List ℕ))
    → IsOn shape word attempt.state place value → OpPassed shape client after attempt op value (answer_of op value)
    → OpTells shape word client after attempt place op (answer_of op value)
op_told shape word client after attempt place (Get t k) value on told = (value, on, told)
op_told shape word client after attempt place (Put t k v) value on told = (value, on, told)
op_told shape word client after attempt place (Add t k f up by) value on told = (value, on, told)
op_told shape word client after attempt place (Del t k) value on told = (value, on, told)
op_told shape word client after attempt place (Need t k f least) value on told = (value, on, told)
op_told shape word client after attempt place (Guard t k) value on told = (value, on, told)
op_told shape word client after attempt place (Scan t low high) value on told = (value, on, told)

own_told : (shape : Shape) (client after : ClientState) (attempt : Open) (op : Op)
    → let own = own_value attempt.state.writes (op_key op) in
    OpPassed shape client after attempt op own (answer_of op own)
    → OwnTells shape client after attempt op (answer_of op own)
own_told shape client after attempt (Get t k) told = told
own_told shape client after attempt (Put t k v) told = told
own_told shape client after attempt (Add t k f up by) told = told
own_told shape client after attempt (Del t k) told = told
own_told shape client after attempt (Need t k f least) told = told
own_told shape client after attempt (Guard t k) told = told
own_told shape client after attempt (Scan t low high) told = told

module _ (shape : Shape) (client : ClientState) (attempt : Open) (rest : TakesNone client attempt)
    (Tells : ClientState → Answer → Type 0) (op : Op) (one : is_scan op ≡ false) where
  abbrev OpSteps : Stepped → Type 0
  OpSteps = Steps shape client attempt rest Tells

  abbrev state : TxnState
  state = attempt.state

  knows : (value : Option (List ℕ)) → SameHeld state (knowing state op value)
  knows value = record { last = refl; held = refl }

  same_held : SameHeld state state
  same_held = record { last = refl; held = refl }

  -- 7. A word is taken

  module _ (word : ℕ) (place : TxnPoint)
      (tells : (after : ClientState) (end : TxnAnswer) → OpTells shape word client after attempt place op end
      → Tells after (client_answer.Txn end)) where
    valued : (value : Option (List ℕ)) → IsOn shape word state place value → OpSteps (on_value shape state op value)
    valued value on =
        let s = knowing state op value in
        let keys = unclaimed (widths_of shape.tables) op (holding value) state.writes state.guards in
        decided_goes shape OpSteps op s value
        (λ fails. declined shape client attempt rest Tells s op value (knows value) (items_found op value one) fails
        (λ after told. tells after txn_answer.Declined (value, on, told)))
        (λ pass claims. stays shape client attempt rest Tells s (Claiming op claim_key_begin) (knows value) tt record {
          passes = passes_read op value one ∙ pass;
          read = items_found op value one ∙ sym (found_read op value one);
        })
        (λ pass free. passed shape client attempt rest Tells s op value (knows value) (items_found op value one) pass
        (keys free).0 (keys free).1
        (λ after told. tells after (answer_of op value)
        (op_told shape word client after attempt place op value on told)))

  abbrev TellsAt : ℕ → TxnPoint → Type 0
  TellsAt word place = (after : ClientState) (end : TxnAnswer) → OpTells shape word client after attempt place op end
      → Tells after (client_answer.Txn end)

  pub finding_good : (passed word : ℕ) → TellsAt word (Finding op passed)
      → OpSteps (txn_after shape state (Finding op passed) word)
  finding_good passed word tells =
      on_find_goes shape OpSteps op state _
      (λ next e. stays shape client attempt rest Tells state (Finding op next) same_held tt tt)
      (λ position e. stays shape client attempt rest Tells state (Reading op position read_begin) same_held tt tt)
      (λ e. valued word (Finding op passed) tells None (e, refl))

  pub reading_good : (position : ℕ) (at : ReadPoint) (word : ℕ) → TellsAt word (Reading op position at)
      → OpSteps (txn_after shape state (Reading op position at) word)
  reading_good position at word tells =
      let sight = sight_of shape (op_key op).table position in
      on_read_goes shape OpSteps op state position _
      (λ next e. stays shape client attempt rest Tells state (Reading op position next) same_held tt tt)
      (λ value e. valued word (Reading op position at) tells value e)
      (λ worker entry horizon e. let facts = passed_facts sight state.seen at word worker entry horizon e in
      answered shape client attempt rest Tells state (txn_answer.TooOld worker entry horizon) same_held (
        record { opened = tt; scanned = tt; collected = tt },
        tells _ (txn_answer.TooOld worker entry horizon)
            record { entry_is = facts.0; horizon_is = facts.1; above = facts.2; log = refl },
      ))
      (λ e. answered shape client attempt rest Tells state txn_answer.Astray same_held
      (record { opened = tt; scanned = tt; collected = tt }, tells _ txn_answer.Astray refl))

  pub claiming_good : (at : ClaimKeyPoint) (word : ℕ) → IsDecided state op → TellsAt word (Claiming op at)
      → OpSteps (txn_after shape state (Claiming op at) word)
  claiming_good at word decided tells =
      let value = value_in state.read in
      on_claim_goes shape OpSteps op state _
      (λ next e. stays shape client attempt rest Tells state (Claiming op next) same_held tt decided)
      (λ e. answered shape client attempt rest Tells state (txn_answer.NoSpace (op_key op).table) same_held (
        record { opened = tt; scanned = tt; collected = tt },
        tells _ (txn_answer.NoSpace (op_key op).table) (
          value,
          refl,
          record {
            passes = decided.passes;
            table_is = refl;
            log = ap (λ items. with_event (with_reads client.log items)
                (attempt_of (with_read attempt items) (outcome.NoSpace (op_key op).table) 0)) decided.read;
          },
        ),
      ))
      (λ position e. passed shape client attempt rest Tells (after_claim shape state op position) op value
      record { last = refl; held = refl } decided.read decided.passes refl refl
      (λ after told. tells after (answer_of op value)
      (op_told shape word client after attempt (Claiming op at) op value refl told)))

  -- 8. It is asked

  pub asked_good : (writes_key state.writes (op_key op) ≡ true → (after : ClientState) (end : TxnAnswer)
      → OwnTells shape client after attempt op end → Tells after (client_answer.Txn end))
      → OpSteps (ask_op shape state op)
  asked_good tells =
      let own = own_value state.writes (op_key op) in
      let s = knowing state op own in
      ask_goes shape OpSteps op state
      (λ writes fails. declined shape client attempt rest Tells s op own (knows own) (items_found op own one) fails
      (λ after told. tells writes after txn_answer.Declined told))
      (λ writes pass. passed shape client attempt rest Tells (with_op shape s op own) op own
      record { last = refl; held = refl } (items_found op own one) pass refl refl
      (λ after told. tells writes after (answer_of op own) (own_told shape client after attempt op told)))
      (λ unwritten reads. stays shape client attempt rest Tells (record state { read = None }) (Finding op 0)
      record { last = refl; held = refl } tt tt)
      (λ unwritten none. let free = reads_none op None one none in
      stays shape client attempt rest Tells (record state { read = None }) (Claiming op claim_key_begin)
      record { last = refl; held = refl } tt record { passes = free.0; read = sym free.1 })
