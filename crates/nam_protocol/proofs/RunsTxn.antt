-- A transaction's call stays that of its operation, and what a commit says of a record that was full.
use Rattle.std.proofs.Common.{◌≡◌, ℕ, zero, suc, ◌+◌, ◌<◌, ◌≤◌, List, [], ◌∷◌, ◌++◌, length, refl, sym, ap, subst}
use Rattle.std.proofs.Common.{arith, Bool, true, false, not, Option, None}
use Rattle.std.specs.Prelude.{◌==◌, if◌then◌else◌, map, slice_index_or}
use Rattle.std.specs.List.{AllByRecursion}
use Rattle.std.proofs.lemmas.Bool.{false≢true}
use Rattle.si_model.specs.declared.row.Key.{Key}
use Rattle.si_model.specs.declared.row.Item.{Item}
use Rattle.si_model.specs.declared.op.Op.{Op}
use Rattle.si_model.specs.declared.op.Op.TheVariants.{Get, Put, Add, Del, Need, Guard, Scan}
use Rattle.si_model.specs.declared.log.Lock.{Lock}
use Rattle.si_model.specs.Rows.{same_key, item_key, writes_key}
use Rattle.si_model.specs.Evaluation.{passes, unwritten, written_keys, op_key}
use Rattle.si_model.specs.Operations.{op_reads, op_claims}
use Rattle.si_model.specs.Answers.{lock_key}
use Rattle.si_model.proofs.EvaluationLemmas.{same_key-refl, same_key_says}
use Rattle.nam_verbs.specs.declared.now.Now.{Now}
use Rattle.nam_verbs.specs.declared.now.Now.TheVariants.{At, Over}
use Rattle.nam_verbs.proofs.TestLemmas.{by_test}
use Rattle.nam_catalog.specs.declared.shape.Shape.{Shape}
use Rattle.nam_catalog.specs.Greatest.{greatest_number}
use Rattle.nam_calls.specs.declared.index.FindEnd.{FindEnd}
use Rattle.nam_calls.specs.declared.index.ClaimKeyPoint.{ClaimKeyPoint}
use Rattle.nam_calls.specs.declared.index.ClaimKeyEnd.{ClaimKeyEnd}
use Rattle.nam_calls.specs.declared.record.InstallPoint.{InstallPoint}
use Rattle.nam_calls.specs.declared.reading.ReadPoint.{ReadPoint}
use Rattle.nam_calls.specs.declared.reading.ReadingEnd.{ReadingEnd}
use Rattle.nam_calls.specs.declared.ring.SlotPoint.{SlotPoint}
use Rattle.nam_calls.specs.declared.ring.SlotEnd.{SlotEnd}
use Rattle.nam_calls.specs.declared.ring.SlotEnd.TheVariants.{Free, NotMoved}
use Rattle.nam_calls.specs.declared.ring.CopyPoint.{CopyPoint}
use Rattle.nam_calls.specs.declared.lock.Locks.{Locks}
use Rattle.nam_calls.specs.declared.lock.LockEnd.{LockEnd}
use Rattle.nam_calls.specs.Index.{find_begin, claim_key_begin, find_after, claim_key_after}
use Rattle.nam_calls.specs.Reading.{sight_of, read_after}
use Rattle.nam_calls.specs.Record.{words_begin, words_after, install_after}
use Rattle.nam_calls.specs.Ring.{slot_begin, slot_after, copy_after}
use Rattle.nam_calls.specs.Lock.{lock_begin, lock_after, unlock_after}
use Rattle.nam_calls.proofs.FallsTests.{either}
use Rattle.nam_calls.specs.declared.index.FindEnd.TheVariants as found_key
use Rattle.nam_calls.specs.declared.index.ClaimKeyEnd.TheVariants as claimed_key
use Rattle.nam_calls.specs.declared.reading.ReadingEnd.TheVariants as read_end
use Rattle.nam_calls.specs.declared.lock.LockEnd.TheVariants as lock_end
use Rattle.nam_protocol.specs.declared.txn.Record.{Record}
use Rattle.nam_protocol.specs.declared.txn.TxnState.{TxnState}
use Rattle.nam_protocol.specs.declared.txn.ListPoint.{ListPoint}
use Rattle.nam_protocol.specs.declared.txn.CommitPoint.{CommitPoint}
use Rattle.nam_protocol.specs.declared.txn.CommitPoint.TheVariants.{Locking, Checking, Returning, Saving, Copying}
use Rattle.nam_protocol.specs.declared.txn.CommitPoint.TheVariants.{Installing, Publishing, Freeing}
use Rattle.nam_protocol.specs.declared.txn.CommitPoint.TheVariants.{Listing, Counting, Deciding, Clearing, Ending}
use Rattle.nam_protocol.specs.declared.txn.Refusal.{Refusal}
use Rattle.nam_protocol.specs.declared.txn.Refusal.TheVariants as refusal
use Rattle.nam_protocol.specs.declared.txn.TxnPoint.{TxnPoint}
use Rattle.nam_protocol.specs.declared.txn.TxnPoint.TheVariants.{Finding, Reading, Claiming, Committing}
use Rattle.nam_protocol.specs.declared.txn.TxnAnswer.{TxnAnswer}
use Rattle.nam_protocol.specs.declared.txn.TxnAnswer.TheVariants.{Declined, Full, Committed, ReadOnly, Spent}
use Rattle.nam_protocol.specs.Operations.{holding, own_value, read_of, answer_of, op_path}
use Rattle.nam_protocol.specs.Txn.{Stepped, at, over, with_op, ask_op, on_value, on_find, on_read, on_claim}
use Rattle.nam_protocol.specs.TxnCalls.{txn_after}
use Rattle.nam_protocol.specs.Commit.{record_in, record_place, records_of, places, no_record}
use Rattle.nam_protocol.specs.Commit.{lock_at, checked, committing, commit_begin, ended, list_after, list_begin}
use Rattle.nam_protocol.specs.Commit.{next_count, on_list}
use Rattle.nam_protocol.specs.Commit.{refusal_answer, refused, tells_intent}
use Rattle.nam_protocol.specs.Commit.{ask_commit, go, on_lock, next_check, on_slot, on_return, on_words, on_copy}
use Rattle.nam_protocol.specs.Commit.{on_install, next_free, commit_after}
use Rattle.nam_protocol.specs.AttemptLaw.{HasAsked, has_passed, IsOfOp}
use Rattle.nam_protocol.specs.Left.{key_bound, keys_bound}
use Rattle.nam_protocol.specs.TxnFits.{is_claimed, IsKeyOf, StateFits, CommitFits}
use Rattle.nam_protocol.specs.SessionFits.{FullIsWritten}
use Rattle.nam_protocol.proofs.FallsKeys.{own_claimed, record_placed}
use Rattle.nam_protocol.proofs.FallsBegins.{record_key}

-- 1. An operation's call

-- an operation never finds a record full
abbrev NotFull : TxnAnswer → Type 0
NotFull (Full lock) = ⊥
NotFull _ = Unit {0}

-- the call is at a point of the operation, or was over
abbrev pub OfOp : Op → Now TxnPoint TxnAnswer → Type 0
OfOp op (At place) = IsOfOp op place
OfOp op (Over answer) = NotFull answer

answer_not_full : (op : Op) (value : Option (List ℕ)) → NotFull (answer_of op value)
answer_not_full (Get t k) value = tt
answer_not_full (Put t k v) value = tt
answer_not_full (Add t k f up by) value = tt
answer_not_full (Del t k) value = tt
answer_not_full (Need t k f least) value = tt
answer_not_full (Guard t k) value = tt
answer_not_full (Scan t low high) value = tt

abbrev StepOf : Op → Stepped → Type 0
StepOf op step = OfOp op step.call

module _ (shape : Shape) where
  valued_of : (state : TxnState) (op : Op) (value : Option (List ℕ)) → StepOf op (on_value shape state op value)
  valued_of state op value =
      let state' = record state { read = read_of op value } in
      let claiming = at state' (Claiming op claim_key_begin) in
      let done = over state' (answer_of op value) in
      either (StepOf op) (not (passes op (holding value))) (over state' Declined)
      (if op_claims op then claiming else done) tt
      (either (StepOf op) (op_claims op) claiming done refl (answer_not_full op value))

  on_find_of : (state : TxnState) (op : Op) (now : Now ℕ FindEnd) → StepOf op (on_find shape state op now)
  on_find_of state op (At passed) = refl
  on_find_of state op (Over (found_key.At position)) = refl
  on_find_of state op (Over found_key.Absent) = valued_of state op None

  on_read_of : (state : TxnState) (op : Op) (position : ℕ) (now : Now ReadPoint ReadingEnd)
      → StepOf op (on_read shape state op position now)
  on_read_of state op position (At place) = refl
  on_read_of state op position (Over (read_end.Got value)) = valued_of state op value
  on_read_of state op position (Over (read_end.Passed worker entry horizon)) = tt
  on_read_of state op position (Over read_end.Astray) = tt

  on_claim_of : (state : TxnState) (op : Op) (now : Now ClaimKeyPoint ClaimKeyEnd)
      → StepOf op (on_claim shape state op now)
  on_claim_of state op (At place) = refl
  on_claim_of state op (Over claimed_key.NoSpace) = tt
  on_claim_of state op (Over (claimed_key.At position)) = answer_not_full op _

  -- a word is taken
  pub take_of : (state : TxnState) (op : Op) (place : TxnPoint) (found : ℕ) → IsOfOp op place
      → StepOf op (txn_after shape state place found)
  take_of state op (Finding o passed) found e =
      subst (λ p. StepOf p (txn_after shape state (Finding o passed) found)) e
      (on_find_of state o (find_after (op_path shape o) passed found))
  take_of state op (Reading o position at) found e =
      subst (λ p. StepOf p (txn_after shape state (Reading o position at) found)) e
      (on_read_of state o position (read_after (sight_of shape (op_key o).table position) state.seen at found))
  take_of state op (Claiming o at) found e =
      subst (λ p. StepOf p (txn_after shape state (Claiming o at) found)) e
      (on_claim_of state o (claim_key_after (op_path shape o) at found))
  take_of state op (Committing at) found e = absurd e

  -- the operation is asked
  pub ask_of : (state : TxnState) (op : Op) → StepOf op (ask_op shape state op)
  ask_of state op =
      let own = own_value state.writes (op_key op) in
      let state' = record state { read = read_of op own } in
      let none = record state { read = None } in
      let finding = at none (Finding op find_begin) in
      let claiming = at none (Claiming op claim_key_begin) in
      let done = over (with_op shape state' op own) (answer_of op own) in
      either (StepOf op) (writes_key state.writes (op_key op))
      (if not (passes op (holding own)) then over state' Declined else done)
      (if op_reads op then finding else claiming)
      (either (StepOf op) (not (passes op (holding own))) (over state' Declined) done tt (answer_not_full op own))
      (either (StepOf op) (op_reads op) finding claiming refl refl)

-- 2. Written keys

-- the nth record of a commit is of the nth written key
nth_written : (cs : List Record) (ws : List Item) (rest : List Key) (nth : ℕ) → nth < length ws
    → AllByRecursion (λ item. is_claimed cs (item_key item) ≡ true) ws
    → writes_key ws (slice_index_or (map (record_in cs) (map item_key ws ++ rest)) nth no_record).key ≡ true
nth_written cs [] rest nth l all = absurd (omega arith)
nth_written cs (w ∷ ws) rest zero l all =
    subst (λ key. (if same_key (item_key w) key then true else writes_key ws key) ≡ true)
    (sym (record_key cs (item_key w) all.0))
    (rw (same_key-refl (item_key w)) refl)
nth_written cs (w ∷ ws) rest (suc nth) l all =
    let key = (slice_index_or (map (record_in cs) (map item_key ws ++ rest)) nth no_record).key in
    either (λ (b : Bool). b ≡ true) (same_key (item_key w) key) true (writes_key ws key) refl
    (nth_written cs ws rest nth (omega arith) all.1)

module _ (shape : Shape) where
  written_bound : (ws : List Item) (key : Key) → writes_key ws key ≡ true
      → key_bound shape key ≤ keys_bound shape (map item_key ws)
  written_bound [] key e = absurd (false≢true e)
  written_bound (w ∷ ws) key e =
      let later = written_bound ws key in
      let Within : Bool → Type 0 = λ (b : Bool). b ≡ true
      → key_bound shape key ≤ key_bound shape (item_key w) + keys_bound shape (map item_key ws) in
      by_test Within (same_key (item_key w) key) true (writes_key ws key)
      (λ same t. let f = ap (key_bound shape) (same_key_says (item_key w) key same) in omega arith)
      (λ other t. let l = later t in omega arith) e

  written_is_key : (state : TxnState) (key : Key) → StateFits shape state → writes_key state.writes key ≡ true
      → IsKeyOf shape key
  written_is_key state key fits e =
      let is = own_claimed shape state.worker state.last state.seen state.claims state.writes state.guards fits key e in
      let p = record_placed shape state.claims key fits.placed is in
      subst (IsKeyOf shape) (record_key state.claims key is) (p.1.0, p.3)

  -- 3. A commit

  -- a record that was full is one of these keys, which is to be tidied
  abbrev pub FullFits : List Key → TxnAnswer → Type 0
  FullFits keys (Full lock) =
      IsKeyOf shape (lock_key lock) × (key_bound shape (lock_key lock) ≤ keys_bound shape keys)
  FullFits keys _ = Unit {0}

  abbrev pub CommitRuns : List Op → TxnState → Now TxnPoint TxnAnswer → Type 0
  CommitRuns ops state (At (Committing at)) = FullIsWritten state at
  CommitRuns ops state (At _) = ⊥
  CommitRuns ops state (Over answer) = (has_passed answer ≡ false) × FullFits (written_keys ops) answer

  -- the commit goes on or was over, and the keys are as before
  abbrev pub CommitStands : List Op → Stepped → Type 0
  CommitStands ops step = HasAsked step.state ops × CommitRuns ops step.state step.call

  module _ (ops : List Op) (state : TxnState) (asked : HasAsked state ops) where
    refused_runs : (refusal : Refusal) → (tells_intent state ≡ true → FullIsWritten state (Clearing refusal))
        → (has_passed (refusal_answer refusal) ≡ false) × FullFits (written_keys ops) (refusal_answer refusal)
        → CommitStands ops (refused state refusal)
    refused_runs refusal clearing done =
        by_test (CommitStands ops) (tells_intent state) (go state (Clearing refusal))
        (over state (refusal_answer refusal)) (λ e. (asked, clearing e)) (λ e. (asked, done))

    on_lock_runs : (now : Now Locks LockEnd) → CommitStands ops (on_lock state now)
    on_lock_runs (At locks) = (asked, tt)
    on_lock_runs (Over (lock_end.Held headers)) = (asked, tt)
    on_lock_runs (Over (lock_end.Locked nth found)) =
        refused_runs (refusal.Locked (lock_at state nth found)) (λ e. tt) (refl, tt)
    on_lock_runs (Over (lock_end.Newer nth found)) =
        refused_runs (refusal.Newer (lock_at state nth found)) (λ e. tt) (refl, tt)

    next_check_runs : (count : ℕ) → CommitStands ops (next_check (record state { counts = state.counts ++ count ∷ [] }))
    next_check_runs count =
        let state' = record state { counts = state.counts ++ count ∷ [] } in
        either (CommitStands ops) (length state'.counts == length state.writes) (checked state')
        (go state' (Checking slot_begin))
        (either (CommitStands ops) (tells_intent state) (go state' (Counting 0)) (go state' (Saving 0 words_begin))
        (asked, tt) (asked, tt)) (asked, tt)

    next_count_runs : (nth : ℕ) → CommitStands ops (next_count state nth)
    next_count_runs nth =
        either (CommitStands ops) (nth == length state.writes) (go state Deciding) (go state (Counting nth)) (asked, tt)
        (asked, tt)

    on_list_runs : (now : Now ListPoint (Unit {0})) → CommitStands ops (on_list state now)
    on_list_runs (At place) = (asked, tt)
    on_list_runs (Over done) = (asked, tt)

    on_slot_runs : (now : Now SlotPoint SlotEnd) → StateFits shape state → state.records ≡ records_of state
        → length state.counts < length state.writes
        → CommitStands ops (on_slot state now)
    on_slot_runs (At place) fits are l = (asked, tt)
    on_slot_runs (Over (Free count)) fits are l = next_check_runs count
    on_slot_runs (Over (NotMoved slot found)) fits are l = (
      asked,
      subst (λ (rs : List Record). writes_key state.writes (slice_index_or rs (length state.counts) no_record).key
          ≡ true) (sym are)
          (nth_written state.claims state.writes (unwritten state.writes state.guards) (length state.counts) l
          fits.written),
    )

    full_fits : (full : Lock) → StateFits shape state → writes_key state.writes (lock_key full) ≡ true
        → (has_passed (Full full) ≡ false) × FullFits (written_keys ops) (Full full)
    full_fits full fits e = (
      refl,
      (
        written_is_key state (lock_key full) fits e,
        subst (λ keys. key_bound shape (lock_key full) ≤ keys_bound shape keys) asked.written
            (written_bound state.writes (lock_key full) e),
      ),
    )

    on_return_runs : (full : Lock) (now : Now ℕ (Unit {0})) → StateFits shape state
        → writes_key state.writes (lock_key full) ≡ true
        → CommitStands ops (on_return state full now)
    on_return_runs full (At given) fits e = (asked, e)
    on_return_runs full (Over done) fits e = refused_runs (refusal.Full full) (λ t. e) (full_fits full fits e)

    on_words_runs : (nth : ℕ) (now : Now (List ℕ) (List ℕ)) → CommitStands ops (on_words state nth now)
    on_words_runs nth (At got) = (asked, tt)
    on_words_runs nth (Over old) = (asked, tt)

    on_copy_runs : (nth : ℕ) (old : List ℕ) (now : Now CopyPoint (Unit {0}))
        → CommitStands ops (on_copy state nth old now)
    on_copy_runs nth old (At place) = (asked, tt)
    on_copy_runs nth old (Over done) = (asked, tt)

    on_install_runs : (nth : ℕ) (now : Now InstallPoint (Unit {0})) → CommitStands ops (on_install state nth now)
    on_install_runs nth (At place) = (asked, tt)
    on_install_runs nth (Over done) =
        either (CommitStands ops) (nth + 1 == length state.writes) (go state Publishing)
        (go state (Saving (nth + 1) words_begin)) (asked, tt) (asked, tt)

    next_free_runs : (nth : ℕ) → CommitStands ops (next_free state nth)
    next_free_runs nth =
        either (CommitStands ops) (nth == length state.records) (ended state) (go state (Freeing nth))
        (either (CommitStands ops) (tells_intent state) (go state Ending) (over state (Committed (state.last + 1)))
        (asked, tt) (asked, (refl, tt))) (asked, tt)

    -- a word is taken
    pub commit_runs : (at : CommitPoint) (found : ℕ) → StateFits shape state → CommitFits shape state at
        → FullIsWritten state at
        → CommitStands ops (commit_after state at found)
    commit_runs (Listing at) found fits c w = on_list_runs (list_after state at)
    commit_runs (Locking at) found fits c w = on_lock_runs (lock_after (places state) state.seen state.held at found)
    commit_runs (Checking at) found fits c w =
        on_slot_runs (slot_after (record_place state (length state.counts)) at found) fits c.0 c.2.1
    commit_runs (Returning given full) found fits c w =
        on_return_runs full (unlock_after (places state) given) fits w
    commit_runs (Counting nth) found fits c w = next_count_runs (nth + 1)
    commit_runs Deciding found fits c w = (asked, tt)
    commit_runs (Saving nth got) found fits c w =
        on_words_runs nth (words_after (record_place state nth) got found)
    commit_runs (Copying nth old at) found fits c w = on_copy_runs nth old (copy_after (record_place state nth) at)
    commit_runs (Installing nth at) found fits c w =
        on_install_runs nth (install_after (record_place state nth) at)
    commit_runs Publishing found fits c w = next_free_runs (length state.writes)
    commit_runs (Freeing nth) found fits c w = next_free_runs (nth + 1)
    commit_runs (Clearing (refusal.Locked lock)) found fits c w = (asked, (refl, tt))
    commit_runs (Clearing (refusal.Newer lock)) found fits c w = (asked, (refl, tt))
    commit_runs (Clearing (refusal.Full lock)) found fits c w = (asked, full_fits lock fits w)
    commit_runs Ending found fits c w = (asked, (refl, tt))

    -- the commit is asked
    pub ask_commit_runs : CommitStands ops (ask_commit shape state)
    ask_commit_runs =
        let none = record state { read = None } in
        let locking = at (committing state) (Committing (commit_begin (committing state))) in
        either (CommitStands ops) (length state.writes == 0) (over none ReadOnly)
        (if state.last == greatest_number shape.form then over none Spent else locking) (asked, (refl, tt))
        (either (CommitStands ops) (state.last == greatest_number shape.form) (over none Spent) locking
        (asked, (refl, tt))
        (either (λ place. CommitStands ops (at (committing state) (Committing place))) (tells_intent (committing state))
        (Listing list_begin) (Locking lock_begin) (asked, tt) (asked, tt)))
